-- `memory::each_page::map_straight` meets its contract: after i turns the slots are `filled` with i entries, and page i lies straight on
-- (`walked_straight`).
-- Assumes nothing.
use mathlib.Core.Path.{◌≡◌, sym, ap, ◌∙◌}
use Prim.Native.Nat.{◌+◌, ◌*◌}
use native.Mathlib.Nat.{zero-add}
use native.Mathlib.Omega.{arith}
use Rattle.laws.proofs.TableLaws.{filled_none, filled_more}
use Rattle.memory.specs.Walked.{walked_at, page_at, walked_entry}
use Rattle.memory.proofs.WalkedLaws.{walked_straight}
use Rattle.memory.proofs.each_page.map_straight.Goals as goal

pub loop-i-init : goal.loop-i-init
loop-i-init c = (omega arith, filled_none _ _ _)

pub page_at-requires : goal.page_at-requires
page_at-requires c = omega (arith, c.requires.inside, c.requires.few)

pub loop-i-preserved : goal.loop-i-preserved
unfolding walked_entry
loop-i-preserved c =
    let l = c.loop-i in
    let a = c.args in
    let w = a.window in
    let on : walked_at w l.i ≡ w.base + l.i * 1024 = walked_straight w l.i (omega (arith, c.requires.inside, c.loop-i-test.true)) in
    let e : c.page_at.result ≡ walked_entry w l.i = c.page_at.ensures ∙ ap (page_at w) (l.invariant.0 ∙ sym on) in
    (omega arith, rw (e, l.invariant.1) (rw zero-add at (filled_more a.slots.now 0 (walked_entry w) l.i)))
