-- `memory::each_page::map_around` meets its contract: after i turns the slots are `filled` with i entries, and the walk has gone i pages.
-- Assumes nothing.
use mathlib.Core.Path.{◌≡◌, refl, ap, ◌∙◌}
use Prim.Native.Nat.{◌+◌}
use native.Mathlib.Nat.{zero-add}
use native.Mathlib.Omega.{arith}
use Rattle.laws.proofs.TableLaws.{filled_none, filled_more}
use Rattle.memory.specs.Walked.{next_page, walked_at, page_at, walked_entry}
use Rattle.memory.proofs.Laws.{walked_next, reach}
use Rattle.memory.proofs.each_page.map_around.Goals as goal

pub loop-i-init : goal.loop-i-init
unfolding walked_at
loop-i-init c = (refl, filled_none _ _ _)

pub page_at-requires : goal.page_at-requires
page_at-requires c =
    let l = c.loop-i in
    reach c.args.window l.at l.i l.invariant.0 (omega arith) (omega arith)

pub next_page-at-requires : goal.next_page-at-requires
next_page-at-requires c =
    let l = c.loop-i in
    reach c.args.window l.at l.i l.invariant.0 (omega arith) (omega arith)

pub loop-i-preserved : goal.loop-i-preserved
unfolding walked_entry
loop-i-preserved c =
    let l = c.loop-i in
    let a = c.args in
    let w = a.window in
    let on : c.next_page-at.result ≡ walked_at w (l.i + 1) = c.next_page-at.ensures ∙ ap (next_page w.len) l.invariant.0 ∙ walked_next w l.i in
    let e : c.page_at.result ≡ walked_entry w l.i = c.page_at.ensures ∙ ap (page_at w) l.invariant.0 in
    (on, rw (e, l.invariant.1) (rw zero-add at (filled_more a.slots.now 0 (walked_entry w) l.i)))
