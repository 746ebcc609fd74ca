-- `memory::each_page::repeat_nametables` meets its contract: the loop copies the entries at 8 to those at 12, and reads none that it has
-- written; past the table's end nothing is written (`filled_past`).
-- Assumes nothing.
use mathlib.Core.Path.{◌≡◌, ap, ◌∙◌}
use Prim.Native.Nat.{◌+◌}
use native.Mathlib.Omega.{arith}
use lib.ListN.{length, get_or, set}
use Rattle.laws.specs.Table.{filled}
use Rattle.laws.proofs.TableLaws.{filled_none, filled_more, filled_out, length_filled}
use Rattle.memory.specs.Walked.{nametable_in}
use Rattle.memory.proofs.Laws.{filled_past}
use Rattle.memory.proofs.each_page.repeat_nametables.Goals as goal
use Rattle.memory.proofs.each_page.repeat_nametables.Goals.{then-i-pages, else-i-pages}

pub loop-i-init : goal.loop-i-init
loop-i-init c = filled_none _ _ _

pub loop-i-preserved : goal.loop-i-preserved
loop-i-preserved c =
    let l = c.loop-i in
    let s = c.args.pages.now in
    let long : length l.pages ≡ length s = rw l.invariant (length_filled s 12 (nametable_in s) l.i) in
    let e : get_or l.pages (8 + l.i) 0 ≡ nametable_in s l.i = rw l.invariant (filled_out s 12 (nametable_in s) l.i (8 + l.i) (λ i h k. omega arith)) in
    let more : set l.pages (12 + l.i) (nametable_in s l.i) ≡ filled s 12 (nametable_in s) (l.i + 1) = rw l.invariant (filled_more s 12 (nametable_in s) l.i) in
    elim c.if-i-pages.branch [
      | then-i-pages w ↦ w.pages-is ∙ ap (set l.pages (12 + l.i)) e ∙ more
      | else-i-pages w ↦ w.pages-is ∙ l.invariant ∙ filled_past s 12 (nametable_in s) l.i (l.i + 1) (omega arith) (omega (arith, long, w.if-i-pages.false))
    ]
