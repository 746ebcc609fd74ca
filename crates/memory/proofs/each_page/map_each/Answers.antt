-- `memory::each_page::map_each` meets its contract: after i turns the slots are `filled` with i entries.
-- Assumes nothing.
use mathlib.Core.Path.{◌≡◌}
use native.Mathlib.Nat.{zero-add}
use Rattle.laws.proofs.TableLaws.{filled_none, filled_more}
use Rattle.memory.specs.Walked.{start_entry}
use Rattle.memory.proofs.each_page.map_each.Goals as goal

pub loop-i-init : goal.loop-i-init
loop-i-init c = filled_none _ _ _

pub loop-i-preserved : goal.loop-i-preserved
unfolding start_entry
loop-i-preserved c =
    let l = c.loop-i in
    let a = c.args in
    let e : c.page_at.result ≡ start_entry a.window a.starts.now l.i = c.page_at.ensures in
    rw (e, l.invariant) (rw zero-add at (filled_more a.slots.now 0 (start_entry a.window a.starts.now) l.i))
