-- `memory::each_page::map_each` meets its contract: after i turns the slots are `filled` with i entries.
-- Assumes nothing.
use mathlib.Core.Path.{◌≡◌}
use Rattle.laws.specs.Table.{filled}
use Rattle.memory.specs.Walked.{start_entry}
use Rattle.memory.proofs.each_page.map_each.Given as goal

abbrev pub invariant-loop-i : goal.invariant-loop-i
invariant-loop-i l = l.slots ≡ filled l.initial.slots 0 (start_entry l.window l.starts) l.i
