-- `memory::each_page::map_around` meets its contract: after i turns the slots are `filled` with i entries, and the walk has gone i pages.
-- Assumes nothing.
use mathlib.Core.Path.{◌≡◌}
use Rattle.laws.specs.Table.{filled}
use Rattle.memory.specs.Walked.{walked_at, walked_entry}
use Rattle.memory.proofs.each_page.map_around.Given as goal

abbrev pub invariant-loop-i : goal.invariant-loop-i
invariant-loop-i l =
    (l.at ≡ walked_at l.window l.i) × (l.slots ≡ filled l.initial.slots 0 (walked_entry l.window) l.i)
