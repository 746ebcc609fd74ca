-- `memory::each_page::map_straight` meets its contract: after i turns the slots are `filled` with i entries, and page i lies straight on.
-- Assumes nothing.
use mathlib.Core.Path.{◌≡◌}
use Prim.Native.Nat.{◌+◌, ◌*◌}
use Rattle.laws.specs.Table.{filled}
use Rattle.memory.specs.Walked.{walked_entry}
use Rattle.memory.proofs.each_page.map_straight.Given as goal

abbrev pub invariant-loop-i : goal.invariant-loop-i
invariant-loop-i l =
    (l.at ≡ l.window.base + l.i * 1024) × (l.slots ≡ filled l.initial.slots 0 (walked_entry l.window) l.i)
