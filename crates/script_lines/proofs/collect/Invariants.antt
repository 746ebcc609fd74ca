-- `script_lines::collect` meets its contract: the invariant is what is left to take.
-- Assumes nothing.
use mathlib.Core.Path.{◌≡◌}
use Prim.Native.Nat.{◌≤◌, ◌-◌}
use lib.ListN.{length, drop}
use Rattle.script_lines.specs.ScriptLines.{whole_lines, taken_from, taken_of}
use Rattle.script_lines.proofs.collect.Given as goal

abbrev pub invariant-loop-at : goal.invariant-loop-at
invariant-loop-at l = (l.lines ≤ l.at) × (taken_from l.at l.count l.lines l.pending (whole_lines (drop l.at l.text)) ≡ taken_of l.text l.from l.initial.pending)

abbrev pub decreases-loop-at : goal.decreases-loop-at
decreases-loop-at l = length l.text - l.at
