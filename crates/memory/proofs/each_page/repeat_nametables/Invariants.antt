-- `memory::each_page::repeat_nametables` meets its contract: the loop copies the entries at 8 to those at 12, and reads none that it has
-- written; past the table's end nothing is written (`filled_past`).
-- Assumes nothing.
use mathlib.Core.Path.{◌≡◌}
use Rattle.laws.specs.Table.{filled}
use Rattle.memory.specs.Walked.{nametable_in}
use Rattle.memory.proofs.each_page.repeat_nametables.Given as goal

abbrev pub invariant-loop-i : goal.invariant-loop-i
invariant-loop-i l = l.pages ≡ filled l.initial.pages 12 (nametable_in l.initial.pages) l.i
