-- `memory::each_page::map_starts` meets its contract: the slots that are lent are those of the table (`filled_slots`).
-- Assumes nothing.
use native.Mathlib.Omega.{arith}
use lib.ListN.{length}
use Rattle.memory.specs.Walked.{start_entry}
use Rattle.memory.proofs.Laws.{filled_slots}
use Rattle.memory.proofs.each_page.map_starts.Goals as goal

pub returns : goal.returns
returns c =
    let a = c.args in
    filled_slots a.pages.now a.slot (length a.starts.now) _ _ (start_entry a.window a.starts.now) _ (omega (arith, c.smaller-first.ensures)) (omega (arith, c.smaller-first.ensures, c.smaller.ensures)) c.map_each.ensures
