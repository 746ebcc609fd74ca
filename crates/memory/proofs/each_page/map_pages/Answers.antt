-- `memory::each_page::map_pages` meets its contract: the slots that are lent are those of the table (`filled_slots`).
-- Assumes nothing.
use native.Mathlib.Omega.{arith}
use Rattle.memory.specs.Walked.{walked_entry}
use Rattle.memory.proofs.Laws.{filled_slots}
use Rattle.memory.proofs.each_page.map_pages.Goals as goal

pub returns-then-last-window : goal.returns-then-last-window
returns-then-last-window c =
    let a = c.args in
    filled_slots a.pages.now a.slot a.count _ _ (walked_entry a.window) _ (omega (arith, c.smaller-first.ensures)) (omega (arith, c.smaller-first.ensures, c.smaller.ensures)) c.map_straight.ensures

pub returns-else-last-window : goal.returns-else-last-window
returns-else-last-window c =
    let a = c.args in
    filled_slots a.pages.now a.slot a.count _ _ (walked_entry a.window) _ (omega (arith, c.smaller-first.ensures)) (omega (arith, c.smaller-first.ensures, c.smaller.ensures)) c.map_around.ensures
