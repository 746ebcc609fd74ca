-- `memory::each_page::walk` meets its contract: after k turns it has gone k pages.
-- Assumes nothing.
use mathlib.Core.Path.{◌≡◌}
use Rattle.memory.specs.Walked.{walked_at}
use Rattle.memory.proofs.each_page.walk.Given as goal

abbrev pub invariant-loop-k : goal.invariant-loop-k
invariant-loop-k l = l.at ≡ walked_at l.window l._k
