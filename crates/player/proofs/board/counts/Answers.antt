-- `player::board::counts` meets its contract.
-- Assumes nothing.
use Rattle.std.proofs.Common.{refl, ◌∙◌}
use Rattle.player.specs.Player.{counts_of}
use Rattle.player.proofs.board.counts.Goals as goal

pub returns : goal.returns
unfolding counts_of
returns c = c.answer.ensures ∙ rw c.uncounted-fresh.ensures refl
