-- `board_lines::state::chip_lines` meets its contract: part by part.
-- Assumes nothing.
use Rattle.std.proofs.Common.{sym, rules}
use Rattle.output.specs.PutLaws.{put_append}
use Rattle.board_lines.specs.BoardLines.{chip_lines}
use Rattle.board_lines.proofs.state.chip_lines.Goals as goal

pub returns : goal.returns
unfolding chip_lines
returns c = (rw (c.chip_line-2.ensures.0, c.chip_line.ensures.0) (sym (put_append _ _ _)), search rules)
