-- `board_lines::state::reader_line` meets its contract: part by part.
-- Assumes nothing.
use Rattle.std.proofs.Common.{sym, rules}
use Rattle.output.specs.PutLaws.{put_append}
use Rattle.board_lines.specs.BoardLines.{reader_line}
use Rattle.board_lines.proofs.state.reader_line.Goals as goal

pub returns : goal.returns
unfolding reader_line
returns c = (rw (c.hex_line.ensures.0, c.put_pattern.ensures.0, c.flag.ensures, c.words-words.ensures) (sym (put_append _ _ _)), search rules)
