-- THE STATE FILE, as document 01 lays it out: what any bytes are read as (`read_of`), and the board's file as crate runs speaks of it
-- (`board_file`). The contracts cite the writer of crate runs at the board, `write valid_board board_file` (runs/specs/Checkpoint.antt). The
-- file of a board, `encode`, and in either form `encode_as`, is in crate state_codec: read it first. `decode` need not be believed:
-- `read_written`, `Written-Read` and `unwritten_refused` in StateFileLaws say what `read_of` gives without it. Each holds for every board,
-- valid or not, and every list.
-- Assumes nothing.
use Rattle.std.specs.Prelude.{◌&&◌, List, ℕ, Result, Ok, Err}
use Rattle.refusals.specs.Refusals.{refusal_number}
use Rattle.refusals.specs.declared.Refusal.{Refusal}
use Rattle.laws.specs.Choice.{pick}
use Rattle.laws.specs.Lists.{same}
use Rattle.runs.specs.Machine.{File}
use Rattle.runs.specs.Checkpoint.{WriteOutcome}
use Rattle.bandai_fcg.specs.declared.board.Board.{Board}
use Rattle.bandai_fcg.specs.Board.{empty_board}
use Rattle.validity.specs.Valid.{valid_board}
use Rattle.state_codec.specs.Encode.{encode_as, encode}
use Rattle.state_codec.specs.Decode.{file_form, decode}

-- READING. The refusal, or 0, and the board: 11 not a writable state file, and the empty board
pub record ReadBack : Type 0 where
  pub refusal : ℕ
  pub board : Board

abbrev pub refused_file : ReadBack
refused_file = record { refusal = 11; board = empty_board }

-- a file is read if it is, in its form, the file of a valid board
unfoldable pub read_of : List ℕ → ReadBack
read_of f = pick (valid_board (decode f) && same f (encode_as (file_form f) (decode f))) (record { refusal = 0; board = decode f }) refused_file

-- THE BOARD'S FILE, for the writer and the checkpoint of crate runs
unfoldable pub board_file : File Board
board_file = record { encode = encode; read = λ f. ((read_of f).refusal, (read_of f).board) }

-- WHAT THE CODE ANSWERS, as numbers: what `read` returns; what `write` returns, with the buffer that it leaves
abbrev pub read_answer : Result Board Refusal → ReadBack
read_answer (Ok b) = record { refusal = 0; board = b }
read_answer (Err e) = record { refusal = refusal_number e; board = empty_board }

abbrev pub write_answer : Result ℕ Refusal → List ℕ → WriteOutcome
write_answer (Ok n) buffer = record { refusal = 0; size = n; buffer = buffer }
write_answer (Err e) buffer = record { refusal = refusal_number e; size = 0; buffer = buffer }
