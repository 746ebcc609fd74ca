-- WHAT A SCRIPT LEADS TO, and what each command that changes it does: the player after it, and the output. Read downwards. Assumes nothing.
use Rattle.std.specs.Prelude.{List, [], ◌∷◌, ℕ, eqb, take}
use Rattle.laws.specs.Choice.{pick}
use Rattle.laws.specs.Lists.{blank}
use Rattle.runs.specs.Checkpoint.{write, checkpoint}
use Rattle.cart.specs.CartWords.{cart_of}
use Rattle.bandai_fcg.specs.declared.board.Board.{Board}
use Rattle.bandai_fcg.specs.Board.{empty_board, load_of}
use Rattle.validity.specs.Valid.{valid_board}
use Rattle.state_codec.specs.Encode.{file_length}
use Rattle.state_file.specs.StateFile.{ReadBack, read_of, board_file}
use Rattle.output.specs.Put.{put_all}
use Rattle.script.specs.Script.{bytes_in}
use Rattle.laws.specs.Codes.{codes}
use Rattle.lines.specs.Lines.{with_numbers, bytes_line, fault_line}
use Rattle.player.specs.declared.Player.{Player}

unfoldable pub new_player : Player
new_player = record { board = empty_board; records = 0; refused = 0; lines = 0; place = 0; image = 0 }

-- a fresh count of records; another board; another place
abbrev pub uncounted : Player → Player
uncounted p = record { board = p.board; records = 0; refused = 0; lines = p.lines; place = p.place; image = p.image }

abbrev pub with_board : Board → Player → Player
with_board b p = record { board = b; records = p.records; refused = p.refused; lines = p.lines; place = p.place; image = p.image }

abbrev pub with_place : ℕ → Player → Player
with_place n p = record { board = p.board; records = p.records; refused = p.refused; lines = p.lines; place = n; image = p.image }

-- a player that has written a text from its place on, and the output
abbrev pub placed : Player → List ℕ → List ℕ → Player × List ℕ
placed p out text = (with_place (put_all (out, p.place) text).1 p, (put_all (out, p.place) text).0)

-- FIT: the cart of the line's numbers
unfoldable pub fit_of : Player → List ℕ → List ℕ → Player × List ℕ
fit_of p v out = placed (with_board (load_of (cart_of v)).board (uncounted p)) out (with_numbers (codes "fit #\n") ((load_of (cart_of v)).refusal ∷ []))

-- COUNTS
unfoldable pub counts_of : Player → List ℕ → Player × List ℕ
counts_of p out = placed (uncounted p) out (with_numbers (codes "counts # #\n") (p.records ∷ p.refused ∷ []))

-- STOP, FILE: with room for any state file
unfoldable pub stop_of : Player → List ℕ → Player × List ℕ
stop_of p out =
    placed (with_board (checkpoint valid_board board_file p.board (blank 700)).state p) out
    (with_numbers (codes "stop # #\n") ((checkpoint valid_board board_file p.board (blank 700)).refusal ∷ (file_length p.board).length ∷ []))

unfoldable pub file_line : Board → List ℕ
file_line b = bytes_line (codes "file") (take (write valid_board board_file b (blank 700)).size (write valid_board board_file b (blank 700)).buffer)

-- RESUME: the line's file, read; refused, the board and the counts stay
unfoldable pub resumed_of : List ℕ → ReadBack
resumed_of line = read_of (take (put_all (blank 2048, 0) (bytes_in line)).1 (put_all (blank 2048, 0) (bytes_in line)).0)

unfoldable pub resume_of : Player → List ℕ → List ℕ → Player × List ℕ
resume_of p line out =
    placed (pick (eqb (resumed_of line).refusal 0) (with_board (resumed_of line).board (uncounted p)) p) out
    (with_numbers (codes "resume #\n") ((resumed_of line).refusal ∷ []))

-- a FAULTY line
unfoldable pub report_of : Player → ℕ → List ℕ → Player × List ℕ
report_of p fault out = placed p out (fault_line p.lines fault)
