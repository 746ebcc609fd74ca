-- STATE FILES AND SESSIONS ACROSS THE BOUNDARY: those of crates state_file and session. Assumes nothing.
use Rattle.std.specs.Prelude.{List, ℕ}
use Rattle.laws.specs.Choice.{pick}
use Rattle.runs.specs.Checkpoint.{WriteOutcome}
use Rattle.runs.specs.Session.{session}
use Rattle.event.specs.declared.Event.{Event}
use Rattle.session.specs.Session.{Ended, board_rules, session_end}
use Rattle.state_file.specs.StateFile.{read_of}
use Rattle.board_codes.specs.declared.board.BoardC.{BoardC}
use Rattle.board_codes.specs.Codes.{known_board, board_of, board_c}
use Rattle.molbitak_session.specs.declared.file.Written.{Written}
use Rattle.molbitak_session.specs.declared.file.ReadBackC.{ReadBackC}
use Rattle.molbitak_session.specs.declared.run.SessionC.{SessionC}

-- a file written, whose buffer is the one that the call leaves; and read
unfoldable pub written_of : WriteOutcome → Written
written_of w = record { refusal = w.refusal; length = w.size }

unfoldable pub read_c : List ℕ → ReadBackC
read_c file = record { refusal = (read_of file).refusal; board = board_c (read_of file).board }

-- a session's end; where a code is no kind's, 12 and the board as it was
unfoldable pub end_on : BoardC → Ended → SessionC
end_on b e =
    pick (known_board b)
    (record { board = board_c e.board; records = e.records; refused = e.refused; refusal = e.refusal })
    (record { board = b; records = 0; refused = 0; refusal = 12 })

-- what is given, and the buffer's last contents
unfoldable pub session_on : BoardC → List Event → List ℕ → SessionC × List ℕ
session_on b es buffer =
    pick (known_board b)
    (end_on b (session_end (session board_rules (board_of b) es buffer)), (session board_rules (board_of b) es buffer).answers)
    (record { board = b; records = 0; refused = 0; refusal = 12 }, buffer)
