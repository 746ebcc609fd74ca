-- THE RECORDS OF A SCRIPT: kept as words, run as a session, and the lines of its answers. Read downwards. Assumes nothing.
use Rattle.std.specs.Prelude.{ℕ, ◌+◌, ◌*◌, ◌/◌, ◌%◌, List, length, take, ◌==◌, nat_lt, slice_index, slice_set}
use Rattle.laws.specs.Choice.{pick}
use Rattle.laws.specs.Lists.{blank}
use Rattle.runs.specs.Session.{SessionOutcome, session}
use Rattle.bandai_fcg.specs.declared.board.Board.{Board}
use Rattle.session.specs.declared.SessionEnd.{SessionEnd}
use Rattle.session.specs.Session.{board_rules}
use Rattle.event_words.specs.Words.{events_of}
use Rattle.output.specs.Put.{put_all}
use Rattle.lines.specs.Lines.{answer_lines, refused_lines}
use Rattle.player.specs.declared.Player.{Player}

-- the three words of record i in a list of words; as it is where there is no room
unfoldable pub put_record : List ℕ → ℕ → List ℕ → List ℕ
put_record ws i words =
    pick (nat_lt i (length ws / 3)) (slice_set (slice_set (slice_set ws (3 * i) (slice_index words 0)) (3 * i + 1) (slice_index words 1)) (3 * i + 2) (slice_index words 2)) ws

-- the lines of a session of n records, by its refusal and its answers
unfoldable pub session_lines : ℕ → List ℕ → ℕ → List ℕ
session_lines refusal answers n = pick (refusal == 0) (answer_lines (take (3 * n) answers)) (refused_lines refusal n)

-- the session, with room for the answers of 64 records
abbrev pub session_on : Board → List ℕ → SessionOutcome Board
session_on b ws = session board_rules b (events_of ws) (blank 192)

-- what is written of it from a place on
unfoldable pub written : Board → List ℕ → List ℕ → ℕ → List ℕ × ℕ
written b ws out at = put_all (out, at) (session_lines (session_on b ws).refusal (session_on b ws).answers (length ws / 3))

-- what it leads to: the board, the records run and those refused, and the next place of the output
pub record Ran : Type 0 where
  pub board : Board
  pub records : ℕ
  pub refused : ℕ
  pub at : ℕ

unfoldable pub ran_of : Board → List ℕ → List ℕ → ℕ → Ran
ran_of b ws out at =
    record { board = (session_on b ws).state; records = (session_on b ws).records; refused = (session_on b ws).refused; at = (written b ws out at).1 }

-- the same of what a function gives, and the place where it ends
abbrev pub ran : SessionEnd → ℕ → Ran
ran e at = record { board = e.board; records = e.records; refused = e.refused; at = at }

abbrev pub ran_out : Board → List ℕ → List ℕ → ℕ → List ℕ
ran_out b ws out at = (written b ws out at).0

-- the player after it; the counts go on modulo 2^64
unfoldable pub pending_of : Player → List ℕ → List ℕ → Player × List ℕ
pending_of p ws out = (
  record {
    board = (ran_of p.board ws out p.place).board;
    records = (p.records + (ran_of p.board ws out p.place).records) % 18446744073709551616;
    refused = (p.refused + (ran_of p.board ws out p.place).refused) % 18446744073709551616;
    lines = p.lines;
    place = (ran_of p.board ws out p.place).at;
    image = p.image;
  },
  ran_out p.board ws out p.place,
)
