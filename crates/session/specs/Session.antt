-- A SESSION OF THE BOARD: what crate runs calls `session` (runs/specs/Session.antt), by the board's rules. The contracts of `run_session` and
-- `run_words` cite `session board_rules`. One record's `refusal_of`, `answer_of` and `after_of` are of crate event.
-- The sentences in quotation marks are document 01's. Assumes nothing.
use Rattle.std.specs.Prelude.{◌≡◌, ℕ, eqb}
use Rattle.refusals.specs.Refusals.{number_of_refusal}
use Rattle.runs.specs.Machine.{Rules}
use Rattle.runs.specs.Session.{SessionOutcome}
use Rattle.bandai_fcg.specs.declared.board.Board.{Board}
use Rattle.validity.specs.Valid.{valid_board}
use Rattle.event.specs.declared.Event.{Event}
use Rattle.event.specs.EventWords.{with_count}
use Rattle.event.specs.Event.{refusal_of, after_of, answer_of}
use Rattle.session.specs.declared.SessionEnd.{SessionEnd}

-- the record with the count 1, "else alike"
abbrev pub single_of : Event → Event
single_of e = with_count 1 e

-- two records that are alike but for their counts: the first is the second with the first's count
abbrev pub ElseAlike : Event → Event → Type 0
ElseAlike e f = e ≡ with_count e.count f

-- one record's rules are crate event's, and valid is crate validity's
unfoldable pub board_rules : Rules Board Event
board_rules = record {
  is_clocks = λ e. eqb e.kind 2;
  count = λ e. e.count;
  single = single_of;
  refusal = λ b e. refusal_of e b.bandai;
  flags = λ b e. (answer_of e b).flags;
  value = λ b e. (answer_of e b).value;
  step = λ b e. after_of e b;
  valid = valid_board;
}

-- what the functions give of a session, its refusal as a number: 0 where it is not refused as a whole
pub record Ended : Type 0 where
  pub board : Board
  pub records : ℕ
  pub refused : ℕ
  pub refusal : ℕ

abbrev pub ended : SessionEnd → Ended
ended e = record { board = e.board; records = e.records; refused = e.refused; refusal = number_of_refusal e.refusal }

-- the same of a session's outcome; its answers are the buffer's last contents
unfoldable pub session_end : SessionOutcome Board → Ended
session_end s = record { board = s.state; records = s.records; refused = s.refused; refusal = s.refusal }
