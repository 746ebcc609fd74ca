-- The session as the code walks it: it begins with the two tests, and each turn steps one record, stores its answer and counts it if refused.
-- It is the session of crate runs by the board's rules (TurnsLaws). Definitions; a reader may skip them. Assumes nothing.
use Rattle.std.specs.Prelude.{Bool, List, [], ◌∷◌, ℕ, suc, ◌+◌, ◌*◌, ◌/◌, ◌≤◌, length, set, eqb, leb, ltb}
use Rattle.laws.specs.Choice.{pick}
use Rattle.runs.specs.Session.{SessionOutcome, refused_one}
use Rattle.bandai_fcg.specs.declared.board.Board.{Board}
use Rattle.validity.specs.Valid.{valid_board}
use Rattle.event.specs.declared.Event.{Event}
use Rattle.event.specs.declared.Answer.{Answer}
use Rattle.event.specs.Event.{after_of, answer_of}
use Rattle.session.specs.Session.{Ended, session_end}

-- fewer whole threes of bytes than events
abbrev pub too_short : ℕ → ℕ → Bool
too_short events bytes = ltb (bytes / 3) events

-- the refusal of the session as a whole
abbrev pub refusal_for : Board → ℕ → ℕ → ℕ
refusal_for b events bytes = pick (valid_board b) (pick (too_short events bytes) 10 0) 12

-- before the first turn: the turns to take are none where the session is refused
abbrev pub begin_with : ℕ → Board → ℕ → Ended
begin_with refusal b events = record { board = b; records = pick (eqb refusal 0) events 0; refused = 0; refusal = refusal }

unfoldable pub begin_of : Board → ℕ → ℕ → Ended
begin_of b events bytes = begin_with (refusal_for b events bytes) b events

-- the records that have a turn
abbrev pub turns_taken : Board → List Event → List ℕ → List Event
turns_taken b es buffer = pick (eqb (refusal_for b (length es) (length buffer)) 0) es []

-- three bytes side by side
abbrev pub put_answer : List ℕ → ℕ → Answer → List ℕ
put_answer buffer at a = set (set (set buffer at a.refusal) (at + 1) a.flags) (at + 2) a.value

-- the same where there is room for them
abbrev pub answer_put : List ℕ → ℕ → Answer → List ℕ
answer_put buffer at a = pick (leb (at + 3) (length buffer)) (put_answer buffer at a) buffer

-- one turn: the session after it, and the buffer
unfoldable pub turn_end : Ended → Event → Ended
turn_end r e = record {
  board = after_of e r.board;
  records = r.records;
  refused = r.refused + refused_one (answer_of e r.board).refusal;
  refusal = r.refusal;
}

unfoldable pub turn_buffer : Ended → Event → ℕ → List ℕ → List ℕ
turn_buffer r e i buffer = put_answer buffer (3 * i) (answer_of e r.board)

-- the turns from i on
unfoldable pub turns_from : Ended → ℕ → List ℕ → List Event → Ended × List ℕ
turns_from r i buffer [] = (r, buffer)
turns_from r i buffer (e ∷ es) = turns_from (turn_end r e) (suc i) (turn_buffer r e i buffer) es

-- what the turns come to, out of a session's outcome: what is given, and the buffer
abbrev pub parts : SessionOutcome Board → Ended × List ℕ
parts s = (session_end s, s.answers)

-- no more records are counted than had a turn
unfoldable pub CountsWithin : Ended → ℕ → Type 0
CountsWithin r i = r.refused ≤ i
