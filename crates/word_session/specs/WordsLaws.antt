-- Laws of the turns over records as words. Assumes nothing.
use Rattle.std.specs.Prelude.{◌≡◌, refl, Bool, true, false, List, ℕ, suc, ◌+◌, ◌*◌, ◌-◌, ◌/◌, ◌<◌, ◌≤◌, eqb, length, take, drop}
use Rattle.std.proofs.Common.{arith}
use Rattle.laws.specs.Choice.{pick}
use Rattle.runs.specs.Session.{session}
use Rattle.bandai_fcg.specs.declared.board.Board.{Board}
use Rattle.event.specs.declared.Event.{Event}
use Rattle.event.specs.Event.{answer_of}
use Rattle.session.specs.Session.{Ended, board_rules}
use Rattle.session.specs.Turns.{refusal_for, begin_of, turn_end, turn_buffer, turns_from, turns_taken, parts, CountsWithin}
use Rattle.session.proofs.TurnsLaws.{session_by_turns, records_taken, length_put, begin_counts, turn_counts}
use Rattle.event_words.specs.Words.{event_at, events_of}
use Rattle.event_words.proofs.WordsLaws.{length_events, events_from}
use Rattle.event_step.specs.declared.Arrays.{Arrays}
use Rattle.word_session.specs.declared.Run.{Run}
use Rattle.word_session.specs.Apart.{end_of, RunWithin}

-- the records that are left for the turns from i on, of n
abbrev pub left_from : List ℕ → ℕ → ℕ → List Event
left_from ws n i = take (n - i) (events_of (drop (3 * i) ws))

-- a turn takes the first of them
pub turn_more : (r : Ended) (buffer ws : List ℕ) (n i : ℕ) → i < n → 3 * n ≤ length ws →
    turns_from (turn_end r (event_at ws i)) (i + 1) (turn_buffer r (event_at ws i) i buffer) (left_from ws n (i + 1)) ≡ turns_from r i buffer (left_from ws n i)
unfolding turns_from
turn_more r buffer ws n i h k =
    let more : n - i ≡ suc (n - (i + 1)) = omega arith in
    let next : i + 1 ≡ suc i = omega arith in
    rw (events_from ws i (omega arith), more, next) refl

pub went_on : (r r' : Ended) (e : Event) (buffer buffer' ws : List ℕ) (n i : ℕ) → r' ≡ turn_end r e → buffer' ≡ turn_buffer r e i buffer → e ≡ event_at ws i → i < n → 3 * n ≤ length ws →
    turns_from r' (i + 1) buffer' (left_from ws n (i + 1)) ≡ turns_from r i buffer (left_from ws n i)
went_on r r' e buffer buffer' ws n i p q u h k = rw (p, q, u) (turn_more r buffer ws n i h k)

-- before the first turn all are left
pub left_all : (ws : List ℕ) (n : ℕ) → left_from ws n 0 ≡ take n (events_of ws)
left_all ws n =
    let all : n - 0 ≡ n = omega arith in
    rw all refl

-- a turn leaves the buffer's length
pub length_turn : (r : Ended) (e : Event) (i : ℕ) (buffer : List ℕ) → length (turn_buffer r e i buffer) ≡ length buffer
unfolding turn_buffer
length_turn r e i buffer = length_put (3 * i) buffer (answer_of e r.board)

-- after the last turn none is left
pub turns_end : (r : Ended) (buffer ws : List ℕ) (n i : ℕ) → n ≤ i → turns_from r i buffer (left_from ws n i) ≡ (r, buffer)
unfolding turns_from
turns_end r buffer ws n i h =
    let none : n - i ≡ 0 = omega arith in
    rw none refl

-- the records that have a turn, by their number
pub taken : (b : Board) (es : List Event) (buffer : List ℕ) → take (begin_of b (length es) (length buffer)).records es ≡ turns_taken b es buffer
taken b es buffer = records_taken b es buffer

-- the session of the records of words, by its turns
pub words_by_turns : (b : Board) (ws buffer : List ℕ) →
    turns_from (begin_of b (length ws / 3) (length buffer)) 0 buffer (take (begin_of b (length ws / 3) (length buffer)).records (events_of ws)) ≡ parts (session board_rules b (events_of ws) buffer)
words_by_turns b ws buffer = rw (← length_events ws, taken b (events_of ws) buffer) (session_by_turns b (events_of ws) buffer)

-- no more turns than there are records
pub begins_within : (b : Board) (events bytes : ℕ) → (begin_of b events bytes).records ≤ events
unfolding begin_of
begins_within b events bytes = go (eqb (refusal_for b events bytes) 0)
  where
    go : (t : Bool) → pick t events 0 ≤ events
    go true = omega arith
    go false = omega arith

-- what is counted is the same whatever the arrays
within_run : (r : Run) (a : Arrays) (i : ℕ) → CountsWithin (end_of r a) i → RunWithin r i
unfolding CountsWithin end_of RunWithin
within_run r a i h = h

run_within : (r : Run) (a : Arrays) (i : ℕ) → RunWithin r i → CountsWithin (end_of r a) i
unfolding CountsWithin end_of RunWithin
run_within r a i h = h

-- so it is within the turns before the first one and after each
pub begins_within_turns : (b : Board) (events bytes : ℕ) (r : Run) (a : Arrays) → end_of r a ≡ begin_of b events bytes → RunWithin r 0
begins_within_turns b events bytes r a k = within_run r a 0 (rw k (begin_counts b events bytes))

pub stays_within_turns : (r r' : Run) (a a' : Arrays) (e : Event) (i : ℕ) → end_of r' a' ≡ turn_end (end_of r a) e → RunWithin r i → RunWithin r' (i + 1)
stays_within_turns r r' a a' e i k h = within_run r' a' (i + 1) (rw k (turn_counts (end_of r a) e i (run_within r a i h)))
