-- The session: from a state, the lent events and the lent answer buffer to all that it gives and leaves in the buffer.
-- Definitions over the rules of a machine. Contracts of the crates above cite `session`.
-- The sentences in quotation marks are document 01's. Assumes nothing.
use Rattle.std.specs.Prelude.{ℕ, ◌+◌, ◌*◌, Bool, not, List, [], ◌∷◌, ◌++◌, length, drop, leb, eqb}
use Rattle.laws.specs.Choice.{pick}
use Rattle.runs.specs.Machine.{Rules}

-- the refusal, or 0; "the end state, the number of records in the list and the number of those refused"; the buffer's last contents
pub record SessionOutcome (State : Type 0) : Type 0 where
  pub refusal : ℕ
  pub state : State
  pub records : ℕ
  pub refused : ℕ
  pub answers : List ℕ

-- room for three bytes a record; without it the refusal is 10, "buffer too short"
abbrev pub has_room : {Event : Type 0} → List Event → List ℕ → Bool
has_room es buffer = leb (3 * length es) (length buffer)

-- what a record adds to the number of those refused, by its refusal
abbrev pub refused_one : ℕ → ℕ
refused_one refusal = pick (eqb refusal 0) 0 1

-- "a session refused as a whole gives 0 for both"; "The state comes back unchanged", and "Lent memory is untouched"
abbrev pub session_refused : {State : Type 0} → ℕ → State → List ℕ → SessionOutcome State
session_refused number s buffer = record { refusal = number; state = s; records = 0; refused = 0; answers = buffer }

module _ {State Event : Type 0} (rules : Rules State Event) where
  open rules use {refusal, flags, value, step, valid}

  -- "a session is a lent list of event records, run in order from a state"; a refused record is stepped over: "the next one runs"
  unfoldable pub end_state : State → List Event → State
  end_state s [] = s
  end_state s (e ∷ es) = end_state (step s e) es

  -- "Each event writes three bytes to the answer buffer"
  unfoldable pub answer_bytes : State → List Event → List ℕ
  answer_bytes s [] = []
  answer_bytes s (e ∷ es) = refusal s e ∷ flags s e ∷ value s e ∷ answer_bytes (step s e) es

  -- "the number of those refused"
  unfoldable pub refused_count : State → List Event → ℕ
  refused_count s [] = 0
  refused_count s (e ∷ es) = refused_one (refusal s e) + refused_count (step s e) es

  -- "Longer buffers keep their tails"
  abbrev pub session_run : State → List Event → List ℕ → SessionOutcome State
  session_run s es buffer = record {
    refusal = 0;
    state = end_state s es;
    records = length es;
    refused = refused_count s es;
    answers = answer_bytes s es ++ drop (3 * length es) buffer;
  }

  -- "12 first for a call with a state; then 10"
  unfoldable pub session : State → List Event → List ℕ → SessionOutcome State
  session s es buffer =
      pick (not (valid s)) (session_refused 12 s buffer)
      (pick (not (has_room es buffer)) (session_refused 10 s buffer)
      (session_run s es buffer))
