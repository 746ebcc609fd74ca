-- What the two runs are about, as parameters: a board that takes event records one at a time by its rules, and that has a state file.
-- Data only. What is asked of it is in Laws; the definitions of sessions, checkpoints and runs are made from the data alone.
-- The sentences in quotation marks are document 01's. Assumes nothing.
use Rattle.std.specs.Prelude.{ℕ, Bool, List}

-- the rules of one record. State: the state with all its fields; Event: an event record with all its fields
pub record Rules (State Event : Type 0) : Type 0 where
  -- "2 clocks (count)": whether a record is of that kind; its count; the record with the count 1, "else alike"
  pub is_clocks : Event → Bool
  pub count : Event → ℕ
  pub single : Event → Event
  -- "Each event writes three bytes to the answer buffer: the refusal number or 0; ..
  pub refusal : State → Event → ℕ
  -- .. bit 0 'device answered' and bit 1 'interrupt pending after it'; ..
  pub flags : State → Event → ℕ
  -- .. the value read, else 0."
  pub value : State → Event → ℕ
  -- the state after the record: "A refused event changes no state"
  pub step : State → Event → State
  -- the test of refusal 12, "state not valid"
  pub valid : State → Bool

-- the state file of any state
pub record File (State : Type 0) : Type 0 where
  -- the bytes of the state file
  pub encode : State → List ℕ
  -- what the reader makes of any bytes: a refusal's number, or 0, and a state
  pub read : List ℕ → ℕ × State

pub record Machine (State Event : Type 0) : Type 0 where
  pub rules : Rules State Event
  pub file : File State
