-- What is claimed of the two runs: demand 3 as a type, `Equivalence`. The same from a list of events is in Ways.
-- Definitions only; the proof is in Theorem. The sentences in quotation marks are document 01's. Assumes nothing.
use Rattle.std.specs.Prelude.{◌≡◌, ◌⊎◌, true, List, [], ◌∷◌, ◌++◌}
use Rattle.laws.specs.Choice.{pick}
use Rattle.laws.specs.Lists.{Each}
use Rattle.runs.specs.Machine.{Machine}
use Rattle.runs.specs.Log.{Entry, events_of}
use Rattle.runs.specs.Batched.{Call, Session, Checkpoint, Turn, batched}
use Rattle.runs.specs.Stepwise.{Stepwise, feed, stepwise}

-- of one call that was made: "Each leaves a valid state, so none is refused with 12"; it is accepted, or refused with 10 and "leaves the state as it got it"
pub record Orderly {State : Type 0} (Good : State → Type 0) (t : Turn State) : Type 0 where
  pub got_good : Good t.before
  pub left_good : Good t.after
  pub answer : (t.refusal ≡ 0) ⊎ ((t.refusal ≡ 10) × (t.after ≡ t.before))

-- the events lent to a call fit their widths, as all that a program can lend do; its buffer may be any
unfoldable pub TypedCall : {Event : Type 0} → (Event → Type 0) → Call Event → Type 0
TypedCall Typed (Session es buffer) = Each Typed es
TypedCall Typed (Checkpoint buffer) = Unit {0}

module _ {State Event : Type 0} (M : Machine State Event) where
  open M.rules use {is_clocks}

  -- "refuses no clocks"
  unfoldable pub NoClocksRefused : List (Entry Event) → Type 0
  NoClocksRefused = Each (λ x. is_clocks x.event ≡ true → x.refusal ≡ 0)

  -- "each other record's three answer bytes": a log without its clocks records
  abbrev pub other_one : Entry Event → List (Entry Event)
  other_one x = pick (is_clocks x.event) [] (x ∷ [])

  unfoldable pub others : List (Entry Event) → List (Entry Event)
  others [] = []
  others (x ∷ xs) = other_one x ++ others xs

  -- "the quick one refuses none, each other record's three answer bytes are equal on both, and so are the end states in every field"
  pub record Agrees (log : List (Entry Event)) (end : State) (steps : Stepwise State Event) : Type 0 where
    pub no_clocks_refused : NoClocksRefused log
    pub same_others : others log ≡ others steps.log
    pub same_end : end ≡ steps.end

  -- demand 3 of one start state and one list of calls, whole
  pub record Equivalent (Good : State → Type 0) (s : State) (calls : List (Call Event)) : Type 0 where
    -- (a) of every call
    pub orderly : Each (Orderly Good) (batched M s calls).turns
    -- (b) "The plain cabinet is fed the start state and those records in order .. If it refuses no clocks, .."
    pub agrees :
        let batch = batched M s calls in
        let steps = stepwise M s (feed M (events_of batch.log)) in
        NoClocksRefused steps.log → Agrees batch.log batch.end steps

  -- DEMAND 3: for every good start state and every list of calls. Good: typed and valid
  abbrev pub Equivalence : (Good : State → Type 0) (Typed : Event → Type 0) → Type 0
  Equivalence Good Typed = (s : State) (calls : List (Call Event)) → Good s → Each (TypedCall Typed) calls → Equivalent Good s calls
