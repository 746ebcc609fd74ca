-- What a machine has to satisfy for the two runs to agree: seven laws, which a concrete board proves. Assumes nothing.
use Rattle.std.specs.Prelude.{◌≡◌, ℕ, zero, suc, ◌<◌, true}
use Rattle.runs.specs.Machine.{Machine}

module _ {State Event : Type 0} (M : Machine State Event) where
  open M.rules use {refusal, step}

  -- the state after the record e, n times in turn
  unfoldable pub times : ℕ → State → Event → State
  times zero s e = s
  times (suc n) s e = times n (step s e) e

  -- the record e, n times in turn, is accepted each time
  unfoldable pub Accepts : ℕ → State → Event → Type 0
  Accepts zero s e = Unit {0}
  Accepts (suc n) s e = (refusal s e ≡ 0) × Accepts n (step s e) e

-- Good: a state that is typed and valid. Typed: an event whose fields fit their widths, as in every program's memory
module _ {State Event : Type 0} (M : Machine State Event) (Good : State → Type 0) (Typed : Event → Type 0) where
  open M.rules use {is_clocks, count, single, refusal, step, valid}
  open M.file use {encode, read}

  pub record Laws : Type 0 where
    -- a good state is not refused with 12
    pub good_valid : (s : State) → Good s → valid s ≡ true
    -- a record leaves a good state good, whether it is refused or not
    pub kept : (s : State) (e : Event) → Good s → Typed e → Good (step s e)
    -- the single clock of a clocks record is a clocks record of count 1
    pub single_clocks : (e : Event) → is_clocks e ≡ true → is_clocks (single e) ≡ true
    pub single_count : (e : Event) → is_clocks e ≡ true → count (single e) ≡ 1
    -- "fields its kind doesn't name are ignored": two clocks records of one count are refused alike and lead to one state
    pub clocks_alike : (s : State) (e f : Event) → is_clocks e ≡ true → is_clocks f ≡ true → count e ≡ count f → (refusal s e ≡ refusal s f) × (step s e ≡ step s f)
    -- where n clocks one by one are accepted, the clocks record of count n is, and it leads where they lead
    pub counted : (s : State) (e : Event) → Good s → Typed e → is_clocks e ≡ true → 1 < count e → Accepts M (count e) s (single e) →
        (refusal s e ≡ 0) × (step s e ≡ times M (count e) s (single e))
    -- the file of a good state is read back to it
    pub read_back_lem : (s : State) → Good s → ◌≡◌ {A = ℕ × State} (read (encode s)) (0, s)
