-- Laws of the batched run: the cases of a session, what a call on a good state does, and that the run is the stepwise run of the records taken.
-- A reader may skip them. Assumes nothing but the machine's Laws, where a section says so.
use Rattle.std.specs.Prelude.{◌≡◌, ◌⊎◌, ℕ, Bool}
use Rattle.std.proofs.Math.Path.{refl}
use Rattle.std.proofs.Math.Logic.{inl, inr}
use Rattle.std.proofs.Math.Bool.{true, false}
use mathlib.Core.List.{List, [], ◌∷◌, ◌++◌}
use Rattle.laws.specs.Choice.{pick}
use Rattle.laws.proofs.ChoiceLaws.{pick_all}
use Rattle.laws.specs.Lists.{Each}
use Rattle.laws.proofs.ListsLaws.{each_append}
use Rattle.runs.specs.Machine.{Machine}
use Rattle.runs.proofs.Laws.{Laws}
use Rattle.runs.specs.Session.{end_state, answer_bytes, has_room, session_refused, session_run, session}
use Rattle.runs.specs.Checkpoint.{file_fits}
use Rattle.runs.proofs.CheckpointLaws.{checkpoint_short, checkpoint_reads}
use Rattle.runs.specs.Log.{read_answers, events_of}
use Rattle.runs.specs.Batched.{Call, Session, Checkpoint, CallOutcome, call, batched}
use Rattle.runs.specs.Stepwise.{stepwise}
use Rattle.runs.specs.Claim.{Orderly, TypedCall}
use Rattle.runs.specs.Ways.{taken, records}
use Rattle.runs.proofs.StepwiseLaws.{end_append, log_append, events_stepwise}

module _ {State Event : Type 0} (M : Machine State Event) where
  open M.rules use {refusal, flags, value, step, valid}
  open M.file use {encode, read}

  -- what the definitions say of two records and of one call, by computation: three bytes each, the second record on the state that the first
  -- left; the next call on the state that this one left
  answers_of_two : (s : State) (e f : Event) →
      answer_bytes M.rules s (e ∷ f ∷ []) ≡ refusal s e ∷ flags s e ∷ value s e ∷ refusal (step s e) f ∷ flags (step s e) f ∷ value (step s e) f ∷ []
  unfolding answer_bytes
  answers_of_two s e f = refl

  end_of_one : (s : State) (c : Call Event) → (batched M s (c ∷ [])).end ≡ (call M s c).state
  unfolding batched
  end_of_one s c = refl

  -- the session's end state and answers are those of the stepwise run of the same records; the answers are found in the buffer, whatever stands behind them
  pub end_stepwise : (s : State) (es : List Event) → end_state M.rules s es ≡ (stepwise M s es).end
  unfolding end_state stepwise
  end_stepwise s [] = refl
  end_stepwise s (e ∷ es) = end_stepwise (step s e) es

  pub answers_stepwise : (s : State) (es : List Event) (tail : List ℕ) → read_answers es (answer_bytes M.rules s es ++ tail) ≡ (stepwise M s es).log
  unfolding read_answers answer_bytes stepwise
  answers_stepwise s [] tail = refl
  answers_stepwise s (e ∷ es) tail = rw (answers_stepwise (step s e) es tail)

  -- the session's three cases
  pub session_invalid : (s : State) (es : List Event) (buffer : List ℕ) → valid s ≡ false → session M.rules s es buffer ≡ session_refused 12 s buffer
  unfolding session
  session_invalid s es buffer v = rw (v, session) refl

  pub session_short : (s : State) (es : List Event) (buffer : List ℕ) → valid s ≡ true → has_room es buffer ≡ false → session M.rules s es buffer ≡ session_refused 10 s buffer
  unfolding session
  session_short s es buffer v r = rw (v, r, session) refl

  pub session_runs : (s : State) (es : List Event) (buffer : List ℕ) → valid s ≡ true → has_room es buffer ≡ true → session M.rules s es buffer ≡ session_run M.rules s es buffer
  unfolding session
  session_runs s es buffer v r = rw (v, r, session) refl

  -- what a call on a good state does: its answer, its state, and its part of the log, which are those of the stepwise run of the records taken
  pub record Called (s : State) (es : List Event) (d : CallOutcome State Event) : Type 0 where
    pub answer : (d.refusal ≡ 0) ⊎ ((d.refusal ≡ 10) × (d.state ≡ s))
    pub log_is : d.log ≡ (stepwise M s es).log
    pub end_is : d.state ≡ (stepwise M s es).end

  called_session : (s : State) (es : List Event) (buffer : List ℕ) → valid s ≡ true → Called s (taken M (Session es buffer)) (call M s (Session es buffer))
  unfolding call stepwise
  called_session s es buffer v = go (has_room es buffer) refl
    where
      go : (room : Bool) → has_room es buffer ≡ room → Called s (pick room es []) (call M s (Session es buffer))
      go true r = rw (session_runs s es buffer v r) (record { answer = inl refl; log_is = answers_stepwise s es _; end_is = end_stepwise s es })
      go false r = rw (session_short s es buffer v r) (record { answer = inr (refl, refl); log_is = refl; end_is = refl })

  called_checkpoint : (s : State) (buffer : List ℕ) → valid s ≡ true → ◌≡◌ {A = ℕ × State} (read (encode s)) (0, s) → Called s [] (call M s (Checkpoint buffer))
  unfolding call stepwise
  called_checkpoint s buffer v back = go (file_fits (encode s) buffer) refl
    where
      go : (room : Bool) → file_fits (encode s) buffer ≡ room → Called s [] (call M s (Checkpoint buffer))
      go true r = rw (checkpoint_reads valid M.file s buffer v r, back) (record { answer = inl refl; log_is = refl; end_is = refl })
      go false r = rw (checkpoint_short valid M.file s buffer v r) (record { answer = inr (refl, refl); log_is = refl; end_is = refl })

  module _ (Good : State → Type 0) (Typed : Event → Type 0) (L : Laws M Good Typed) where
    open L use {good_valid, kept, read_back_lem}

    -- good states and typed records stay so
    pub good_end : (s : State) (es : List Event) → Good s → Each Typed es → Good (stepwise M s es).end
    unfolding stepwise Each
    good_end s [] g t = g
    good_end s (e ∷ es) g t = good_end (step s e) es (kept s e g t.0) t.1

    typed_taken : (c : Call Event) → TypedCall Typed c → Each Typed (taken M c)
    unfolding TypedCall Each
    typed_taken (Session es buffer) t = pick_all (Each Typed) (has_room es buffer) es [] (λ _. t) (λ _. tt)
    typed_taken (Checkpoint buffer) t = tt

    pub typed_records : (cs : List (Call Event)) → Each (TypedCall Typed) cs → Each Typed (records M cs)
    unfolding records Each
    typed_records [] t = tt
    typed_records (c ∷ cs) t = each_append Typed (taken M c) (records M cs) (typed_taken c t.0) (typed_records cs t.1)

    called : (s : State) (c : Call Event) → Good s → Called s (taken M c) (call M s c)
    called s (Session es buffer) g = called_session s es buffer (good_valid s g)
    called s (Checkpoint buffer) g = called_checkpoint s buffer (good_valid s g) (read_back_lem s g)

    call_good : (s : State) (c : Call Event) → Good s → TypedCall Typed c → Good (call M s c).state
    call_good s c g t = rw (called s c g).end_is (good_end s (taken M c) g (typed_taken c t))

    -- the batched run is the stepwise run of the records taken, counts and all
    pub batched_log : (s : State) (cs : List (Call Event)) → Good s → Each (TypedCall Typed) cs → (batched M s cs).log ≡ (stepwise M s (records M cs)).log
    unfolding batched records stepwise Each
    batched_log s [] g t = refl
    batched_log s (c ∷ cs) g t =
        rw (log_append M s (taken M c) (records M cs), (called s c g).log_is, batched_log (call M s c).state cs (call_good s c g t.0) t.1, (called s c g).end_is) refl

    pub batched_end : (s : State) (cs : List (Call Event)) → Good s → Each (TypedCall Typed) cs → (batched M s cs).end ≡ (stepwise M s (records M cs)).end
    unfolding batched records stepwise Each
    batched_end s [] g t = refl
    batched_end s (c ∷ cs) g t =
        rw (end_append M s (taken M c) (records M cs), batched_end (call M s c).state cs (call_good s c g t.0) t.1, (called s c g).end_is) refl

    -- so the records of the log can be read off the calls alone
    pub batched_events : (s : State) (cs : List (Call Event)) → Good s → Each (TypedCall Typed) cs → events_of (batched M s cs).log ≡ records M cs
    batched_events s cs g t = rw (batched_log s cs g t) (events_stepwise M s (records M cs))

    -- (a)
    pub turns_orderly : (s : State) (cs : List (Call Event)) → Good s → Each (TypedCall Typed) cs → Each (Orderly Good) (batched M s cs).turns
    unfolding batched Each
    turns_orderly s [] g t = tt
    turns_orderly s (c ∷ cs) g t =
        let k = call_good s c g t.0 in
        (record { got_good = g; left_good = k; answer = (called s c g).answer }, turns_orderly (call M s c).state cs k t.1)
