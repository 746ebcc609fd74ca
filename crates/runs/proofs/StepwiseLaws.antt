-- Laws of the stepwise run: a list in two parts, one clocks record many times in turn, and the logs without clocks. A reader may skip them.
-- Assumes nothing.
use Rattle.std.specs.Prelude.{◌≡◌, true, replicate}
use Rattle.std.proofs.Math.Path.{refl}
use Rattle.std.proofs.Common.{sym}
use Prim.Native.Nat.{ℕ, zero, suc}
use mathlib.Core.List.{List, [], ◌∷◌, ◌++◌, append_assoc}
use Rattle.laws.specs.Lists.{Each}
use Rattle.runs.specs.Machine.{Machine}
use Rattle.runs.proofs.Laws.{times, Accepts}
use Rattle.runs.specs.Log.{Entry, events_of}
use Rattle.runs.specs.Stepwise.{stepwise}
use Rattle.runs.specs.Claim.{NoClocksRefused, other_one, others}

module _ {State Event : Type 0} (M : Machine State Event) where
  open M.rules use {is_clocks, step}

  -- the stepwise run of a list in two parts
  pub end_append : (s : State) (es fs : List Event) → (stepwise M s (es ++ fs)).end ≡ (stepwise M (stepwise M s es).end fs).end
  unfolding stepwise
  end_append s [] fs = refl
  end_append s (e ∷ es) fs = end_append (step s e) es fs

  pub log_append : (s : State) (es fs : List Event) → (stepwise M s (es ++ fs)).log ≡ (stepwise M s es).log ++ (stepwise M (stepwise M s es).end fs).log
  unfolding stepwise
  log_append s [] fs = refl
  log_append s (e ∷ es) fs = rw (log_append (step s e) es fs)

  pub events_stepwise : (s : State) (es : List Event) → events_of (stepwise M s es).log ≡ es
  unfolding stepwise
  events_stepwise s [] = refl
  events_stepwise s (e ∷ es) = rw (events_stepwise (step s e) es)

  pub others_append : (xs ys : List (Entry Event)) → others M (xs ++ ys) ≡ others M xs ++ others M ys
  unfolding others
  others_append [] ys = refl
  others_append (x ∷ xs) ys = rw (others_append xs ys) (sym (append_assoc (other_one M x) (others M xs) (others M ys)))

  -- one clocks record n times in turn: if none is refused it is accepted each time, it leads where `times` leads, and it leaves nothing in `others`
  pub clocks_accepted : (n : ℕ) (s : State) (e : Event) → is_clocks e ≡ true → NoClocksRefused M (stepwise M s (replicate n e)).log → Accepts M n s e
  unfolding stepwise NoClocksRefused Each Accepts
  clocks_accepted zero s e c h = tt
  clocks_accepted (suc n) s e c h = (h.0 c, clocks_accepted n (step s e) e c h.1)

  pub clocks_end : (n : ℕ) (s : State) (e : Event) → (stepwise M s (replicate n e)).end ≡ times M n s e
  unfolding stepwise times
  clocks_end zero s e = refl
  clocks_end (suc n) s e = clocks_end n (step s e) e

  pub clocks_others : (n : ℕ) (s : State) (e : Event) → is_clocks e ≡ true → others M (stepwise M s (replicate n e)).log ≡ []
  unfolding stepwise others
  clocks_others zero s e c = refl
  clocks_others (suc n) s e c = rw c (clocks_others n (step s e) e c)
