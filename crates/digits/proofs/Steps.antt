-- Laws of what the code does: the cases of the recursion that stores the digits, and the loop over weights and digits.
-- Assumes nothing.
use Rattle.std.proofs.Common.{◌⊎◌, inl, inr}
use mathlib.Core.Path.{◌≡◌, refl, sym, ◌∙◌}
use mathlib.Core.List.{List, [], ◌∷◌}
use Prim.Native.Nat.{ℕ, zero, suc, ◌+◌, ◌*◌, ◌%◌, ◌-◌, ◌/◌, ◌≤◌, ◌<◌, min, max}
use native.Mathlib.Omega.{arith}
use Rattle.laws.specs.Append.{append, append_all}
use Rattle.laws.proofs.AppendLaws.{append_none, append_one, append_two, append_blank}
use Rattle.laws.specs.Decimal.{decimal, zeros_before}
use Rattle.laws.proofs.DecimalLaws.{digits_none, digits_end, digits_step}
use Rattle.laws.specs.Lists.{blank}
use Rattle.digits.specs.Digits.{digits_of, digits_in, weighed}
use Rattle.digits.specs.DigitsLaws.{length_digits}

-- the digits of n, at least `need` of them, at most `room`
abbrev from : ℕ → ℕ → ℕ → List ℕ
from room need n = zeros_before (min need room) (decimal room n)

-- the cases of the recursion, after any other digits
module _ (s : List ℕ × ℕ) where
  pub from_none : (room need n : ℕ) → room ≤ 0 → s ≡ append_all 20 s (from room need n)
  from_none zero need n h = rw (digits_none need n) (sym (append_none 20 s))
  from_none (suc room) need n h = absurd (omega arith)

  pub from_ended : (room need n : ℕ) → need + n ≤ 0 → s ≡ append_all 20 s (from room need n)
  from_ended room zero zero h = rw (digits_end room 0 refl) (sym (append_none 20 s))
  from_ended room zero (suc n) h = absurd (omega arith)
  from_ended room (suc need) n h = absurd (omega arith)

  pub from_more : (room need n : ℕ) → 0 < room → 0 < need + n →
      append 20 (append_all 20 s (from (room - 1) (need - 1) (n / 10))) (n % 10) ≡ append_all 20 s (from room need n)
  from_more zero need n z h = absurd (omega arith)
  from_more (suc room) need n z h =
      let e : suc room - 1 ≡ room = omega arith in
      rw (e, digits_step room need n h)
      (sym (append_two 20 s (from room (need - 1) (n / 10)) (n % 10 ∷ []) ∙ append_one 20 (append_all 20 s (from room (need - 1) (n / 10))) (n % 10)))

-- all digits, in an array of zeros
pub digits_in_lem : (number count need : ℕ) (s : List ℕ × ℕ) → need ≡ max 1 count → s ≡ append_all 20 (blank 20, 0) (from 20 need number) →
    record { len = s.1; digit = s.0 } ≡ digits_in (digits_of number count)
unfolding digits_in digits_of
digits_in_lem number count need s e h =
    let k : min need 20 ≡ max 1 (min count 20) = omega arith in
    rw (h, k, append_blank 20 (digits_of number count) (length_digits number count)) refl

-- the loop over weights and digits: a turn, and the end
pub weighed_more : (s w d : ℕ) (ws ds ws' ds' : List ℕ) → ws ≡ w ∷ ws' → ds ≡ d ∷ ds' → ((s + w * d) % 10 + weighed ws' ds') % 10 ≡ (s + weighed ws ds) % 10
unfolding weighed
weighed_more s w d ws ds ws' ds' e f = rw (e, f) (omega arith)

pub weighed_end : (ws ds : List ℕ) → (ws ≡ []) ⊎ (ds ≡ []) → weighed ws ds ≡ 0
unfolding weighed
weighed_end ws ds (inl e) = rw e refl
weighed_end [] ds (inr e) = refl
weighed_end (w ∷ ws) ds (inr e) = rw e refl
