-- Laws of decimal digits: how many there are, that each is below ten, which one is the last, that their value is the number, and that
-- digits are those of their value.
-- Assumes nothing.
use Rattle.std.specs.Prelude.{◌≡◌, refl, Bool, true, false, List, [], ◌∷◌, ◌++◌, ℕ, zero, suc, ◌+◌, ◌*◌, ◌/◌, ◌%◌, ◌-◌, ◌^◌, ◌≤◌, ◌<◌, min, max, eqb, length, get_or, take}
use Rattle.std.proofs.Common.{sym, ap, ◌∙◌, append_assoc, append-nil, pow-suc, div-lt_iff_lt-mul, arith, length-append, length-take-le, eqb-true}
use Rattle.std.proofs.Math.Nat.{sub-zero}
use Rattle.laws.specs.Choice.{pick}
use Rattle.laws.specs.Lists.{blank, Each}
use Rattle.laws.proofs.ListsLaws.{length_blank, each_at, each_append, each_take, each_blank, split_last}
use Rattle.laws.specs.Decimal.{decimal, zeros_before, value_from}

-- how many digits
pub length_decimal : (room n : ℕ) → length (decimal room n) ≤ room
unfolding decimal
length_decimal zero n = omega arith
length_decimal (suc room) n = go (eqb n 0) (length_decimal room (n / 10))
  where
    go : (t : Bool) → length (decimal room (n / 10)) ≤ room → length (pick t [] (decimal room (n / 10) ++ (n % 10 ∷ []))) ≤ suc room
    go true h = omega arith
    go false h = rw length-append (omega arith)

pub length_before : (n : ℕ) (l : List ℕ) → length (zeros_before n l) ≡ max n (length l)
unfolding zeros_before
length_before n l = simp (length-append, length_blank) (omega arith)

-- each digit is below ten
abbrev pub Decimal : List ℕ → Type 0
Decimal l = Each (λ d. d < 10) l

each_decimal : (room n : ℕ) → Decimal (decimal room n)
unfolding decimal Each
each_decimal zero n = tt
each_decimal (suc room) n = go (eqb n 0) (each_decimal room (n / 10))
  where
    go : (t : Bool) → Decimal (decimal room (n / 10)) → Decimal (pick t [] (decimal room (n / 10) ++ (n % 10 ∷ [])))
    go true h = tt
    go false h = each_append (λ d. d < 10) (decimal room (n / 10)) (n % 10 ∷ []) h (omega arith, tt)

pub each_before : (k room n : ℕ) → Decimal (zeros_before k (decimal room n))
unfolding zeros_before
each_before k room n = each_append (λ d. d < 10) (blank (k - length (decimal room n))) (decimal room n) (each_blank (λ d. d < 10) _ (omega arith)) (each_decimal room n)

-- the last digit of a padded number is its last one, and those before it are of the number without it
blank_more : (n : ℕ) → blank (suc n) ≡ blank n ++ (0 ∷ [])
unfolding blank
blank_more zero = refl
blank_more (suc n) = ap (λ (l : List ℕ). 0 ∷ l) (blank_more n)

decimal_zero : (room : ℕ) → decimal room 0 ≡ []
unfolding decimal
decimal_zero zero = refl
decimal_zero (suc room) = refl

pub before_last : (room k n : ℕ) → 0 < k + n → zeros_before k (decimal (suc room) n) ≡ zeros_before (k - 1) (decimal room (n / 10)) ++ (n % 10 ∷ [])
unfolding zeros_before decimal
before_last room k n h = go (eqb n 0) refl
  where
    go : (t : Bool) → eqb n 0 ≡ t →
        blank (k - length (pick t [] (decimal room (n / 10) ++ (n % 10 ∷ [])))) ++ pick t [] (decimal room (n / 10) ++ (n % 10 ∷ [])) ≡
        (blank (k - 1 - length (decimal room (n / 10))) ++ decimal room (n / 10)) ++ (n % 10 ∷ [])
    go true e =
        let z : n ≡ 0 = eqb-true n 0 e in
        let s : k ≡ suc (k - 1) = omega arith in
        rw (z, decimal_zero room) (simp (append-nil, sub-zero) (ap blank s ∙ blank_more (k - 1)))
    go false e =
        let l = decimal room (n / 10) in
        let s : k - length (l ++ (n % 10 ∷ [])) ≡ k - 1 - length l = rw length-append (omega arith) in
        rw (s, append_assoc) refl

-- a recursion that gives at least `need` digits, as far as there is room: no room, the end, and a step
pub digits_none : (need n : ℕ) → zeros_before (min need 0) (decimal 0 n) ≡ []
unfolding zeros_before decimal blank
digits_none need n = let k : min need 0 ≡ 0 = omega arith in rw k refl

pub digits_end : (room n : ℕ) → n ≡ 0 → zeros_before (min 0 room) (decimal room n) ≡ []
unfolding zeros_before blank
digits_end room n e = let k : min 0 room ≡ 0 = omega arith in rw (k, e, decimal_zero room) refl

pub digits_step : (room need n : ℕ) → 0 < need + n →
    zeros_before (min need (suc room)) (decimal (suc room) n) ≡ zeros_before (min (need - 1) room) (decimal room (n / 10)) ++ (n % 10 ∷ [])
digits_step room need n h =
    let k : min need (suc room) - 1 ≡ min (need - 1) room = omega arith in
    before_last room (min need (suc room)) n (omega arith) ∙ rw k refl

-- the value of the digits
value_last : (base v : ℕ) (l : List ℕ) (d : ℕ) → value_from base v (l ++ (d ∷ [])) ≡ value_from base v l * base + d
unfolding value_from
value_last base v [] d = refl
value_last base v (x ∷ l) d = value_last base (v * base + x) l d

value_decimal : (room n : ℕ) → n < 10 ^ room → value_from 10 0 (decimal room n) ≡ n
unfolding decimal value_from
value_decimal zero n h = omega arith
value_decimal (suc room) n h =
    let q : n < 10 ^ room * 10 = rw pow-suc at h in
    go (eqb n 0) refl (value_decimal room (n / 10) ((div-lt_iff_lt-mul {k = 10} (omega arith)).1 q))
  where
    go : (t : Bool) → eqb n 0 ≡ t → value_from 10 0 (decimal room (n / 10)) ≡ n / 10 → value_from 10 0 (pick t [] (decimal room (n / 10) ++ (n % 10 ∷ []))) ≡ n
    go true e r = sym (eqb-true n 0 e)
    go false e r = rw (value_last, r) (omega arith)

value_blank : (k : ℕ) (l : List ℕ) → value_from 10 0 (blank k ++ l) ≡ value_from 10 0 l
unfolding value_from blank
value_blank zero l = refl
value_blank (suc k) l = value_blank k l

pub value_before : (k room n : ℕ) → n < 10 ^ room → value_from 10 0 (zeros_before k (decimal room n)) ≡ n
unfolding zeros_before
value_before k room n h = value_blank _ (decimal room n) ∙ value_decimal room n h

-- digits are those of their value: without the last one they have the value without its last digit
module _ (n : ℕ) (ds : List ℕ) (e : length ds ≡ suc n) where
  value_split : value_from 10 0 ds ≡ value_from 10 0 (take n ds) * 10 + get_or ds n 0
  value_split = ap (λ (l : List ℕ). value_from 10 0 l) (split_last n ds e) ∙ value_last 10 0 (take n ds) (get_or ds n 0)

  front_length : length (take n ds) ≡ n
  front_length = length-take-le n ds (omega arith)

  last_below : Decimal ds → get_or ds n 0 < 10
  last_below p = each_at (λ d. d < 10) ds n (omega arith) p

pub value_below : (n : ℕ) (ds : List ℕ) → length ds ≡ n → Decimal ds → value_from 10 0 ds < 10 ^ n
unfolding value_from
value_below zero [] e p = omega arith
value_below zero (d ∷ ds) e p = absurd (omega arith)
value_below (suc n) ds e p =
    let i = value_below n (take n ds) (front_length n ds e) (each_take (λ d. d < 10) n ds p) in
    rw (pow-suc, value_split n ds e) (omega (arith, last_below n ds e p))

pub before_value : (n room : ℕ) (ds : List ℕ) → length ds ≡ n → n ≤ room → Decimal ds → zeros_before n (decimal room (value_from 10 0 ds)) ≡ ds
unfolding value_from zeros_before decimal blank
before_value zero zero [] e h p = refl
before_value zero (suc room) [] e h p = refl
before_value zero room (d ∷ ds) e h p = absurd (omega arith)
before_value (suc n) zero ds e h p = absurd (omega arith)
before_value (suc n) (suc room) ds e h p =
    let d = last_below n ds e p in
    let v = value_split n ds e in
    let k : suc n - 1 ≡ n = omega arith in
    let q : value_from 10 0 ds / 10 ≡ value_from 10 0 (take n ds) = omega arith in
    let r : value_from 10 0 ds % 10 ≡ get_or ds n 0 = omega arith in
    let i = before_value n room (take n ds) (front_length n ds e) (omega arith) (each_take (λ d. d < 10) n ds p) in
    before_last room (suc n) (value_from 10 0 ds) (omega arith) ∙ rw (k, q, r, i) (sym (split_last n ds e))
