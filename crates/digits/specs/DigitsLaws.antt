-- Laws of a card's digits: how many there are, that each is below ten, that they are the number's, that
-- digits are those of their value, and which one is the last.
-- Assumes nothing.
use Rattle.std.specs.Prelude.{◌≡◌, refl, List, [], ◌∷◌, ◌++◌, ℕ, ◌/◌, ◌%◌, ◌-◌, ◌^◌, ◌≤◌, ◌<◌, min, max, length, take, drop}
use Rattle.std.proofs.Math.Nat.{sub-zero}
use Rattle.std.proofs.Common.{arith}
use Rattle.laws.specs.Decimal.{decimal, zeros_before, value_from}
use Rattle.laws.proofs.DecimalLaws.{Decimal, length_decimal, length_before, each_before, before_last, value_before, before_value}
use Rattle.laws.proofs.ListsLaws.{length_padded, take_padded}
use Rattle.digits.specs.Digits.{digits_of, digits_in}

pub length_digits : (number count : ℕ) → length (digits_of number count) ≤ 20
unfolding digits_of
length_digits number count = rw length_before (omega (arith, length_decimal 20 number))

pub digits_decimal : (number count : ℕ) → Decimal (digits_of number count)
unfolding digits_of
digits_decimal number count = each_before (max 1 (min count 20)) 20 number

-- what stands before the last digit goes by the number without it
pub front : ℕ → ℕ → List ℕ
front number count = zeros_before (max 1 (min count 20) - 1) (decimal 19 (number / 10))

pub digits_last : (number count : ℕ) → digits_of number count ≡ front number count ++ (number % 10 ∷ [])
unfolding digits_of front
digits_last number count = before_last 19 (max 1 (min count 20)) number (omega arith)

pub front_same : (a b count : ℕ) → a / 10 ≡ b / 10 → front a count ≡ front b count
unfolding front
front_same a b count e = rw e refl

-- the digits are the number's
pub digits_value : (number count : ℕ) → number < 10 ^ 20 → value_from 10 0 (digits_of number count) ≡ number
unfolding digits_of
digits_value number count h = value_before (max 1 (min count 20)) 20 number h

-- and digits, as many as a card may have, are those of the card that has their value and their number
pub digits_of_value : (ds : List ℕ) → Decimal ds → 1 ≤ length ds → length ds ≤ 20 → digits_of (value_from 10 0 ds) (length ds) ≡ ds
unfolding digits_of
digits_of_value ds p l h =
    let k : max 1 (min (length ds) 20) ≡ length ds = omega arith in
    rw k (before_value (length ds) 20 ds refl h p)

-- all digits stand in the array, and its part up to their number is just them
pub digits_fit : (l : List ℕ) → length l ≤ 20 → (digits_in l).len ≤ length (digits_in l).digit
unfolding digits_in
digits_fit l h = rw (length_padded 20 l h) h

pub digits_back : (l : List ℕ) → take ((digits_in l).len - 0) (drop 0 (digits_in l).digit) ≡ l
unfolding digits_in
digits_back l = rw (sub-zero, take_padded)
