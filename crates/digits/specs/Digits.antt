-- The digits of a card and its check digit. Read downwards: digits_of, then check_digit_of. The decimal digits are in crate laws.
-- Assumes nothing.
use Rattle.std.specs.Prelude.{List, [], ◌∷◌, Bool, true, false, ℕ, ◌+◌, ◌*◌, ◌%◌, ◌-◌, min, max, eqb, length}
use Rattle.laws.specs.Decimal.{decimal, zeros_before}
use Rattle.laws.specs.Lists.{padded}
use Rattle.digits.specs.declared.Digits.{Digits}

-- the digits of a card: the number's, padded on the left with zeros to the digit count; 0 has one. A count above 20 is as 20
unfoldable pub digits_of : ℕ → ℕ → List ℕ
digits_of number count = zeros_before (max 1 (min count 20)) (decimal 20 number)

-- digits in their array, zeros past them
unfoldable pub digits_in : List ℕ → Digits
digits_in l = record { len = length l; digit = padded 20 l }

-- digits as a list with a place: what an append goes by
abbrev pub stored : Digits → List ℕ × ℕ
stored d = (d.digit, d.len)

-- exactly 13 digits are encoded in one way, any other number of digits in the other
abbrev pub is_ean13 : List ℕ → Bool
is_ean13 ds = eqb (length ds) 13

-- the sum of digits, each times its weight, as far as both lists go
unfoldable pub weighed : List ℕ → List ℕ → ℕ
weighed [] ds = 0
weighed (w ∷ ws) [] = 0
weighed (w ∷ ws) (d ∷ ds) = w * d + weighed ws ds

-- the weights, from the left, of the digits that the check digit goes by: of 13 digits the first twelve, else up to seven
unfoldable pub weights : Bool → List ℕ
weights true = 1 ∷ 3 ∷ 1 ∷ 3 ∷ 1 ∷ 3 ∷ 1 ∷ 3 ∷ 1 ∷ 3 ∷ 1 ∷ 3 ∷ []
weights false = 3 ∷ 1 ∷ 3 ∷ 1 ∷ 3 ∷ 1 ∷ 3 ∷ []

-- the check digit: what the sum lacks to a multiple of ten. The one supplied is ignored
unfoldable pub check_digit_of : List ℕ → ℕ
check_digit_of ds = (10 - weighed (weights (is_ean13 ds)) ds % 10) % 10
