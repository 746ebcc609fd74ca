-- Worked examples, computed together: cards whose list is read as the digits of another card, or refused.
-- Assumes nothing.
use Rattle.std.specs.Prelude.{◌≡◌, refl, List, [], ◌∷◌, ◌++◌, Bool, true, ◌&&◌, ℕ, eqb, take}
use Rattle.laws.specs.Choice.{all_true}
use Rattle.laws.specs.Lists.{blank, padded, same}
use Rattle.laws.specs.Decimal.{decimal, zeros_before}
use Rattle.laws.specs.Search.{found}
use Rattle.digits.specs.Digits.{digits_of, digits_in, weighed, weights, check_digit_of}
use Rattle.barcode.specs.Barcode.{patterns, pattern_of, patterns_of, parities, parity_of, left_of, right_of, lights, guard, centre, modules_of}
use Rattle.card_decode.specs.Decode.{digit_in, set_of, leading_of, read_in, sets_in, shown8, shown13, accept, refuse, decoded_of}

-- the list is read as the digits of this card
pub read : List ℕ → ℕ → ℕ → Bool
read l number count = eqb (decoded_of l).refusal 0 && same (take (decoded_of l).digits.len (decoded_of l).digits.digit) (digits_of number count)

-- the list is refused with 16, without digits
pub refused : List ℕ → Bool
refused l = eqb (decoded_of l).refusal 16 && eqb (decoded_of l).digits.len 0

-- the list that a card yields
pub list : ℕ → ℕ → List ℕ
list number count = modules_of (digits_of number count)

unfoldable pub read_lines : List Bool
read_lines =
    read (list 96385074 8) 96385074 8 ∷
    read (list 96385070 8) 96385074 8 ∷
    read (list 4901234 7) 49012347 8 ∷
    read (list 490123456789 12) 49012347 8 ∷
    read (list 49012345678945 14) 49012347 8 ∷
    read (list 4006381333930 13) 4006381333931 13 ∷
    read (list 36000291452 13) 36000291452 13 ∷
    refused (list 490123 6) ∷
    refused (list 4901234 7 ++ blank 28) ∷
    refused (list 4901234 7 ++ (8 ∷ [])) ∷
    refused (take 131 (list 4901234 7)) ∷
    refused [] ∷
    []

pub read_lines_lem : all_true read_lines ≡ true
unfolding read_lines read refused list decimal zeros_before blank padded digits_of digits_in patterns pattern_of patterns_of parities parity_of weighed weights check_digit_of left_of right_of lights guard centre modules_of same found digit_in set_of leading_of read_in sets_in shown8 shown13 accept refuse decoded_of
read_lines_lem = refl
