-- The paper's lines on cards, computed: the number of modules and the check digit, and the same modules. They are quoted in
-- equivalence/specs/WorkedExamples.antt. Apart from them some digits, and that a card whose last digit is wrong is not refused.
-- Assumes nothing.
use Rattle.std.specs.Prelude.{◌≡◌, refl, List, [], ◌∷◌, Bool, true, ◌&&◌, ℕ, eqb, length}
use Rattle.laws.specs.Choice.{all_true}
use Rattle.laws.specs.Lists.{blank, same}
use Rattle.laws.specs.Decimal.{decimal, zeros_before}
use Rattle.digits.specs.Digits.{digits_of, weighed, weights, check_digit_of}
use Rattle.barcode.specs.Barcode.{patterns, pattern_of, patterns_of, parities, parity_of, left_of, right_of, lights, guard, centre, modules_of, encoded, refused, barcode_of}

-- a card has this many modules, and this check digit
pub modules_shown : ℕ → ℕ → ℕ → Bool
modules_shown number count n = eqb (length (modules_of (digits_of number count))) n

pub shows : ℕ → ℕ → ℕ → ℕ → Bool
shows number count n check = modules_shown number count n && eqb (check_digit_of (digits_of number count)) check

-- two cards have the same modules
pub same_modules : ℕ → ℕ → ℕ → Bool
same_modules a b count = same (modules_of (digits_of a count)) (modules_of (digits_of b count))

-- THE PAPER'S LINES
pub thirteen_digits : Bool
thirteen_digits = shows 4901234567894 13 160 4 && same_modules 4901234567894 4901234567890 13

pub seven_digits : Bool
seven_digits = shows 4901234 7 132 7

pub no_digits : Bool
no_digits = shows 0 0 90 0

pub twelve_digits : Bool
twelve_digits = modules_shown 490123456789 12 132

pub fourteen_digits : Bool
fourteen_digits = modules_shown 49012345678945 14 132

unfoldable pub card_lines : List Bool
card_lines = thirteen_digits ∷ seven_digits ∷ no_digits ∷ twelve_digits ∷ fourteen_digits ∷ []

pub card_lines_lem : all_true card_lines ≡ true
unfolding card_lines thirteen_digits seven_digits no_digits twelve_digits fourteen_digits modules_shown shows same_modules decimal zeros_before blank digits_of patterns pattern_of patterns_of parities parity_of weighed weights check_digit_of left_of right_of lights guard centre modules_of same
card_lines_lem = refl

-- OTHER CARDS: the check digits of 12 and 14 digits, some digits, and refusals
unfoldable pub cards : List Bool
cards =
    shows 490123456789 12 132 7 ∷
    shows 49012345678945 14 132 7 ∷
    same (digits_of 7 3) (0 ∷ 0 ∷ 7 ∷ []) ∷
    same (digits_of 1234 2) (1 ∷ 2 ∷ 3 ∷ 4 ∷ []) ∷
    same (digits_of 0 0) (0 ∷ []) ∷
    eqb (length (digits_of 18446744073709551615 0)) 20 ∷
    eqb (barcode_of 4901234567890 13).refusal 0 ∷
    eqb (barcode_of 4901234567894 21).refusal 5 ∷
    []

pub cards_are : all_true cards ≡ true
unfolding cards modules_shown shows decimal zeros_before blank digits_of patterns pattern_of patterns_of parities parity_of weighed weights check_digit_of left_of right_of lights guard centre modules_of encoded refused barcode_of same
cards_are = refl
