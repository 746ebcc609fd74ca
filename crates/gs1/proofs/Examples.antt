-- Published numbers with their check digits and whole symbols. The symbols are written from GS1's printed table of symbol characters:
-- a line is a guard or a digit. One computed list. Assumes nothing.
use Rattle.std.specs.Prelude.{◌≡◌, refl, List, [], ◌∷◌, Bool, true, ℕ, eqb}
use Rattle.laws.specs.Choice.{all_true}
use Rattle.laws.specs.Lists.{same, blank}
use Rattle.laws.specs.Decimal.{decimal, zeros_before}
use Rattle.digits.specs.Digits.{digits_of}
use Rattle.gs1.specs.Gs1.{widths, elements, character, characters, left_sets, normal_guard, centre_guard, ean13, ean8, from_right, check_digit, checked}

-- the EAN-13 symbol of 4006381333931
unfoldable pub symbol4006381333931 : List ℕ
symbol4006381333931 =
    1 ∷ 0 ∷ 1 ∷
    0 ∷ 0 ∷ 0 ∷ 1 ∷ 1 ∷ 0 ∷ 1 ∷
    0 ∷ 1 ∷ 0 ∷ 0 ∷ 1 ∷ 1 ∷ 1 ∷
    0 ∷ 1 ∷ 0 ∷ 1 ∷ 1 ∷ 1 ∷ 1 ∷
    0 ∷ 1 ∷ 1 ∷ 1 ∷ 1 ∷ 0 ∷ 1 ∷
    0 ∷ 0 ∷ 0 ∷ 1 ∷ 0 ∷ 0 ∷ 1 ∷
    0 ∷ 1 ∷ 1 ∷ 0 ∷ 0 ∷ 1 ∷ 1 ∷
    0 ∷ 1 ∷ 0 ∷ 1 ∷ 0 ∷
    1 ∷ 0 ∷ 0 ∷ 0 ∷ 0 ∷ 1 ∷ 0 ∷
    1 ∷ 0 ∷ 0 ∷ 0 ∷ 0 ∷ 1 ∷ 0 ∷
    1 ∷ 0 ∷ 0 ∷ 0 ∷ 0 ∷ 1 ∷ 0 ∷
    1 ∷ 1 ∷ 1 ∷ 0 ∷ 1 ∷ 0 ∷ 0 ∷
    1 ∷ 0 ∷ 0 ∷ 0 ∷ 0 ∷ 1 ∷ 0 ∷
    1 ∷ 1 ∷ 0 ∷ 0 ∷ 1 ∷ 1 ∷ 0 ∷
    1 ∷ 0 ∷ 1 ∷
    []

-- the EAN-13 symbol of 5901234123457
unfoldable pub symbol5901234123457 : List ℕ
symbol5901234123457 =
    1 ∷ 0 ∷ 1 ∷
    0 ∷ 0 ∷ 0 ∷ 1 ∷ 0 ∷ 1 ∷ 1 ∷
    0 ∷ 1 ∷ 0 ∷ 0 ∷ 1 ∷ 1 ∷ 1 ∷
    0 ∷ 1 ∷ 1 ∷ 0 ∷ 0 ∷ 1 ∷ 1 ∷
    0 ∷ 0 ∷ 1 ∷ 0 ∷ 0 ∷ 1 ∷ 1 ∷
    0 ∷ 1 ∷ 1 ∷ 1 ∷ 1 ∷ 0 ∷ 1 ∷
    0 ∷ 0 ∷ 1 ∷ 1 ∷ 1 ∷ 0 ∷ 1 ∷
    0 ∷ 1 ∷ 0 ∷ 1 ∷ 0 ∷
    1 ∷ 1 ∷ 0 ∷ 0 ∷ 1 ∷ 1 ∷ 0 ∷
    1 ∷ 1 ∷ 0 ∷ 1 ∷ 1 ∷ 0 ∷ 0 ∷
    1 ∷ 0 ∷ 0 ∷ 0 ∷ 0 ∷ 1 ∷ 0 ∷
    1 ∷ 0 ∷ 1 ∷ 1 ∷ 1 ∷ 0 ∷ 0 ∷
    1 ∷ 0 ∷ 0 ∷ 1 ∷ 1 ∷ 1 ∷ 0 ∷
    1 ∷ 0 ∷ 0 ∷ 0 ∷ 1 ∷ 0 ∷ 0 ∷
    1 ∷ 0 ∷ 1 ∷
    []

-- the EAN-8 symbol of 96385074
unfoldable pub symbol96385074 : List ℕ
symbol96385074 =
    1 ∷ 0 ∷ 1 ∷
    0 ∷ 0 ∷ 0 ∷ 1 ∷ 0 ∷ 1 ∷ 1 ∷
    0 ∷ 1 ∷ 0 ∷ 1 ∷ 1 ∷ 1 ∷ 1 ∷
    0 ∷ 1 ∷ 1 ∷ 1 ∷ 1 ∷ 0 ∷ 1 ∷
    0 ∷ 1 ∷ 1 ∷ 0 ∷ 1 ∷ 1 ∷ 1 ∷
    0 ∷ 1 ∷ 0 ∷ 1 ∷ 0 ∷
    1 ∷ 0 ∷ 0 ∷ 1 ∷ 1 ∷ 1 ∷ 0 ∷
    1 ∷ 1 ∷ 1 ∷ 0 ∷ 0 ∷ 1 ∷ 0 ∷
    1 ∷ 0 ∷ 0 ∷ 0 ∷ 1 ∷ 0 ∷ 0 ∷
    1 ∷ 0 ∷ 1 ∷ 1 ∷ 1 ∷ 0 ∷ 0 ∷
    1 ∷ 0 ∷ 1 ∷
    []

-- the check digits of published numbers, and one that is 0; the symbols of published numbers; the same with the check digit in the place
-- of a wrong last digit; a digit past the thirteenth, or past the eighth, does not show
unfoldable pub gs1_lines : List Bool
gs1_lines =
    eqb (check_digit (6 ∷ 2 ∷ 9 ∷ 1 ∷ 0 ∷ 4 ∷ 1 ∷ 5 ∷ 0 ∷ 0 ∷ 2 ∷ 1 ∷ [])) 3 ∷
    eqb (check_digit (4 ∷ 0 ∷ 0 ∷ 6 ∷ 3 ∷ 8 ∷ 1 ∷ 3 ∷ 3 ∷ 3 ∷ 9 ∷ 3 ∷ [])) 1 ∷
    eqb (check_digit (5 ∷ 9 ∷ 0 ∷ 1 ∷ 2 ∷ 3 ∷ 4 ∷ 1 ∷ 2 ∷ 3 ∷ 4 ∷ 5 ∷ [])) 7 ∷
    eqb (check_digit (9 ∷ 6 ∷ 3 ∷ 8 ∷ 5 ∷ 0 ∷ 7 ∷ [])) 4 ∷
    eqb (check_digit (7 ∷ 3 ∷ 5 ∷ 1 ∷ 3 ∷ 5 ∷ 3 ∷ [])) 7 ∷
    eqb (check_digit (1 ∷ 2 ∷ 3 ∷ 4 ∷ 5 ∷ 6 ∷ 7 ∷ 8 ∷ 9 ∷ 1 ∷ 0 ∷ 4 ∷ [])) 0 ∷
    same (ean13 (digits_of 4006381333931 13)) symbol4006381333931 ∷
    same (ean13 (digits_of 5901234123457 13)) symbol5901234123457 ∷
    same (ean8 (digits_of 96385074 8)) symbol96385074 ∷
    same (ean13 (checked 12 (digits_of 5901234123450 13))) symbol5901234123457 ∷
    same (ean8 (checked 7 (digits_of 96385070 8))) symbol96385074 ∷
    same (ean13 (digits_of 59012341234570 14)) symbol5901234123457 ∷
    same (ean8 (digits_of 963850740 9)) symbol96385074 ∷
    []

pub gs1_lines_lem : all_true gs1_lines ≡ true
unfolding gs1_lines symbol4006381333931 symbol5901234123457 symbol96385074 widths elements character characters left_sets normal_guard centre_guard ean13 ean8 from_right check_digit checked decimal zeros_before blank digits_of same
gs1_lines_lem = refl
