-- The modules of a card with these digits, and the answer of the checked call. The digits and the check digit are in crate digits.
-- A module (the paper's stripe) is 8 where it is light, GS1's space, and 0 where it is dark.
-- Read downwards: pattern_of, modules_of, then barcode_of, the answer of the checked call. Assumes nothing.
use Rattle.std.specs.Prelude.{List, [], ◌∷◌, ◌++◌, Bool, ◌||◌, ℕ, ◌+◌, ◌*◌, eqb, ltb, length, get_or, take, drop, replicate, Result, Ok, Err}
use Rattle.laws.specs.Choice.{pick}
use Rattle.laws.specs.Lists.{padded}
use Rattle.refusals.specs.declared.Refusal.{Refusal}
use Rattle.refusals.specs.Refusals.{refusal_number}
use Rattle.digits.specs.declared.Digits.{Digits}
use Rattle.digits.specs.Digits.{digits_of, is_ean13, check_digit_of, digits_in}
use Rattle.barcode.specs.declared.Modules.{Modules}
use Rattle.barcode.specs.declared.Barcode.{Barcode}

-- a module is light or dark
abbrev pub is_module : ℕ → Bool
is_module m = eqb m 8 || eqb m 0

-- the thirty digit patterns of seven modules, 210 in one list: left odd of 0 to 9, left even, right
unfoldable pub patterns : List ℕ
patterns =
    8 ∷ 8 ∷ 8 ∷ 0 ∷ 0 ∷ 8 ∷ 0 ∷
    8 ∷ 8 ∷ 0 ∷ 0 ∷ 8 ∷ 8 ∷ 0 ∷
    8 ∷ 8 ∷ 0 ∷ 8 ∷ 8 ∷ 0 ∷ 0 ∷
    8 ∷ 0 ∷ 0 ∷ 0 ∷ 0 ∷ 8 ∷ 0 ∷
    8 ∷ 0 ∷ 8 ∷ 8 ∷ 8 ∷ 0 ∷ 0 ∷
    8 ∷ 0 ∷ 0 ∷ 8 ∷ 8 ∷ 8 ∷ 0 ∷
    8 ∷ 0 ∷ 8 ∷ 0 ∷ 0 ∷ 0 ∷ 0 ∷
    8 ∷ 0 ∷ 0 ∷ 0 ∷ 8 ∷ 0 ∷ 0 ∷
    8 ∷ 0 ∷ 0 ∷ 8 ∷ 0 ∷ 0 ∷ 0 ∷
    8 ∷ 8 ∷ 8 ∷ 0 ∷ 8 ∷ 0 ∷ 0 ∷
    8 ∷ 0 ∷ 8 ∷ 8 ∷ 0 ∷ 0 ∷ 0 ∷
    8 ∷ 0 ∷ 0 ∷ 8 ∷ 8 ∷ 0 ∷ 0 ∷
    8 ∷ 8 ∷ 0 ∷ 0 ∷ 8 ∷ 0 ∷ 0 ∷
    8 ∷ 0 ∷ 8 ∷ 8 ∷ 8 ∷ 8 ∷ 0 ∷
    8 ∷ 8 ∷ 0 ∷ 0 ∷ 0 ∷ 8 ∷ 0 ∷
    8 ∷ 0 ∷ 0 ∷ 0 ∷ 8 ∷ 8 ∷ 0 ∷
    8 ∷ 8 ∷ 8 ∷ 8 ∷ 0 ∷ 8 ∷ 0 ∷
    8 ∷ 8 ∷ 0 ∷ 8 ∷ 8 ∷ 8 ∷ 0 ∷
    8 ∷ 8 ∷ 8 ∷ 0 ∷ 8 ∷ 8 ∷ 0 ∷
    8 ∷ 8 ∷ 0 ∷ 8 ∷ 0 ∷ 0 ∷ 0 ∷
    0 ∷ 0 ∷ 0 ∷ 8 ∷ 8 ∷ 0 ∷ 8 ∷
    0 ∷ 0 ∷ 8 ∷ 8 ∷ 0 ∷ 0 ∷ 8 ∷
    0 ∷ 0 ∷ 8 ∷ 0 ∷ 0 ∷ 8 ∷ 8 ∷
    0 ∷ 8 ∷ 8 ∷ 8 ∷ 8 ∷ 0 ∷ 8 ∷
    0 ∷ 8 ∷ 0 ∷ 0 ∷ 0 ∷ 8 ∷ 8 ∷
    0 ∷ 8 ∷ 8 ∷ 0 ∷ 0 ∷ 0 ∷ 8 ∷
    0 ∷ 8 ∷ 0 ∷ 8 ∷ 8 ∷ 8 ∷ 8 ∷
    0 ∷ 8 ∷ 8 ∷ 8 ∷ 0 ∷ 8 ∷ 8 ∷
    0 ∷ 8 ∷ 8 ∷ 0 ∷ 8 ∷ 8 ∷ 8 ∷
    0 ∷ 0 ∷ 0 ∷ 8 ∷ 0 ∷ 8 ∷ 8 ∷
    []

-- the three sets of patterns, each by its first place in that list
abbrev pub left_odd : ℕ
left_odd = 0

abbrev pub left_even : ℕ
left_even = 10

abbrev pub right : ℕ
right = 20

-- the pattern of a digit in a set
unfoldable pub pattern_of : ℕ → ℕ → List ℕ
pattern_of set digit = take 7 (drop ((set + digit) * 7) patterns)

-- the patterns of digits, each in its set, as far as both lists go
unfoldable pub patterns_of : List ℕ → List ℕ → List ℕ
patterns_of [] ds = []
patterns_of (s ∷ ss) [] = []
patterns_of (s ∷ ss) (d ∷ ds) = pattern_of s d ++ patterns_of ss ds

-- the parity rows: for a leading digit of 0 to 9, the sets of the six digits after it
unfoldable pub parities : List ℕ
parities =
    0 ∷ 0 ∷ 0 ∷ 0 ∷ 0 ∷ 0 ∷
    0 ∷ 0 ∷ 10 ∷ 0 ∷ 10 ∷ 10 ∷
    0 ∷ 0 ∷ 10 ∷ 10 ∷ 0 ∷ 10 ∷
    0 ∷ 0 ∷ 10 ∷ 10 ∷ 10 ∷ 0 ∷
    0 ∷ 10 ∷ 0 ∷ 0 ∷ 10 ∷ 10 ∷
    0 ∷ 10 ∷ 10 ∷ 0 ∷ 0 ∷ 10 ∷
    0 ∷ 10 ∷ 10 ∷ 10 ∷ 0 ∷ 0 ∷
    0 ∷ 10 ∷ 0 ∷ 10 ∷ 0 ∷ 10 ∷
    0 ∷ 10 ∷ 0 ∷ 10 ∷ 10 ∷ 0 ∷
    0 ∷ 10 ∷ 10 ∷ 0 ∷ 10 ∷ 0 ∷
    []

-- the sets that a leading digit gives
unfoldable pub parity_of : ℕ → List ℕ
parity_of digit = take 6 (drop (digit * 6) parities)

-- left of the centre: of 13 digits the second to the seventh in the parity of the first, else up to four
unfoldable pub left_of : List ℕ → List ℕ
left_of ds = pick (is_ean13 ds) (patterns_of (parity_of (get_or ds 0 0)) (drop 1 ds)) (patterns_of (replicate 4 left_odd) ds)

-- right of the centre: of 13 digits the next five, else up to three
unfoldable pub right_of : List ℕ → List ℕ
right_of ds = pick (is_ean13 ds) (patterns_of (replicate 5 right) (drop 7 ds)) (patterns_of (replicate 3 right) (drop 4 ds))

-- what stands around the digits: lights, a guard on each side, and the centre
unfoldable pub lights : ℕ → List ℕ
lights n = replicate n 8

unfoldable pub guard : List ℕ
guard = 0 ∷ 8 ∷ 0 ∷ []

unfoldable pub centre : List ℕ
centre = 8 ∷ 0 ∷ 8 ∷ 0 ∷ 8 ∷ []

-- the modules of a card with these digits
unfoldable pub modules_of : List ℕ → List ℕ
modules_of ds =
    lights 33 ++ (guard ++ (left_of ds ++ (centre ++ (right_of ds ++ (pattern_of right (check_digit_of ds) ++ (guard ++ lights 32))))))

-- modules in their array, zeros past them
unfoldable pub modules_in : List ℕ → Modules
modules_in l = record { count = length l; modules = padded 160 l }

-- modules as a list with a place: what an append goes by
abbrev pub stored : Modules → List ℕ × ℕ
stored m = (m.modules, m.count)

-- the answer of the checked call: a card's bar code, or the number of its refusal and zeros
pub record Coded : Type 0 where
  pub digits : Digits
  pub refusal : ℕ
  pub check : ℕ
  pub modules : Modules

-- a card's bar code from its digits, and one that is refused
unfoldable pub encoded : List ℕ → Coded
encoded ds = record { digits = digits_in ds; refusal = 0; check = check_digit_of ds; modules = modules_in (modules_of ds) }

unfoldable pub refused : ℕ → Coded
refused n = record { digits = digits_in []; refusal = n; check = 0; modules = modules_in [] }

-- the answer of the checked call: a digit count above 20 is refused with 5
unfoldable pub barcode_of : ℕ → ℕ → Coded
barcode_of number count = pick (ltb 20 count) (refused 5) (encoded (digits_of number count))

-- an outcome of the code as that answer
abbrev pub coded_of : Result Barcode Refusal → Coded
coded_of (Ok b) = record { digits = b.digits; refusal = 0; check = b.check; modules = b.modules }
coded_of (Err e) = refused (refusal_number e)
