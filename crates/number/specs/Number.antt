-- The number that a word stands for: decimal, or hexadecimal after 0x or 0X. Characters are their codes in ASCII. Read downwards.
-- Assumes nothing.
use Rattle.std.specs.Prelude.{List, [], ◌∷◌, map, Bool, true, false, ◌&&◌, ◌||◌, ℕ, ◌+◌, ◌*◌, ◌-◌, ◌%◌, eqb, ltb, leb, length, get_or, drop, Result, Ok, Err}
use Rattle.laws.specs.Choice.{pick}
use Rattle.laws.specs.Decimal.{value_from}
use Rattle.laws.specs.Lists.{every}
use Rattle.number.specs.declared.NumberError.{NumberError}
use Rattle.number.specs.declared.NumberError.TheVariants.{NotANumber, TooLarge}

-- what a word stands for: a number of 64 bits and the fault 0, or a fault and 0
pub record Number : Type 0 where
  pub value : ℕ
  pub fault : ℕ

-- the same of a result; the fault of an error is its discriminant
abbrev pub as_number : Result ℕ NumberError → Number
as_number (Ok v) = record { value = v; fault = 0 }
as_number (Err NotANumber) = record { value = 0; fault = 1 }
as_number (Err TooLarge) = record { value = 0; fault = 2 }

-- what a digit of either kind and either case stands for; 255 where it is none
unfoldable pub digit_of : ℕ → ℕ
digit_of b =
    pick (leb 48 b && leb b 57) (b - 48)
    (pick (leb 97 b && leb b 102) (b - 87)
    (pick (leb 65 b && leb b 70) (b - 55)
    255))

abbrev pub base_of : Bool → ℕ
base_of hex = pick hex 16 10

abbrev pub is_digit_of : Bool → ℕ → Bool
is_digit_of hex b = ltb (digit_of b) (base_of hex)

-- at least one digit, and nothing else
abbrev pub are_digits : Bool → List ℕ → Bool
are_digits hex l = leb 1 (length l) && every (is_digit_of hex) l

-- the value of digits
abbrev pub value_of : Bool → List ℕ → ℕ
value_of hex l = value_from (base_of hex) 0 (map digit_of l)

-- the value of digits, where it has 64 bits
abbrev pub number_from : Bool → List ℕ → Number
number_from hex l = pick (leb (value_of hex l) 18446744073709551615) (record { value = value_of hex l; fault = 0 }) (record { value = 0; fault = 2 })

-- 0x or 0X stands before
abbrev pub is_hex : List ℕ → Bool
is_hex w = leb 2 (length w) && (eqb (get_or w 0 0) 48 && (eqb (get_or w 1 0) 120 || eqb (get_or w 1 0) 88))

-- the number of digits. Faults: 1, the word is no number; 2, the number is above 64 bits
unfoldable pub number_in : Bool → List ℕ → Number
number_in hex l = pick (are_digits hex l) (number_from hex l) (record { value = 0; fault = 1 })

-- the number of a word
unfoldable pub number_of : List ℕ → Number
number_of w = pick (is_hex w) (number_in true (drop 2 w)) (number_in false w)

-- the bytes of hexadecimal digits, two a byte
unfoldable pub bytes_of : List ℕ → List ℕ
bytes_of [] = []
bytes_of (a ∷ []) = []
bytes_of (a ∷ b ∷ l) = (digit_of a % 16 * 16 + digit_of b % 16) ∷ bytes_of l
