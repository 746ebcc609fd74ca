-- Bytes put into a lent buffer from a place on, where there is room; what has no room is left out. A buffer and a place go together as a
-- pair. Characters are their codes in ASCII. Read downwards. Assumes nothing.
use Rattle.std.specs.Prelude.{◌≡◌, List, [], ◌∷◌, ◌++◌, map, ℕ, ◌+◌, ◌%◌, ◌/◌, ltb, length}
use Rattle.laws.specs.Append.{append, append_all}
use Rattle.laws.specs.Choice.{pick}
use Rattle.laws.specs.Decimal.{decimal, zeros_before}
use Rattle.output.specs.declared.Output.{Output}

-- one byte; the capacity is the buffer's length
unfoldable pub put : List ℕ × ℕ → ℕ → List ℕ × ℕ
put s b = append (length s.0) s b

-- bytes one after the other
unfoldable pub put_all : List ℕ × ℕ → List ℕ → List ℕ × ℕ
put_all s l = append_all (length s.0) s l

-- a lent buffer and its place as a pair
abbrev pub placed_in : Output → List ℕ × ℕ
placed_in o = (o.bytes.now, o.at)

-- the same buffer with one byte put into it
abbrev pub PutsByte : Output → Output → ℕ → Type 0
PutsByte old new b = (placed_in new ≡ put (placed_in old) b) × (new.bytes.ghost_name ≡ old.bytes.ghost_name)

-- the same buffer with bytes put into it one after the other
abbrev pub Puts : Output → Output → List ℕ → Type 0
Puts old new l = (placed_in new ≡ put_all (placed_in old) l) × (new.bytes.ghost_name ≡ old.bytes.ghost_name)

-- a decimal digit
abbrev pub decimal_digit : ℕ → ℕ
decimal_digit d = 48 + d

-- the decimal digits of a number, most significant first; 0 has one. A number of 64 bits has at most twenty
unfoldable pub decimal_of : ℕ → List ℕ
decimal_of n = map decimal_digit (zeros_before 1 (decimal 20 n))

-- a hexadecimal digit, in lower case
abbrev pub hex_digit : ℕ → ℕ
hex_digit d = pick (ltb d 10) (48 + d) (87 + d)

-- a byte by two digits
abbrev pub hex_byte : ℕ → List ℕ
hex_byte b = hex_digit (b / 16) ∷ (hex_digit (b % 16) ∷ [])

unfoldable pub hex_of : List ℕ → List ℕ
hex_of [] = []
hex_of (b ∷ l) = hex_byte b ++ hex_of l

-- a word of 32 bits by eight digits
abbrev pub hex_word : ℕ → List ℕ
hex_word w = hex_of ((w / 16777216) ∷ (w / 65536 % 256) ∷ (w / 256 % 256) ∷ (w % 256) ∷ [])
