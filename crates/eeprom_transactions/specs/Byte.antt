-- The byte that eight bits make, each put at its place. Definitions; the laws are in ByteLaws.
-- A bit is a level, 0 or 1. `place i` is the place in the byte of the i-th bit that arrives, counted from 0.
-- Assumes nothing.
use Rattle.std.specs.Prelude.{ℕ, suc, ◌+◌, ◌*◌, ◌^◌, ◌<◌, ◌≡◌, List, [], ◌∷◌}
use Rattle.eeprom_bits.specs.Bits.{put_bit}
use Rattle.eeprom.specs.Lines.{high}

-- Sums the bits of a list whose first is the i-th: each bit times 2 ^ its place
unfoldable pub byte_from : (ℕ → ℕ) → ℕ → List ℕ → ℕ
byte_from place i [] = 0
byte_from place i (b ∷ bs) = b * 2 ^ place i + byte_from place (suc i) bs

-- THE BYTE OF BITS, in order of arrival
abbrev pub byte_of : (ℕ → ℕ) → List ℕ → ℕ
byte_of place bits = byte_from place 0 bits

-- Puts the bits of a list whose first is the i-th into x, one after the other, each at its place
unfoldable pub put_bits : (ℕ → ℕ) → ℕ → ℕ → List ℕ → ℕ
put_bits place i x [] = x
put_bits place i x (b ∷ bs) = put_bits place (suc i) (put_bit x (place i) (high b)) bs

-- WHAT AN ORDER MUST BE: it takes the eight turns to the eight places, one to one. `turn k` says which bit stands at place k
pub record Places (place : ℕ → ℕ) : Type 0 where
  pub turn : ℕ → ℕ
  pub place_low : (i : ℕ) → i < 8 → place i < 8
  pub turn_low : (k : ℕ) → k < 8 → turn k < 8
  pub turn_place : (i : ℕ) → i < 8 → turn (place i) ≡ i
  pub place_turn : (k : ℕ) → k < 8 → place (turn k) ≡ k
