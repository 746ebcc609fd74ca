-- Laws of bytes on the lines: what a bit of a byte weighs, by the eight bits; a bit put into a byte leaves a byte; a counter's place is one of
-- the eight; the next of four cells is one of them; the datasheet's slave bytes are 0xA0 and 0xA1.
-- Assumes nothing.
use Rattle.std.specs.Prelude.{ℕ, suc, zero, ◌+◌, ◌-◌, ◌*◌, ◌/◌, ◌%◌, ◌^◌, ◌≤◌, ◌<◌, ◌≡◌, refl, ◌⊎◌, Bool, true, false, ◌&&◌, eqb, bit_and, bit_or}
use Rattle.std.proofs.Common.{◌∙◌, inl, inr, arith, eqb-true}
use Rattle.std.proofs.Math.Decide.{ℕ_discrete}
use Rattle.laws.specs.Choice.{below}
use Rattle.laws.proofs.ChoiceLaws.{below_at, both_true}
use Rattle.eeprom_bits.specs.declared.EepromRule.{EepromRule}
use Rattle.eeprom_bits.specs.declared.EepromRule.TheVariants.{Crate, Datasheet}
use Rattle.eeprom_bits.specs.Bits.{put_bit, bit_place, slave_passes, next_in_group}

-- what holds of each number below eight holds of k
pub below8 : (P : ℕ → Type 0) → P 0 → P 1 → P 2 → P 3 → P 4 → P 5 → P 6 → P 7 → (k : ℕ) → k < 8 → P k
below8 P a b c d e f g h zero l = a
below8 P a b c d e f g h (suc zero) l = b
below8 P a b c d e f g h (suc (suc zero)) l = c
below8 P a b c d e f g h (suc (suc (suc zero))) l = d
below8 P a b c d e f g h (suc (suc (suc (suc zero)))) l = e
below8 P a b c d e f g h (suc (suc (suc (suc (suc zero))))) l = f
below8 P a b c d e f g h (suc (suc (suc (suc (suc (suc zero)))))) l = g
below8 P a b c d e f g h (suc (suc (suc (suc (suc (suc (suc zero))))))) l = h
below8 P a b c d e f g h (suc (suc (suc (suc (suc (suc (suc (suc k)))))))) l = absurd (omega arith)

-- of bit k of the byte x: its weight is the code's shift; it is part of x; and x without it has room for it
pub record Weighs (x k : ℕ) : Type 0 where
  pub shift : 1 * 2 ^ k % 256 ≡ 2 ^ k
  pub part : x / 2 ^ k % 2 * 2 ^ k ≤ x
  pub room : x - x / 2 ^ k % 2 * 2 ^ k + 2 ^ k < 256

pub weighs : (x k : ℕ) → x < 256 → k < 8 → Weighs x k
weighs x k h l = below8 (λ (n : ℕ). Weighs x n)
    (omega arith) (omega arith) (omega arith) (omega arith) (omega arith) (omega arith) (omega arith) (omega arith) k l

-- a bit is put high by `or`, and low by `and` with the other bits: of each byte and each of its bits
abbrev puts_bit : ℕ → ℕ → Bool
puts_bit k x = eqb (bit_or x (2 ^ k)) (put_bit x k true) && eqb (bit_and x (255 - 2 ^ k)) (put_bit x k false)

abbrev puts_bits : ℕ → Bool
puts_bits k = below (puts_bit k) 256

every_put : below puts_bits 8 ≡ true
every_put = refl

put_tests : (x k : ℕ) → x < 256 → k < 8 → (eqb (bit_or x (2 ^ k)) (put_bit x k true) ≡ true) × (eqb (bit_and x (255 - 2 ^ k)) (put_bit x k false) ≡ true)
put_tests x k h l = both_true _ _ (below_at (puts_bit k) 256 x (below_at puts_bits 8 k every_put l) h)

pub put_high : (x k : ℕ) → x < 256 → k < 8 → bit_or x (2 ^ k) ≡ put_bit x k true
put_high x k h l = eqb-true _ _ (put_tests x k h l).0

pub put_low : (x k : ℕ) → x < 256 → k < 8 → bit_and x (255 - 2 ^ k) ≡ put_bit x k false
put_low x k h l = eqb-true _ _ (put_tests x k h l).1

-- a bit put into a byte leaves a byte, and one of the low seven put into seven bits leaves seven bits
pub put_byte : (x k : ℕ) (b : Bool) → x < 256 → k < 8 → put_bit x k b < 256
put_byte x k true h l = (weighs x k h l).room
put_byte x k false h l = omega (arith, (weighs x k h l).part)

pub put_word : (x k : ℕ) (b : Bool) → x < 128 → k < 7 → put_bit x k b < 128
put_word x k true h l =
    below8 (λ (n : ℕ). n < 7 → put_bit x n true < 128)
    (omega arith) (omega arith) (omega arith) (omega arith) (omega arith) (omega arith) (omega arith) (omega arith) k (omega arith) l
put_word x k false h l = omega (arith, (weighs x k (omega arith) (omega arith)).part)

-- a counter below eight stands for one of the eight bits
pub bit_place_low : (r : EepromRule) (n : ℕ) → n < 8 → bit_place r n < 8
bit_place_low Crate n h = h
bit_place_low Datasheet n h = omega arith

-- THE NEXT OF FOUR CELLS is one of the same four; so it stays a byte, and stays below 128
pub group_kept : (a : ℕ) → next_in_group a / 4 ≡ a / 4
group_kept a = omega arith

pub group_byte : (a : ℕ) → a < 256 → next_in_group a < 256
group_byte a h = omega arith

pub group_word : (a : ℕ) → a < 128 → next_in_group a < 128
group_word a h = omega arith

-- the four follow each other round: two steps and two more lead back
two_on : (a : ℕ) → next_in_group (next_in_group a) ≡ a / 4 * 4 + (a + 2) % 4
two_on a = omega arith

pub group_round : (a : ℕ) → next_in_group (next_in_group (next_in_group (next_in_group a))) ≡ a
group_round a = two_on (next_in_group (next_in_group a)) ∙ rw (two_on a) (omega arith)

-- BY THE DATASHEET a slave byte passes exactly if it is 0xA0 or 0xA1
pub slave_sheet : (x : ℕ) → slave_passes Datasheet x ≡ true → (x ≡ 0xA0) ⊎ (x ≡ 0xA1)
slave_sheet x h = go (ℕ_discrete x 0xA0)
  where
    half : x / 2 ≡ 0x50
    half = eqb-true (x / 2) 0x50 h

    go : Dec (x ≡ 0xA0) → (x ≡ 0xA0) ⊎ (x ≡ 0xA1)
    go (yes e) = inl e
    go (no n) = inr (omega (arith, half))

pub sheet_slave : (slave_passes Datasheet 0xA0 ≡ true) × (slave_passes Datasheet 0xA1 ≡ true)
sheet_slave = (refl, refl)
