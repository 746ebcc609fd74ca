-- BYTES ON THE LINES of a serial EEPROM, in document 01's words and, under the second chip rule, in those of the X24C02's datasheet: which bit
-- of a byte passes, which slave byte a chip answers, which cell follows a stored one.
-- Assumes nothing.
use Rattle.std.specs.Prelude.{ℕ, ◌+◌, ◌-◌, ◌*◌, ◌/◌, ◌%◌, ◌^◌, Bool, true, false, ◌&&◌, eqb, ltb}
use Rattle.laws.specs.Choice.{pick}
use Rattle.eeprom_bits.specs.declared.EepromRule.{EepromRule}
use Rattle.eeprom_bits.specs.declared.EepromRule.TheVariants.{Crate, Datasheet}

-- THE RULE OF A CODE: 0 the crate's, 1 the datasheet's; any other code stands for the first
abbrev pub rule_of : ℕ → EepromRule
rule_of n = pick (eqb n 1) Datasheet Crate

-- bit k of x, counted from the low end
abbrev pub bit_at : ℕ → ℕ → ℕ
bit_at x k = x / 2 ^ k % 2

-- x with its bit k taken out and b put there
abbrev pub put_bit : ℕ → ℕ → Bool → ℕ
put_bit x k true = x - bit_at x k * 2 ^ k + 2 ^ k
put_bit x k false = x - bit_at x k * 2 ^ k

-- WHICH BIT OF A BYTE A COUNTER BELOW 8 STANDS FOR: low bits go first, or high bits
abbrev pub bit_place : EepromRule → ℕ → ℕ
bit_place Crate counter = counter
bit_place Datasheet counter = 7 - counter

-- A BIT PASSES while the byte lacks one, at the place that the counter stands for: it is written into a byte, or the chip's byte is read
abbrev pub lacks : ℕ → Bool
lacks counter = ltb counter 8

abbrev pub write_bit : EepromRule → ℕ → ℕ → Bool → ℕ
write_bit r byte counter b = pick (lacks counter) (put_bit byte (bit_place r counter) b) byte

abbrev pub read_bit : EepromRule → ℕ → ℕ → ℕ → ℕ
read_bit r byte counter output = pick (lacks counter) (bit_at byte (bit_place r counter)) output

-- A SLAVE BYTE PASSES if its bits 7 and 5 are set; or if it starts 1010 with device bits 000. Its bit 0 asks to read
abbrev pub slave_passes : EepromRule → ℕ → Bool
slave_passes Crate x = eqb (bit_at x 7) 1 && eqb (bit_at x 5) 1
slave_passes Datasheet x = eqb (x / 2) 0x50

abbrev pub slave_reads : ℕ → Bool
slave_reads x = eqb (bit_at x 0) 1

-- THE NEXT OF A WORD ADDRESS'S FOUR CELLS: the two low bits wrap
abbrev pub next_in_group : ℕ → ℕ
next_in_group a = a / 4 * 4 + (a + 1) % 4
