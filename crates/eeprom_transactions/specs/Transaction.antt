-- WHOLE TRANSACTIONS OF THE DATASHEET: the levels that a master gives to the lines, and what is stored. Definitions; the laws are in
-- TransactionLaws.
-- Assumes nothing.
use Rattle.std.specs.Prelude.{ℕ, List, [], ◌∷◌, ◌++◌, set}
use Rattle.eeprom.specs.declared.EepromModel.TheVariants.{X24C02}
use Rattle.eeprom.specs.declared.EepromMode.{EepromMode}
use Rattle.eeprom_bits.specs.Bits.{bit_at, next_in_group}
use Rattle.eeprom.specs.Run.{Device, Levels, start_levels, line_clock, line_clocks}

-- the eight bits of a byte, the high one first
abbrev pub high_bits : ℕ → List ℕ
high_bits x = bit_at x 7 ∷ bit_at x 6 ∷ bit_at x 5 ∷ bit_at x 4 ∷ bit_at x 3 ∷ bit_at x 2 ∷ bit_at x 1 ∷ bit_at x 0 ∷ []

-- START, 0xA0, an acknowledge clock with SDA at p, the word address, an acknowledge clock with SDA at q, the byte
abbrev pub byte_write : ℕ → ℕ → ℕ → ℕ → List Levels
byte_write a d p q = start_levels ++ (line_clocks (high_bits 0xA0) ++ (line_clock p ++ (line_clocks (high_bits a) ++ (line_clock q ++ line_clocks (high_bits d)))))

-- bytes after the first: to each an acknowledge clock with SDA at p
abbrev pub more_bytes : ℕ → List ℕ → List Levels
more_bytes p [] = []
more_bytes p (d ∷ ds) = (line_clock p ++ line_clocks (high_bits d)) ++ more_bytes p ds

-- bytes stored from a on, each at the next of the four cells; the word address after them; the last byte
unfoldable pub group_stored : List ℕ → ℕ → List ℕ → List ℕ
group_stored rom a [] = rom
group_stored rom a (d ∷ ds) = group_stored (set rom a d) (next_in_group a) ds

unfoldable pub group_after : ℕ → List ℕ → ℕ
group_after a [] = a
group_after a (d ∷ ds) = group_after (next_in_group a) ds

abbrev pub last_byte : ℕ → List ℕ → ℕ
last_byte x [] = x
last_byte x (d ∷ ds) = last_byte d ds

-- START, 0xA0, an acknowledge clock, the word address, an acknowledge clock; SDA and SCL high, START, 0xA1, an acknowledge clock
abbrev pub read_start : ℕ → ℕ → ℕ → ℕ → List Levels
read_start a p q u =
    start_levels ++ (line_clocks (high_bits 0xA0) ++ (line_clock p ++ (line_clocks (high_bits a) ++ (line_clock q ++ (((0, 1) ∷ start_levels) ++ (line_clocks (high_bits 0xA1) ++ line_clock u))))))

-- an X24C02 by its fields, with its memory
abbrev pub device : EepromMode → EepromMode → ℕ → ℕ → ℕ → ℕ → ℕ → ℕ → ℕ → List ℕ → Device
device k n c a x i o p q rom =
    record { chip = record { model = X24C02; mode = k; next_mode = n; chip_addr = c; addr = a; «data» = x; counter = i; output = o; prev_scl = p; prev_sda = q }; rom = rom }
