-- The paper's lines on chips, under the crate's rule. They are quoted in equivalence/specs/WorkedExamples.antt, and computed in ExamplesLaws.
-- Assumes nothing.
use Rattle.std.specs.Prelude.{ℕ, Bool, List, [], ◌∷◌, ◌++◌, get_or, set}
use Rattle.laws.specs.Lists.{blank, same}
use Rattle.eeprom_bits.specs.declared.EepromRule.TheVariants.{Crate}
use Rattle.eeprom.specs.declared.EepromModel.{EepromModel}
use Rattle.eeprom.specs.declared.EepromModel.TheVariants.{X24C01, X24C02}
use Rattle.eeprom.specs.Eeprom.{new_eeprom}
use Rattle.eeprom.specs.Run.{Device, Levels, after_levels, start_levels, line_clocks}
use Rattle.eeprom_codes.specs.Codes.{mode_number}

-- a fresh chip with a memory
abbrev pub new_device : EepromModel → List ℕ → Device
new_device m rom = record { chip = new_eeprom m; rom = rom }

-- a chip after a run of levels: its slave byte and its mode; its memory at a place
abbrev pub slave_and_mode : Device → List ℕ
slave_and_mode d = d.chip.chip_addr ∷ mode_number d.chip.mode ∷ []

abbrev pub byte_at : ℕ → Device → List ℕ
byte_at k d = get_or d.rom k 0 ∷ []

-- START and the slave bits 1,0,1,0,0,0,0,0
abbrev pub slave_bits : List Levels
slave_bits = start_levels ++ line_clocks (1 ∷ 0 ∷ 1 ∷ 0 ∷ 0 ∷ 0 ∷ 0 ∷ 0 ∷ [])

-- START; word address 3 and write; the acknowledge; 0xA5, up to the rise of its eighth bit
abbrev pub eight_bits : List Levels
eight_bits = start_levels ++ (line_clocks (1 ∷ 1 ∷ 0 ∷ 0 ∷ 0 ∷ 0 ∷ 0 ∷ 0 ∷ 0 ∷ 1 ∷ 0 ∷ 1 ∷ 0 ∷ 0 ∷ 1 ∷ 0 ∷ []) ++ ((0, 1) ∷ (1, 1) ∷ []))

-- a memory whose byte at place 3 is 0x3C
unfoldable pub written : List ℕ
written = set (blank 256) 3 0x3C

-- THE PAPER'S LINES: an X24C02 gets those slave bits; an X24C01 gets those eight bits and SCL falls; a START comes before that fall
unfoldable pub slave_byte : Bool
slave_byte = same (slave_and_mode (after_levels Crate (new_device X24C02 (blank 256)) slave_bits)) (0x05 ∷ 0 ∷ [])

unfoldable pub stored : Bool
stored = same (byte_at 3 (after_levels Crate (new_device X24C01 written) (eight_bits ++ ((0, 1) ∷ [])))) (0xA5 ∷ [])

unfoldable pub cell_kept : Bool
cell_kept = same (byte_at 3 (after_levels Crate (new_device X24C01 written) (eight_bits ++ ((1, 0) ∷ (0, 0) ∷ [])))) (0x3C ∷ [])

unfoldable pub chip_lines : List Bool
chip_lines = slave_byte ∷ stored ∷ cell_kept ∷ []
