-- A LINE CHANGE OF ONE CHIP under the rule of a code, given as its ten bytes and its memory; that it is the event on the board is in LinesLaws. Assumes nothing.
use Rattle.std.specs.Prelude.{Bool, List, ℕ, eqb}
use Rattle.laws.specs.Choice.{pick}
use Rattle.eeprom_bits.specs.Bits.{rule_of}
use Rattle.eeprom.specs.Eeprom.{eeprom_after, rom_after}
use Rattle.event.specs.Event.{lines_refusal}
use Rattle.board_codes.specs.declared.chip.EepromC.{EepromC}
use Rattle.board_codes.specs.Codes.{known_chip, chip_of, chip_c}
use Rattle.board_codes.specs.Bytes.{chip_at, chip_bytes}

-- the event's refusal, 8 or 7; then 12 where a code is unknown
unfoldable pub line_refusal : EepromC → Bool → ℕ → ℕ → ℕ
line_refusal c fitted scl sda = pick (eqb (lines_refusal fitted scl sda) 0) (pick (known_chip c) 0 12) (lines_refusal fitted scl sda)

unfoldable pub chip_after : ℕ → List ℕ → List ℕ → Bool → ℕ → ℕ → List ℕ
chip_after rule c rom fitted scl sda =
    pick (eqb (line_refusal (chip_at c) fitted scl sda) 0) (chip_bytes (chip_c (eeprom_after (rule_of rule) (chip_of (chip_at c)) rom scl sda))) c

unfoldable pub rom_after_line : List ℕ → List ℕ → Bool → ℕ → ℕ → List ℕ
rom_after_line c rom fitted scl sda =
    pick (eqb (line_refusal (chip_at c) fitted scl sda) 0) (rom_after (chip_of (chip_at c)) rom scl sda) rom
