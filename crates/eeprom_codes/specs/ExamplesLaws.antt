-- The worked examples of Examples.antt, computed.
-- Assumes nothing.
use Rattle.std.specs.Prelude.{ℕ, ◌≡◌, refl, true, List, [], ◌∷◌, ◌++◌}
use Rattle.std.proofs.Common.{ap, ◌∙◌}
use Rattle.laws.specs.Choice.{all_true}
use Rattle.laws.specs.Lists.{blank, same}
use Rattle.eeprom_bits.specs.declared.EepromRule.TheVariants.{Crate}
use Rattle.eeprom.specs.declared.EepromModel.TheVariants.{X24C01, X24C02}
use Rattle.eeprom.specs.Eeprom.{new_eeprom, step_of, stores, eeprom_after, rom_after}
use Rattle.eeprom_codes.specs.Examples.{new_device, slave_and_mode, byte_at, slave_bits, eight_bits, written, slave_byte, stored, cell_kept, chip_lines}
use Rattle.eeprom_codes.specs.KnownRun.{after_known, after_known_lem}

slave_run : slave_and_mode (after_known Crate (new_device X24C02 (blank 256)) slave_bits) ≡ 0x05 ∷ 0 ∷ []
unfolding new_eeprom step_of stores eeprom_after rom_after blank
slave_run = refl

stored_run : byte_at 3 (after_known Crate (new_device X24C01 written) (eight_bits ++ ((0, 1) ∷ []))) ≡ 0xA5 ∷ []
unfolding new_eeprom step_of stores eeprom_after rom_after blank written
stored_run = refl

kept_run : byte_at 3 (after_known Crate (new_device X24C01 written) (eight_bits ++ ((1, 0) ∷ (0, 0) ∷ []))) ≡ 0x3C ∷ []
unfolding new_eeprom step_of stores eeprom_after rom_after blank written
kept_run = refl

slave_line : slave_byte ≡ true
unfolding slave_byte same
slave_line = ap (λ (l : List ℕ). same l (0x05 ∷ 0 ∷ [])) (ap slave_and_mode (after_known_lem Crate (new_device X24C02 (blank 256)) slave_bits) ∙ slave_run) ∙ refl

stored_line : stored ≡ true
unfolding stored same
stored_line = ap (λ (l : List ℕ). same l (0xA5 ∷ [])) (ap (byte_at 3) (after_known_lem Crate (new_device X24C01 written) (eight_bits ++ ((0, 1) ∷ []))) ∙ stored_run) ∙ refl

kept_line : cell_kept ≡ true
unfolding cell_kept same
kept_line = ap (λ (l : List ℕ). same l (0x3C ∷ [])) (ap (byte_at 3) (after_known_lem Crate (new_device X24C01 written) (eight_bits ++ ((1, 0) ∷ (0, 0) ∷ []))) ∙ kept_run) ∙ refl

pub chip_lines_lem : all_true chip_lines ≡ true
unfolding chip_lines
chip_lines_lem = rw (slave_line, stored_line, kept_line) refl
