-- THE FIELDS OF A CHIP, listed once: as words with widths in bytes, in the order in which document 01's state file has them; a model and a
-- mode by their numbers. The state file and the printed state go by this list. Assumes nothing.
use Rattle.std.specs.Prelude.{List, [], ◌∷◌, ℕ, get_or}
use Rattle.laws.specs.Words.{cut}
use Rattle.eeprom.specs.declared.Eeprom.{Eeprom}
use Rattle.eeprom_codes.specs.Codes.{model_number, mode_number, model_of, mode_of}

-- model (1 or 2), mode, next mode (0 to 6), chip address, address, data, counter, output, SCL, SDA
abbrev pub eeprom_widths : List ℕ
eeprom_widths = 1 ∷ 1 ∷ 1 ∷ 1 ∷ 1 ∷ 1 ∷ 1 ∷ 1 ∷ 1 ∷ 1 ∷ []

abbrev pub eeprom_words : Eeprom → List ℕ
eeprom_words s =
    model_number s.model ∷ mode_number s.mode ∷ mode_number s.next_mode
    ∷ s.chip_addr ∷ s.addr ∷ s.«data» ∷ s.counter ∷ s.output ∷ s.prev_scl ∷ s.prev_sda ∷ []

-- the chip with these words, 0 past the end of the list
abbrev pub eeprom_from : List ℕ → Eeprom
eeprom_from xs =
    record {
      model = model_of (get_or xs 0 0);
      mode = mode_of (get_or xs 1 0);
      next_mode = mode_of (get_or xs 2 0);
      chip_addr = get_or xs 3 0;
      addr = get_or xs 4 0;
      «data» = get_or xs 5 0;
      counter = get_or xs 6 0;
      output = get_or xs 7 0;
      prev_scl = get_or xs 8 0;
      prev_sda = get_or xs 9 0;
    }

-- .. each cut to its width
unfoldable pub eeprom_of : List ℕ → Eeprom
eeprom_of xs = eeprom_from (cut eeprom_widths xs)
