-- A chip with its memory that is as the models allow.
-- Assumes nothing.
use Rattle.std.specs.Prelude.{ℕ, Bool, ◌&&◌, List, ltb, leb}
use Rattle.laws.specs.Lists.{zeros_from}
use Rattle.eeprom.specs.declared.Eeprom.{Eeprom}
use Rattle.eeprom.specs.Eeprom.{size, has_mode}

-- A VALID CHIP: counter at most 8, output and lines 0 or 1, an address that the model has, modes that it has
abbrev pub valid_chip : Eeprom → Bool
valid_chip s =
    leb s.counter 8 && leb s.output 1 && leb s.prev_scl 1 && leb s.prev_sda 1
    && ltb s.addr (size s.model) && has_mode s.model s.mode && has_mode s.model s.next_mode

-- .. WITH A VALID MEMORY: zeros past the model's bytes
unfoldable pub valid_eeprom : Eeprom → List ℕ → Bool
valid_eeprom s rom = valid_chip s && zeros_from (size s.model) rom
