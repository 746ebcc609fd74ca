-- A chip with its memory that fits the machine's types.
-- Assumes nothing.
use Rattle.std.specs.Prelude.{ℕ, ◌<◌, List}
use Rattle.laws.specs.Lists.{Bytes}
use Rattle.eeprom.specs.declared.Eeprom.{Eeprom}

-- what the machine's types hold: bytes, and 256 of them
pub record Typed (s : Eeprom) (rom : List ℕ) : Type 0 where
  pub chip_addr : s.chip_addr < 256
  pub addr : s.addr < 256
  pub «data» : s.«data» < 256
  pub counter : s.counter < 256
  pub output : s.output < 256
  pub prev_scl : s.prev_scl < 256
  pub prev_sda : s.prev_sda < 256
  pub memory : Bytes 256 rom
