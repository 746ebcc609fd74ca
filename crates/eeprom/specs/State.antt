-- A chip with one field set anew, by name.
-- Assumes nothing.
use Rattle.std.specs.Prelude.{ℕ}
use Rattle.eeprom.specs.declared.EepromMode.{EepromMode}
use Rattle.eeprom.specs.declared.Eeprom.{Eeprom}

-- in another mode
abbrev pub with_mode : EepromMode → Eeprom → Eeprom
with_mode v s =
    record { model = s.model; mode = v; next_mode = s.next_mode; chip_addr = s.chip_addr; addr = s.addr; «data» = s.«data»; counter = s.counter; output = s.output; prev_scl = s.prev_scl; prev_sda = s.prev_sda }

-- with another mode to go to after an acknowledge
abbrev pub with_next_mode : EepromMode → Eeprom → Eeprom
with_next_mode v s =
    record { model = s.model; mode = s.mode; next_mode = v; chip_addr = s.chip_addr; addr = s.addr; «data» = s.«data»; counter = s.counter; output = s.output; prev_scl = s.prev_scl; prev_sda = s.prev_sda }

-- with another slave byte
abbrev pub with_chip_addr : ℕ → Eeprom → Eeprom
with_chip_addr v s =
    record { model = s.model; mode = s.mode; next_mode = s.next_mode; chip_addr = v; addr = s.addr; «data» = s.«data»; counter = s.counter; output = s.output; prev_scl = s.prev_scl; prev_sda = s.prev_sda }

-- with another word address
abbrev pub with_addr : ℕ → Eeprom → Eeprom
with_addr v s =
    record { model = s.model; mode = s.mode; next_mode = s.next_mode; chip_addr = s.chip_addr; addr = v; «data» = s.«data»; counter = s.counter; output = s.output; prev_scl = s.prev_scl; prev_sda = s.prev_sda }

-- with another byte to send or to store
abbrev pub with_data : ℕ → Eeprom → Eeprom
with_data v s =
    record { model = s.model; mode = s.mode; next_mode = s.next_mode; chip_addr = s.chip_addr; addr = s.addr; «data» = v; counter = s.counter; output = s.output; prev_scl = s.prev_scl; prev_sda = s.prev_sda }

-- with another count of bits
abbrev pub with_counter : ℕ → Eeprom → Eeprom
with_counter v s =
    record { model = s.model; mode = s.mode; next_mode = s.next_mode; chip_addr = s.chip_addr; addr = s.addr; «data» = s.«data»; counter = v; output = s.output; prev_scl = s.prev_scl; prev_sda = s.prev_sda }

-- with another level that it gives to the data line
abbrev pub with_output : ℕ → Eeprom → Eeprom
with_output v s =
    record { model = s.model; mode = s.mode; next_mode = s.next_mode; chip_addr = s.chip_addr; addr = s.addr; «data» = s.«data»; counter = s.counter; output = v; prev_scl = s.prev_scl; prev_sda = s.prev_sda }

-- with the lines' levels kept for the next step
abbrev pub with_lines : ℕ → ℕ → Eeprom → Eeprom
with_lines scl sda s =
    record { model = s.model; mode = s.mode; next_mode = s.next_mode; chip_addr = s.chip_addr; addr = s.addr; «data» = s.«data»; counter = s.counter; output = s.output; prev_scl = scl; prev_sda = sda }
