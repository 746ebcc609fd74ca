-- THE DATASHEET'S TRANSACTIONS, computed on one X24C02 from power on: a page of two bytes written at 0x13, one of which wraps to 0x10; a random read
-- at 0x13, not acknowledged, and one acknowledged; six bytes from 0xFE; a slave byte sent low bit first. After each part: mode, next mode, slave
-- byte, word address, byte, counter, output. Assumes nothing.
use Rattle.std.specs.Prelude.{ℕ, ◌≡◌, refl, List, [], ◌∷◌, ◌++◌, get_or, set, take}
use Rattle.laws.specs.Lists.{blank}
use Rattle.eeprom_bits.specs.declared.EepromRule.TheVariants.{Datasheet}
use Rattle.eeprom.specs.declared.EepromModel.TheVariants.{X24C02}
use Rattle.eeprom.specs.Eeprom.{new_eeprom, step_of, stores, eeprom_after, rom_after}
use Rattle.eeprom.specs.Run.{Device, Levels, after_levels, start_levels, stop_levels, line_clock, line_clocks}
use Rattle.eeprom_codes.specs.Codes.{mode_number}
use Rattle.eeprom_codes.specs.Examples.{new_device}
use Rattle.eeprom_codes.specs.KnownRun.{after_known, after_known_lem}
use Rattle.eeprom_transactions.specs.Transaction.{high_bits, group_stored, group_after}

-- the fields, and cells of the memory
abbrev fields : Device → List ℕ
fields d =
    mode_number d.chip.mode ∷ mode_number d.chip.next_mode ∷ d.chip.chip_addr ∷ d.chip.addr ∷ d.chip.«data» ∷ d.chip.counter ∷ d.chip.output ∷ []

abbrev cells : List ℕ → Device → List ℕ
cells [] d = []
cells (k ∷ ks) d = get_or d.rom k 0 ∷ cells ks d

-- a fresh chip after levels, each step worked out; it is the run (`run_is`, `read_run_is`)
abbrev run : List Levels → Device
run ls = after_known Datasheet (new_device X24C02 (blank 256)) ls

pub run_is : (ls : List Levels) → after_levels Datasheet (new_device X24C02 (blank 256)) ls ≡ run ls
run_is ls = after_known_lem Datasheet (new_device X24C02 (blank 256)) ls

-- THE WRITE: the slave byte; its acknowledge clock's rise, and fall; the address; its acknowledge; 0x5A; 0xC3; STOP
abbrev slave : List Levels
slave = start_levels ++ line_clocks (high_bits 0xA0)

abbrev addressed : List Levels
addressed = slave ++ (line_clock 1 ++ line_clocks (high_bits 0x13))

abbrev one : List Levels
one = addressed ++ (line_clock 1 ++ line_clocks (high_bits 0x5A))

abbrev two : List Levels
two = one ++ (line_clock 1 ++ line_clocks (high_bits 0xC3))

abbrev written : List Levels
written = two ++ (line_clock 1 ++ stop_levels)

pub after_slave_lem : fields (run slave) ≡ 4 ∷ 1 ∷ 160 ∷ 0 ∷ 0 ∷ 0 ∷ 1 ∷ []
unfolding new_eeprom step_of stores eeprom_after rom_after blank
after_slave_lem = refl

pub slave_acknowledged : fields (run (slave ++ ((0, 1) ∷ (1, 1) ∷ []))) ≡ 4 ∷ 1 ∷ 160 ∷ 0 ∷ 0 ∷ 0 ∷ 0 ∷ []
unfolding new_eeprom step_of stores eeprom_after rom_after blank
slave_acknowledged = refl

pub address_awaited : fields (run (slave ++ line_clock 1)) ≡ 1 ∷ 1 ∷ 160 ∷ 0 ∷ 0 ∷ 0 ∷ 1 ∷ []
unfolding new_eeprom step_of stores eeprom_after rom_after blank
address_awaited = refl

pub after_address : fields (run addressed) ≡ 4 ∷ 3 ∷ 160 ∷ 19 ∷ 0 ∷ 0 ∷ 1 ∷ []
unfolding new_eeprom step_of stores eeprom_after rom_after blank
after_address = refl

pub byte_awaited : fields (run (addressed ++ line_clock 1)) ≡ 3 ∷ 3 ∷ 160 ∷ 19 ∷ 0 ∷ 0 ∷ 1 ∷ []
unfolding new_eeprom step_of stores eeprom_after rom_after blank
byte_awaited = refl

pub after_one : fields (run one) ++ cells (0x13 ∷ []) (run one) ≡ 4 ∷ 3 ∷ 160 ∷ 16 ∷ 90 ∷ 0 ∷ 1 ∷ 0x5A ∷ []
unfolding new_eeprom step_of stores eeprom_after rom_after blank
after_one = refl

pub after_two : fields (run two) ++ cells (0x13 ∷ 0x10 ∷ []) (run two) ≡ 4 ∷ 3 ∷ 160 ∷ 17 ∷ 195 ∷ 0 ∷ 1 ∷ 0x5A ∷ 0xC3 ∷ []
unfolding new_eeprom step_of stores eeprom_after rom_after blank
after_two = refl

pub after_stop : fields (run written) ≡ 0 ∷ 3 ∷ 160 ∷ 17 ∷ 67 ∷ 1 ∷ 1 ∷ []
unfolding new_eeprom step_of stores eeprom_after rom_after blank
after_stop = refl

-- THE READ of a memory with 0x5A at 0x13 and 0x77 at 0x14: the address, START again, 0xA1, its acknowledge, and the eight bits of the cell
unfoldable pub cells_to_read : List ℕ
cells_to_read = set (set (blank 256) 0x13 0x5A) 0x14 0x77

abbrev read_run : List Levels → Device
read_run ls = after_known Datasheet (new_device X24C02 cells_to_read) ls

pub read_run_is : (ls : List Levels) → after_levels Datasheet (new_device X24C02 cells_to_read) ls ≡ read_run ls
read_run_is ls = after_known_lem Datasheet (new_device X24C02 cells_to_read) ls

abbrev asked : List Levels
asked = addressed ++ (line_clock 1 ++ ((0, 1) ∷ (start_levels ++ line_clocks (high_bits 0xA1))))

abbrev ones : List ℕ
ones = 1 ∷ 1 ∷ 1 ∷ 1 ∷ 1 ∷ 1 ∷ 1 ∷ 1 ∷ []

abbrev told : List Levels
told = asked ++ (line_clock 1 ++ line_clocks ones)

pub after_asked : fields (read_run asked) ≡ 4 ∷ 2 ∷ 161 ∷ 19 ∷ 90 ∷ 0 ∷ 1 ∷ []
unfolding new_eeprom step_of stores eeprom_after rom_after blank cells_to_read
after_asked = refl

-- the outputs at the eight rises
abbrev out : ℕ → ℕ
out n = (read_run (asked ++ (line_clock 1 ++ (line_clocks (take n ones) ++ ((0, 1) ∷ (1, 1) ∷ []))))).chip.output

pub bits_told : out 0 ∷ out 1 ∷ out 2 ∷ out 3 ∷ out 4 ∷ out 5 ∷ out 6 ∷ out 7 ∷ [] ≡ 0 ∷ 1 ∷ 0 ∷ 1 ∷ 1 ∷ 0 ∷ 1 ∷ 0 ∷ []
unfolding new_eeprom step_of stores eeprom_after rom_after blank cells_to_read
bits_told = refl

pub after_told : fields (read_run told) ≡ 5 ∷ 2 ∷ 161 ∷ 20 ∷ 90 ∷ 8 ∷ 0 ∷ []
unfolding new_eeprom step_of stores eeprom_after rom_after blank cells_to_read
after_told = refl

-- not acknowledged: the rise, and the fall; acknowledged: the rise, and the fall
pub refused_rise : fields (read_run (told ++ ((0, 1) ∷ (1, 1) ∷ []))) ≡ 5 ∷ 0 ∷ 161 ∷ 20 ∷ 90 ∷ 8 ∷ 0 ∷ []
unfolding new_eeprom step_of stores eeprom_after rom_after blank cells_to_read
refused_rise = refl

pub refused_fall : fields (read_run (told ++ line_clock 1)) ≡ 0 ∷ 0 ∷ 161 ∷ 20 ∷ 90 ∷ 0 ∷ 1 ∷ []
unfolding new_eeprom step_of stores eeprom_after rom_after blank cells_to_read
refused_fall = refl

pub taken_rise : fields (read_run (told ++ ((0, 0) ∷ (1, 0) ∷ []))) ≡ 5 ∷ 2 ∷ 161 ∷ 20 ∷ 0x77 ∷ 8 ∷ 0 ∷ []
unfolding new_eeprom step_of stores eeprom_after rom_after blank cells_to_read
taken_rise = refl

pub taken_fall : fields (read_run (told ++ line_clock 0)) ≡ 2 ∷ 2 ∷ 161 ∷ 20 ∷ 0x77 ∷ 0 ∷ 1 ∷ []
unfolding new_eeprom step_of stores eeprom_after rom_after blank cells_to_read
taken_fall = refl

-- a slave byte of another device, and 0xA0 sent low bit first: no acknowledge, and the chip is idle
pub other_device : fields (run (start_levels ++ line_clocks (high_bits 0xA2))) ≡ 0 ∷ 0 ∷ 0xA2 ∷ 0 ∷ 0 ∷ 0 ∷ 1 ∷ []
unfolding new_eeprom step_of stores eeprom_after rom_after blank
other_device = refl

pub low_bit_first : fields (run (start_levels ++ line_clocks (0 ∷ 0 ∷ 0 ∷ 0 ∷ 0 ∷ 1 ∷ 0 ∷ 1 ∷ []))) ≡ 0 ∷ 0 ∷ 0x05 ∷ 0 ∷ 0 ∷ 0 ∷ 1 ∷ []
unfolding new_eeprom step_of stores eeprom_after rom_after blank
low_bit_first = refl

-- an address broken off by START after three bits, the last at the rise before START: three new high bits, five old low ones
pub broken_off : fields (run (slave ++ (line_clock 1 ++ (line_clocks (1 ∷ 1 ∷ []) ++ ((0, 1) ∷ start_levels))))) ≡ 6 ∷ 1 ∷ 160 ∷ 0xE0 ∷ 0 ∷ 0 ∷ 1 ∷ []
unfolding new_eeprom step_of stores eeprom_after rom_after blank
broken_off = refl

-- six bytes from 0xFE: cells 0xFC to 0xFF are 3, 4, 5, 6, cell 0 is as it was, and the word address is 0xFC
abbrev six : List ℕ
six = 1 ∷ 2 ∷ 3 ∷ 4 ∷ 5 ∷ 6 ∷ []

abbrev cells_of : List ℕ → List ℕ
cells_of rom = get_or rom 0xFC 0 ∷ get_or rom 0xFD 0 ∷ get_or rom 0xFE 0 ∷ get_or rom 0xFF 0 ∷ get_or rom 0 0 ∷ []

pub six_bytes : (cells_of (group_stored (blank 256) 0xFE six) ≡ 3 ∷ 4 ∷ 5 ∷ 6 ∷ 0 ∷ []) × (group_after 0xFE six ≡ 0xFC)
unfolding group_stored group_after blank
six_bytes = (refl, refl)
