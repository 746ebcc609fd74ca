-- What a chip does when its two lines, SCL and SDA, take new levels. TO READ: `eeprom_after` and `rom_after`, at the end, and up from there.
-- The memory stands beside the chip. A step gets `byte`, what the memory has at the chip's word address, and a level of SDA as a Bool.
-- It goes by the chip rule: `Crate`, document 01's, or `Datasheet`, the X24C02's. What the rule decides of a byte is in crate eeprom_bits.
-- It is total: with a counter above 8 no bit passes and no byte is full until a START or an acknowledge sets it to 0; a word address
-- past the end counts from 0; an X24C01 in mode ChipAddr does nothing until a START or a STOP; a line above 1 is high.
-- `withX v s` is s with its field x at v (State.antt).
-- Assumes nothing.
use Rattle.std.specs.Prelude.{ℕ, ◌+◌, ◌%◌, Bool, true, false, List, ◌==◌, slice_index, slice_set}
use Rattle.laws.specs.Choice.{pick}
use Rattle.eeprom_bits.specs.declared.EepromRule.{EepromRule}
use Rattle.eeprom_bits.specs.declared.EepromRule.TheVariants.{Crate, Datasheet}
use Rattle.eeprom_bits.specs.Bits.{lacks, write_bit, read_bit, slave_passes, slave_reads, next_in_group}
use Rattle.eeprom.specs.declared.EepromModel.{EepromModel}
use Rattle.eeprom.specs.declared.EepromModel.TheVariants.{X24C01, X24C02}
use Rattle.eeprom.specs.declared.EepromMode.{EepromMode}
use Rattle.eeprom.specs.declared.EepromMode.TheVariants.{Idle, Addr, Read, Write, SendAck, WaitAck, ChipAddr}
use Rattle.eeprom.specs.declared.Eeprom.{Eeprom}
use Rattle.eeprom.specs.declared.LineChange.{LineChange}
use Rattle.eeprom.specs.declared.LineChange.TheVariants.{Start, Stop, Rise, Fall, Nothing}
use Rattle.eeprom.specs.Lines.{high, change_of}
use Rattle.eeprom.specs.State.{with_mode, with_next_mode, with_chip_addr, with_addr, with_data, with_counter, with_output, with_lines}

-- how many bytes a model has
abbrev pub size : EepromModel → ℕ
size X24C01 = 128
size X24C02 = 256

-- a model has a mode: the X24C01 has no slave byte
abbrev pub has_mode : EepromModel → EepromMode → Bool
has_mode X24C02 k = true
has_mode X24C01 Idle = true
has_mode X24C01 Addr = true
has_mode X24C01 Read = true
has_mode X24C01 Write = true
has_mode X24C01 SendAck = true
has_mode X24C01 WaitAck = true
has_mode X24C01 ChipAddr = false

-- where in the memory the word address is
abbrev pub place : Eeprom → ℕ
place s = s.addr % size s.model

-- a mode from its start: no bit has passed, and the data line is let go
abbrev pub fresh : EepromMode → Eeprom → Eeprom
fresh k s = with_mode k (with_counter 0 (with_output 1 s))

-- the byte at the word address is fetched, to be sent after the acknowledge
abbrev pub fetched : ℕ → Eeprom → Eeprom
fetched byte s = with_next_mode Read (with_data byte s)

-- the word address goes on by one, round the end
abbrev pub onward : Eeprom → Eeprom
onward s = with_addr ((s.addr + 1) % size s.model) s

-- t where all eight bits of the byte have passed; else s as it is
abbrev pub full : Eeprom → Eeprom → Eeprom
full s t = pick (s.counter == 8) t s

-- THE RULE THAT A MODEL KNOWS: the X24C01 the crate's alone
abbrev pub rule_for : EepromModel → EepromRule → EepromRule
rule_for X24C01 r = Crate
rule_for X24C02 r = r

-- a bit that passes is counted
abbrev pub counted : Eeprom → Eeprom
counted s = with_counter (pick (lacks s.counter) (s.counter + 1) s.counter) s

-- A BIT PASSES: out of the byte; into the slave byte, the word address, the byte
abbrev pub data_out : EepromRule → Eeprom → Eeprom
data_out r s = counted (with_output (read_bit r s.«data» s.counter s.output) s)

abbrev pub chip_addr_in : EepromRule → Bool → Eeprom → Eeprom
chip_addr_in r b s = counted (with_chip_addr (write_bit r s.chip_addr s.counter b) s)

abbrev pub addr_in : EepromRule → Bool → Eeprom → Eeprom
addr_in r b s = counted (with_addr (write_bit r s.addr s.counter b) s)

abbrev pub data_in : EepromRule → Bool → Eeprom → Eeprom
data_in r b s = counted (with_data (write_bit r s.«data» s.counter b) s)

-- the X24C01's word address has seven bits; the eighth says read (1) or write
abbrev pub directed : Bool → ℕ → Eeprom → Eeprom
directed true byte s = fetched byte s
directed false byte s = with_next_mode Write s

abbrev pub word_in : Bool → ℕ → Eeprom → Eeprom
word_in b byte s = pick (s.counter == 7) (with_counter 8 (directed b byte s)) (addr_in Crate b s)

-- A READ IS ACKNOWLEDGED: SDA is 0 at the clock after its byte
abbrev pub acked : EepromModel → ℕ → Eeprom → Eeprom
acked X24C01 byte s = with_next_mode Idle s
acked X24C02 byte s = fetched byte s

-- A READ IS NOT ACKNOWLEDGED: SDA is 1 there, and the old byte stands; by the datasheet the chip is to go idle
abbrev pub unacked : EepromRule → Eeprom → Eeprom
unacked Crate s = s
unacked Datasheet s = with_next_mode Idle s

-- THE CLOCK RISES, with SDA at b
abbrev pub rise_of : EepromRule → EepromModel → EepromMode → Bool → ℕ → Eeprom → Eeprom
rise_of r m Idle b byte s = s
rise_of r m Read b byte s = data_out r s
rise_of r m Write b byte s = data_in r b s
rise_of r m SendAck b byte s = with_output 0 s
rise_of r m WaitAck true byte s = unacked r s
rise_of r m WaitAck false byte s = acked m byte s
rise_of r X24C01 Addr b byte s = word_in b byte s
rise_of r X24C02 Addr b byte s = addr_in r b s
rise_of r X24C01 ChipAddr b byte s = s
rise_of r X24C02 ChipAddr b byte s = chip_addr_in r b s

-- WHAT FOLLOWS A SLAVE BYTE THAT ASKS TO WRITE: at once the word address; by the datasheet an acknowledge, then the word address
abbrev pub after_write_slave : EepromRule → Eeprom → Eeprom
after_write_slave Crate s = fresh Addr s
after_write_slave Datasheet s = fresh SendAck (with_next_mode Addr s)

-- WHAT FOLLOWS A SLAVE BYTE: an acknowledge and a read; a write; or, if it does not pass, nothing
abbrev pub after_slave : EepromRule → ℕ → Eeprom → Eeprom
after_slave r byte s =
    pick (slave_passes r s.chip_addr)
    (pick (slave_reads s.chip_addr) (fresh SendAck (fetched byte s)) (after_write_slave r s))
    (fresh Idle s)

-- THE WORD ADDRESS AFTER A STORED BYTE: the next one; by the datasheet the next of its four cells
abbrev pub past_store : EepromRule → Eeprom → Eeprom
past_store Crate s = onward s
past_store Datasheet s = with_addr (next_in_group s.addr) s

-- WHAT FOLLOWS A STORED BYTE: an acknowledge, then nothing (X24C01) or the next byte (X24C02)
abbrev pub after_store : EepromRule → EepromModel → Eeprom → Eeprom
after_store r X24C01 s = with_mode SendAck (with_next_mode Idle (past_store r s))
after_store r X24C02 s = with_mode SendAck (with_next_mode Write (with_counter 0 (past_store r s)))

-- THE CLOCK FALLS
abbrev pub fall_of : EepromRule → EepromModel → EepromMode → ℕ → Eeprom → Eeprom
fall_of r m Idle byte s = s
fall_of r m SendAck byte s = fresh s.next_mode s
fall_of r m Read byte s = full s (with_mode WaitAck (onward s))
fall_of r m Write byte s = full s (after_store r m s)
fall_of r X24C01 Addr byte s = full s (with_mode SendAck (with_output 1 s))
fall_of r X24C02 Addr byte s = full s (fresh SendAck (with_next_mode Write s))
fall_of r X24C01 WaitAck byte s = s
fall_of r X24C02 WaitAck byte s = fresh s.next_mode s
fall_of r X24C01 ChipAddr byte s = s
fall_of r X24C02 ChipAddr byte s = full s (after_slave r byte s)

-- START: a new address comes. The X24C01 has no slave byte, and its word address starts at 0
abbrev pub start_of : EepromModel → Eeprom → Eeprom
start_of X24C01 s = with_addr 0 (fresh Addr s)
start_of X24C02 s = fresh ChipAddr s

-- WHAT THE LINES DO TO A CHIP, with SDA at b
abbrev pub moved : EepromRule → LineChange → Bool → ℕ → Eeprom → Eeprom
moved r Start b byte s = start_of s.model s
moved r Stop b byte s = with_mode Idle (with_output 1 s)
moved r Rise b byte s = rise_of r s.model s.mode b byte s
moved r Fall b byte s = fall_of r s.model s.mode byte s
moved r Nothing b byte s = s

-- A BYTE IS STORED where the clock falls after the eighth bit of a write
abbrev pub stores_at : LineChange → EepromMode → ℕ → Bool
stores_at Fall Write counter = counter == 8
stores_at Fall Idle counter = false
stores_at Fall Addr counter = false
stores_at Fall Read counter = false
stores_at Fall SendAck counter = false
stores_at Fall WaitAck counter = false
stores_at Fall ChipAddr counter = false
stores_at Start k counter = false
stores_at Stop k counter = false
stores_at Rise k counter = false
stores_at Nothing k counter = false

-- what happens to a chip's lines when they go to the levels scl and sda
abbrev pub line_change : Eeprom → ℕ → ℕ → LineChange
line_change s scl sda = change_of (high s.prev_scl) (high scl) (high s.prev_sda) (high sda)

-- ONE STEP OF THE CHIP: what the lines do by the rule that its model knows, and their levels are kept for the next
unfoldable pub step_of : EepromRule → Eeprom → ℕ → ℕ → ℕ → Eeprom
step_of r s byte scl sda = with_lines scl sda (moved (rule_for s.model r) (line_change s scl sda) (high sda) byte s)

-- whether that step stores the chip's byte, under either rule
unfoldable pub stores : Eeprom → ℕ → ℕ → Bool
stores s scl sda = stores_at (line_change s scl sda) s.mode s.counter

-- A CHIP AS IT IS MADE: idle
unfoldable pub new_eeprom : EepromModel → Eeprom
new_eeprom m =
    record { model = m; mode = Idle; next_mode = Idle; chip_addr = 0; addr = 0; «data» = 0; counter = 0; output = 0; prev_scl = 0; prev_sda = 0 }

-- ONE STEP OF CHIP AND MEMORY: the chip after it, and the memory after it
unfoldable pub eeprom_after : EepromRule → Eeprom → List ℕ → ℕ → ℕ → Eeprom
eeprom_after r s rom scl sda = step_of r s (slice_index rom (place s)) scl sda

unfoldable pub rom_after : Eeprom → List ℕ → ℕ → ℕ → List ℕ
rom_after s rom scl sda = pick (stores s scl sda) (slice_set rom (place s) s.«data») rom
