-- A VALID BOARD, as document 01 lists it and nothing more: any other value of a field is valid, whether or not calls can reach it.
-- Flags are Bools and so 0 or 1. Assumes nothing.
use Rattle.std.specs.Prelude.{Bool, true, false, ◌&&◌, ◌||◌, not, ℕ, eqb, leb}
use Rattle.laws.specs.Choice.{pick}
use Rattle.laws.specs.Lists.{every, zeros_from}
use Rattle.barcode.specs.Barcode.{is_module}
use Rattle.eeprom.specs.declared.EepromModel.{EepromModel}
use Rattle.eeprom.specs.declared.EepromModel.TheVariants.{X24C01, X24C02}
use Rattle.eeprom.specs.declared.EepromMode.{EepromMode}
use Rattle.eeprom.specs.declared.EepromMode.TheVariants.{Idle, Addr, Read, Write, SendAck, WaitAck, ChipAddr}
use Rattle.eeprom.specs.declared.Eeprom.{Eeprom}
use Rattle.eeprom_valid.specs.Valid.{valid_eeprom}
use Rattle.bandai_fcg.specs.declared.barcode_reader.BarcodeReader.{BarcodeReader}
use Rattle.regs.specs.declared.Regs.{Regs}
use Rattle.bandai_fcg.specs.declared.board.Board.{Board}
use Rattle.cart.specs.Cart.{cart_refusal, has_reader, has_standard, is_x24_c02, has_extra}

-- PRG page at most 15, high bank 0 or 16, mirroring a listed code
abbrev pub valid_regs : Regs → Bool
valid_regs r = leb r.prg_page 15 && (eqb r.prg_bank_select 0 || eqb r.prg_bank_select 16) && leb r.mirroring 4

-- insert clock at most clock, clock at most 2^62, digits at most 20, modules at most 160
abbrev pub clock_limit : ℕ
clock_limit = 0x4000000000000000

abbrev pub valid_reader : BarcodeReader → Bool
valid_reader r =
    leb r.insert_cycle r.master_clock && leb r.master_clock clock_limit && leb r.new_barcode_digit_count 20 && leb r.module_count 160

-- zeros for a part not fitted, its kinds the first
abbrev pub is_blank_reader : BarcodeReader → Bool
is_blank_reader r =
    eqb r.master_clock 0 && eqb r.insert_cycle 0 && eqb r.new_barcode 0 && eqb r.new_barcode_digit_count 0 && eqb r.module_count 0

abbrev pub is_x24_c01 : EepromModel → Bool
is_x24_c01 X24C01 = true
is_x24_c01 X24C02 = false

abbrev pub is_idle : EepromMode → Bool
is_idle Idle = true
is_idle Addr = false
is_idle Read = false
is_idle Write = false
is_idle SendAck = false
is_idle WaitAck = false
is_idle ChipAddr = false

abbrev pub is_blank_chip : Eeprom → Bool
is_blank_chip s =
    is_x24_c01 s.model && is_idle s.mode && is_idle s.next_mode && eqb s.chip_addr 0 && eqb s.addr 0 && eqb s.«data» 0 && eqb s.counter 0 && eqb s.output 0 && eqb s.prev_scl 0 && eqb s.prev_sda 0

-- the reader: fitted as the cart says; each module 0 or 8, zeros past them
unfoldable pub reader_fits : Board → Bool
reader_fits b =
    pick (has_reader b.bandai.cart)
    (b.bandai.has_barcode_reader && valid_reader b.bandai.barcode_reader && every is_module b.modules && zeros_from b.bandai.barcode_reader.module_count b.modules)
    (not b.bandai.has_barcode_reader && is_blank_reader b.bandai.barcode_reader && zeros_from 0 b.modules)

-- the standard chip: fitted as the cart says, of the model fitted
unfoldable pub standard_fits : Board → Bool
standard_fits b =
    pick (has_standard b.bandai.cart)
    (b.bandai.has_standard_eeprom && pick (is_x24_c02 b.bandai.cart) (not (is_x24_c01 b.bandai.standard_eeprom.model)) (is_x24_c01 b.bandai.standard_eeprom.model) && valid_eeprom b.bandai.standard_eeprom b.standard_rom)
    (not b.bandai.has_standard_eeprom && is_blank_chip b.bandai.standard_eeprom && zeros_from 0 b.standard_rom)

-- the extra chip: an X24C01
unfoldable pub extra_fits : Board → Bool
extra_fits b =
    pick (has_extra b.bandai.cart)
    (b.bandai.has_extra_eeprom && is_x24_c01 b.bandai.extra_eeprom.model && valid_eeprom b.bandai.extra_eeprom b.extra_rom)
    (not b.bandai.has_extra_eeprom && is_blank_chip b.bandai.extra_eeprom && zeros_from 0 b.extra_rom)

-- none of 1, 2, 3 and 17; registers, reader and chips valid
unfoldable pub valid_board : Board → Bool
valid_board b = eqb (cart_refusal b.bandai.cart) 0 && valid_regs b.bandai.regs && reader_fits b && standard_fits b && extra_fits b
