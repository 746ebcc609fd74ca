-- A BOARD AS IT CROSSES to Rust or C, with a code for each enum: which codes are known (`known_board`), the board of the codes (`board_of`),
-- and the codes of a board (`board_c`). The codes are those of crate eeprom_codes. That nothing is lost on the way is in CodesLaws. Assumes
-- nothing.
use Rattle.std.specs.Prelude.{Bool, ◌&&◌}
use Rattle.eeprom.specs.declared.Eeprom.{Eeprom}
use Rattle.eeprom_codes.specs.Codes.{model_number, mode_number, model_of, mode_of}
use Rattle.laws.specs.Choice.{pick}
use Rattle.bandai_fcg.specs.declared.board.Board.{Board}
use Rattle.bandai_fcg.specs.Board.{empty_board}
use Rattle.board_codes.specs.declared.chip.EepromC.{EepromC}
use Rattle.board_codes.specs.declared.board.DevicesC.{DevicesC}
use Rattle.board_codes.specs.declared.board.BandaiC.{BandaiC}
use Rattle.board_codes.specs.declared.board.BoardC.{BoardC}
-- WHICH CODES ARE KNOWN
pub use Rattle.eeprom_codes.specs.Codes.{known_model, known_mode}

unfoldable pub known_chip : EepromC → Bool
known_chip c = known_model c.model && known_mode c.mode && known_mode c.next_mode

unfoldable pub known_board : BoardC → Bool
known_board b = known_chip b.bandai.devices.standard_eeprom && known_chip b.bandai.devices.extra_eeprom

-- IN: the chip and the board of the codes. An unknown code stands for the first variant, so a caller tests `known` first
unfoldable pub chip_of : EepromC → Eeprom
chip_of c =
    record { model = model_of c.model; mode = mode_of c.mode; next_mode = mode_of c.next_mode; chip_addr = c.chip_addr; addr = c.addr; «data» = c.shift; counter = c.counter; output = c.output; prev_scl = c.prev_scl; prev_sda = c.prev_sda }

unfoldable pub board_of : BoardC → Board
board_of b =
    record {
      bandai = record {
        barcode_reader = b.bandai.barcode_reader;
        cart = b.bandai.cart;
        regs = b.bandai.regs;
        standard_eeprom = chip_of b.bandai.devices.standard_eeprom;
        extra_eeprom = chip_of b.bandai.devices.extra_eeprom;
        has_barcode_reader = b.bandai.devices.has_barcode_reader;
        has_standard_eeprom = b.bandai.devices.has_standard_eeprom;
        has_extra_eeprom = b.bandai.devices.has_extra_eeprom;
      };
      modules = b.modules;
      standard_rom = b.standard_rom;
      extra_rom = b.extra_rom;
    }

-- OUT: the codes of a chip and of a board
unfoldable pub chip_c : Eeprom → EepromC
chip_c s =
    record { model = model_number s.model; mode = mode_number s.mode; next_mode = mode_number s.next_mode; chip_addr = s.chip_addr; addr = s.addr; shift = s.«data»; counter = s.counter; output = s.output; prev_scl = s.prev_scl; prev_sda = s.prev_sda }

unfoldable pub devices_c : Board → DevicesC
devices_c b =
    record { standard_eeprom = chip_c b.bandai.standard_eeprom; extra_eeprom = chip_c b.bandai.extra_eeprom; has_barcode_reader = b.bandai.has_barcode_reader; has_standard_eeprom = b.bandai.has_standard_eeprom; has_extra_eeprom = b.bandai.has_extra_eeprom }

unfoldable pub bandai_c : Board → BandaiC
bandai_c b = record { barcode_reader = b.bandai.barcode_reader; cart = b.bandai.cart; regs = b.bandai.regs; devices = devices_c b }

unfoldable pub board_c : Board → BoardC
board_c b = record { bandai = bandai_c b; modules = b.modules; standard_rom = b.standard_rom; extra_rom = b.extra_rom }

-- IN, for calls that check validity themselves: an unknown code yields the empty board, which is not valid, so such a call answers 12
unfoldable pub board_in : BoardC → Board
board_in b = pick (known_board b) (board_of b) empty_board
