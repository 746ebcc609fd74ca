-- THE BOARD OF ANY BYTES: what their places hold, whatever they are. It need not be believed: StateFileLaws in crate state_file says what
-- the reader gives without it. Assumes nothing.
use Rattle.std.specs.Prelude.{Bool, List, ℕ, ◌+◌, eqb}
use Rattle.laws.specs.Choice.{pick}
use Rattle.laws.specs.Words.{word_at}
use Rattle.eeprom.specs.declared.EepromModel.TheVariants.{X24C01}
use Rattle.eeprom.specs.declared.Eeprom.{Eeprom}
use Rattle.eeprom.specs.Eeprom.{size, new_eeprom}
use Rattle.bandai_fcg.specs.declared.barcode_reader.BarcodeReader.{BarcodeReader}
use Rattle.bandai_fcg.specs.declared.board.Board.{Board}
use Rattle.cart.specs.Cart.{has_reader, has_standard, has_extra}
use Rattle.bandai_fcg.specs.Reader.{new_reader}
use Rattle.state_bodies.specs.declared.cart_body.FileForm.{FileForm}
use Rattle.state_bodies.specs.declared.cart_body.FileForm.TheVariants.{Old, Current}
use Rattle.state_bodies.specs.Bodies.{cart_length, cart_at, regs_length, regs_at, reader_length, reader_at, modules_at, eeprom_length, eeprom_at, rom_at}
use Rattle.state_codec.specs.Encode.{first_start}

-- THE FORM of a list goes by the length of body 1, the word at place 3: the old one where that is 34
abbrev pub length_word : List ℕ → ℕ
length_word f = word_at f 3 2

abbrev pub file_form : List ℕ → FileForm
file_form f = pick (eqb (length_word f) (cart_length Old)) Old Current

-- A part that is not fitted is all zeros, its kinds the first, and takes no room
abbrev pub reader_for : Bool → List ℕ → ℕ → BarcodeReader
reader_for has f at = pick has (reader_at f at) new_reader

abbrev pub eeprom_for : Bool → List ℕ → ℕ → Eeprom
eeprom_for has f at = pick has (eeprom_at f at) (new_eeprom X24C01)

abbrev pub fitted_length : Bool → ℕ → ℕ
fitted_length has n = pick has n 0

-- the board whose bodies adjoin from the place `at` on; which there are goes by the description
abbrev pub board_from : FileForm → List ℕ → ℕ → Board
board_from form f at =
    let c = cart_at form f at in
    let reader_start = at + cart_length form + regs_length in
    let r = reader_for (has_reader c) f reader_start in
    let standard_start = reader_start + fitted_length (has_reader c) (reader_length r) in
    let s = eeprom_for (has_standard c) f standard_start in
    let extra_start = standard_start + fitted_length (has_standard c) (eeprom_length s.model) in
    let e = eeprom_for (has_extra c) f extra_start in
    record {
      bandai = record {
        barcode_reader = r;
        cart = c;
        regs = regs_at f (at + cart_length form);
        standard_eeprom = s;
        extra_eeprom = e;
        has_barcode_reader = has_reader c;
        has_standard_eeprom = has_standard c;
        has_extra_eeprom = has_extra c;
      };
      modules = modules_at f reader_start r.module_count;
      standard_rom = rom_at f standard_start (fitted_length (has_standard c) (size s.model));
      extra_rom = rom_at f extra_start (fitted_length (has_extra c) (size e.model));
    }

-- what the places of a list hold, whatever list it is
unfoldable pub decode : List ℕ → Board
decode f = board_from (file_form f) f (first_start (word_at f 0 1))
