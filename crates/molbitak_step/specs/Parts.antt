-- THE BOARDS THAT LENT PARTS ARE OF: a board with the parts that a call is lent in their places. A call on lent parts is the event on every
-- board that has them: with the parts as they are left in their places it is the board after the event. Assumes nothing.
use Rattle.std.specs.Prelude.{◌≡◌, ℕ, Bool, false, List}
use Rattle.cart.specs.declared.Cart.{Cart}
use Rattle.regs.specs.declared.Regs.{Regs}
use Rattle.eeprom.specs.declared.Eeprom.{Eeprom}
use Rattle.bandai_fcg.specs.declared.barcode_reader.BarcodeReader.{BarcodeReader}
use Rattle.bandai_fcg.specs.declared.board.BandaiFCG.{BandaiFCG}
use Rattle.bandai_fcg.specs.declared.board.Board.{Board}
use Rattle.regs.specs.RegsSet.{with_irq_ctrl, with_irq}
use Rattle.bandai_fcg.specs.Reader.{new_reader, input_of}
use Rattle.bandai_fcg.specs.BoardSet.{with_arrays, with_bandai}
use Rattle.board_codes.specs.declared.chip.EepromC.{EepromC}
use Rattle.board_codes.specs.Codes.{chip_of, chip_c}
use Rattle.board_codes.specs.Bytes.{chip_bytes}

-- a state with its reader, fitted or not, and its registers
abbrev pub with_fitted : Bool → BarcodeReader → Regs → BandaiFCG → BandaiFCG
with_fitted fitted reader r s =
    record { barcode_reader = reader; cart = s.cart; regs = r; standard_eeprom = s.standard_eeprom; extra_eeprom = s.extra_eeprom; has_barcode_reader = fitted; has_standard_eeprom = s.has_standard_eeprom; has_extra_eeprom = s.has_extra_eeprom }

-- CLOCKS: the reader's clock, the interrupt counter, whether an interrupt is pending and whether the counter counts
abbrev pub with_clocks : ℕ → Bool → ℕ → Bool → Bool → Board → Board
with_clocks clock fitted counter pending enabled b =
    let r = b.bandai.barcode_reader in
    let reader : BarcodeReader = record { master_clock = clock; insert_cycle = r.insert_cycle; new_barcode = r.new_barcode; new_barcode_digit_count = r.new_barcode_digit_count; module_count = r.module_count } in
    with_bandai (with_fitted fitted reader (with_irq counter pending (with_irq_ctrl enabled counter b.bandai.regs)) b.bandai) b

-- A CARD: the number and the digit count of the card that was put in
abbrev pub with_card_put : ℕ → ℕ → Bool → Board → Board
with_card_put number digits fitted b =
    with_bandai (with_fitted fitted (input_of number digits b.bandai.barcode_reader) b.bandai.regs b.bandai) b

-- AN INSERTION: the whole reader and its modules
abbrev pub with_insertion : ℕ → ℕ → List ℕ → Bool → ℕ → ℕ → ℕ → Board → Board
with_insertion insert count modules fitted clock number digits b =
    let reader : BarcodeReader = record { master_clock = clock; insert_cycle = insert; new_barcode = number; new_barcode_digit_count = digits; module_count = count } in
    with_arrays (with_fitted fitted reader b.bandai.regs b.bandai) modules b.standard_rom b.extra_rom

-- A REGISTER WRITE: the cart, the registers, both chips and what is fitted of them; of a board without a reader,
abbrev pub chips_state : Cart → Regs → Eeprom → Eeprom → Bool → Bool → BandaiFCG
chips_state c r standard extra has-standard has-extra =
    record { barcode_reader = new_reader; cart = c; regs = r; standard_eeprom = standard; extra_eeprom = extra; has_barcode_reader = false; has_standard_eeprom = has-standard; has_extra_eeprom = has-extra }

-- .. and of any board, with the chips' memories
abbrev pub with_chips : Cart → Regs → EepromC → EepromC → Bool → Bool → List ℕ → List ℕ → Board → Board
with_chips c r standard extra has-standard has-extra standard-rom extra-rom b =
    let s = chips_state c r (chip_of standard) (chip_of extra) has-standard has-extra in
    with_arrays (with_fitted b.bandai.has_barcode_reader b.bandai.barcode_reader r s) b.modules standard-rom extra-rom

-- registers, chips as bytes, and memories are those of a board
abbrev pub Shows : Regs → List ℕ → List ℕ → List ℕ → List ℕ → Board → Type 0
Shows r standard extra standard-rom extra-rom b =
    (r ≡ b.bandai.regs) × (standard ≡ chip_bytes (chip_c b.bandai.standard_eeprom)) × (extra ≡ chip_bytes (chip_c b.bandai.extra_eeprom)) × (standard-rom ≡ b.standard_rom) × (extra-rom ≡ b.extra_rom)
