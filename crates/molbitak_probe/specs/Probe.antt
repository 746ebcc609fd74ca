-- THE FIELDS OF A BOARD BY NUMBER: place i of a part is word i of its list. Assumes nothing.
-- The reader, the cart and the registers have their own lists; those of the C layout's chip and of what is fitted are here.
use Rattle.std.specs.Prelude.{List, [], ◌∷◌, ℕ, eqb, get_or}
use Rattle.laws.specs.Choice.{pick}
use Rattle.laws.specs.Words.{flag}
use Rattle.bandai_fcg.specs.ReaderWords.{reader_words}
use Rattle.cart.specs.CartWords.{cart_words}
use Rattle.regs.specs.RegsWords.{regs_words}
use Rattle.board_codes.specs.declared.chip.EepromC.{EepromC}
use Rattle.board_codes.specs.declared.board.DevicesC.{DevicesC}
use Rattle.board_codes.specs.declared.board.BandaiC.{BandaiC}
use Rattle.board_codes.specs.declared.board.BoardC.{BoardC}

unfoldable pub chip_fields : EepromC → List ℕ
chip_fields c =
    c.model ∷ c.mode ∷ c.next_mode ∷ c.chip_addr ∷ c.addr ∷ c.shift ∷ c.counter ∷ c.output ∷ c.prev_scl ∷ c.prev_sda ∷ []

unfoldable pub flag_fields : DevicesC → List ℕ
flag_fields d = flag d.has_barcode_reader ∷ flag d.has_standard_eeprom ∷ flag d.has_extra_eeprom ∷ []

-- PLACE i OF A PART, 0 past it: the parts of the devices,
unfoldable pub devices_field : DevicesC → ℕ → ℕ → ℕ
devices_field d part i =
    pick (eqb part 3) (get_or (chip_fields d.standard_eeprom) i 0)
    (pick (eqb part 4) (get_or (chip_fields d.extra_eeprom) i 0)
    (pick (eqb part 5) (get_or (flag_fields d) i 0) 0))

-- .. and of the reader, the cart and the registers,
unfoldable pub bandai_field : BandaiC → ℕ → ℕ → ℕ
bandai_field h part i =
    pick (eqb part 0) (get_or (reader_words h.barcode_reader) i 0)
    (pick (eqb part 1) (get_or (cart_words h.cart) i 0)
    (pick (eqb part 2) (get_or (regs_words h.regs) i 0) (devices_field h.devices part i)))

-- .. and of the whole board
unfoldable pub field_of : BoardC → ℕ → ℕ → ℕ
field_of b part i =
    pick (eqb part 6) (get_or b.modules i 0)
    (pick (eqb part 7) (get_or b.standard_rom i 0)
    (pick (eqb part 8) (get_or b.extra_rom i 0) (bandai_field b.bandai part i)))
