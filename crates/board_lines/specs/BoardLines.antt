-- THE LINES THAT SHOW A BOARD: the words of each part by their names. In a pattern each `#` stands for the next of the words beside it. Read
-- downwards. Assumes nothing.
use Rattle.std.specs.Prelude.{Bool, List, [], ◌∷◌, ◌++◌, ℕ, eqb, take}
use Rattle.laws.specs.Choice.{pick}
use Rattle.eeprom.specs.declared.Eeprom.{Eeprom}
use Rattle.eeprom_codes.specs.EepromWords.{eeprom_words}
use Rattle.cart.specs.declared.Cart.{Cart}
use Rattle.cart.specs.CartWords.{cart_words}
use Rattle.regs.specs.declared.Regs.{Regs}
use Rattle.regs.specs.RegsWords.{regs_words}
use Rattle.bandai_fcg.specs.declared.barcode_reader.BarcodeReader.{BarcodeReader}
use Rattle.bandai_fcg.specs.ReaderWords.{reader_words}
use Rattle.bandai_fcg.specs.declared.board.Board.{Board}
use Rattle.laws.specs.Codes.{codes}
use Rattle.laws.specs.Words.{flag}
use Rattle.lines.specs.Lines.{with_numbers, hex_line, joined}

-- the cart
unfoldable pub cart_line : Cart → List ℕ
cart_line c =
    with_numbers
    (codes "cart mapper_num # submapper_num # nes2 # mirroring # sram_access # prg_rom_size # chr_rom_size # chr_ram_size # prg_ram_size # battery_ext_size # ciram_size # ex_ram_size # eeprom_rule #\n")
    (cart_words c)

-- the registers; the eight CHR registers and the eight CHR banks as numbers
unfoldable pub regs_line : Regs → List ℕ
regs_line r =
    with_numbers
    (codes "regs prg_page # prg_bank_select # prg_ram_enabled # chr_regs # # # # # # # # irq_counter # irq_enabled # irq_pending # irq_reload # mirroring # chr_banks # # # # # # # #\n")
    (regs_words r)

-- the reader and its modules
unfoldable pub reader_line : Bool → BarcodeReader → List ℕ → List ℕ
reader_line fitted r modules =
    with_numbers (codes "barcode_reader fitted #") (flag fitted ∷ [])
    ++ hex_line (codes " master_clock # insert_cycle # new_barcode # new_barcode_digit_count # module_count # modules ") (reader_words r) modules

-- a chip and its memory; kinds by the state file's codes
unfoldable pub chip_line : List ℕ → Bool → Eeprom → List ℕ → List ℕ
chip_line name fitted e rom =
    name
    ++ (with_numbers (codes " fitted #") (flag fitted ∷ [])
    ++ hex_line (codes " model # mode # next_mode # chip_addr # addr # data # counter # output # scl # sda # rom ") (eeprom_words e) rom)

unfoldable pub chip_lines : Board → List ℕ
chip_lines b =
    chip_line (codes "standard_eeprom") b.bandai.has_standard_eeprom b.bandai.standard_eeprom b.standard_rom
    ++ chip_line (codes "extra_eeprom") b.bandai.has_extra_eeprom b.bandai.extra_eeprom b.extra_rom

-- STATE: the five lines
unfoldable pub state_lines : Board → List ℕ
state_lines b =
    cart_line b.bandai.cart
    ++ (regs_line b.bandai.regs
    ++ (reader_line b.bandai.has_barcode_reader b.bandai.barcode_reader b.modules
    ++ chip_lines b))

-- BARS: a character for each of the reader's modules, `#` dark, `.` light
abbrev pub bar_of : ℕ → List ℕ
bar_of m = pick (eqb m 0) (codes "#") (codes ".")

unfoldable pub bars_line : Board → List ℕ
bars_line b =
    pick (eqb b.bandai.barcode_reader.module_count 0) (codes "bars\n")
    (codes "bars " ++ (joined bar_of (take b.bandai.barcode_reader.module_count b.modules) ++ (10 ∷ [])))
