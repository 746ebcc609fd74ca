-- A board with some of its parts set anew, by name. The fields of a state are listed once, in `with_parts`, and those of a board once, in
-- `with_arrays`. Assumes nothing.
use Rattle.std.specs.Prelude.{ℕ, List}
use Rattle.eeprom.specs.declared.Eeprom.{Eeprom}
use Rattle.regs.specs.declared.Regs.{Regs}
use Rattle.bandai_fcg.specs.declared.barcode_reader.BarcodeReader.{BarcodeReader}
use Rattle.bandai_fcg.specs.declared.board.BandaiFCG.{BandaiFCG}
use Rattle.bandai_fcg.specs.declared.board.Board.{Board}

-- THE STATE. The parts that events change; the cart and what is fitted stay
abbrev pub with_parts : BarcodeReader → Regs → Eeprom → Eeprom → BandaiFCG → BandaiFCG
with_parts reader r standard extra s =
    record {
      barcode_reader = reader;
      cart = s.cart;
      regs = r;
      standard_eeprom = standard;
      extra_eeprom = extra;
      has_barcode_reader = s.has_barcode_reader;
      has_standard_eeprom = s.has_standard_eeprom;
      has_extra_eeprom = s.has_extra_eeprom;
    }

-- the registers
abbrev pub with_regs : Regs → BandaiFCG → BandaiFCG
with_regs r s = with_parts s.barcode_reader r s.standard_eeprom s.extra_eeprom s

-- the reader
abbrev pub with_reader : BarcodeReader → BandaiFCG → BandaiFCG
with_reader reader s = with_parts reader s.regs s.standard_eeprom s.extra_eeprom s

-- THE BOARD of a state, the reader's modules, and the memories of the standard and the extra chip
abbrev pub with_arrays : BandaiFCG → List ℕ → List ℕ → List ℕ → Board
with_arrays s modules standard extra = record { bandai = s; modules = modules; standard_rom = standard; extra_rom = extra }

-- the state
abbrev pub with_bandai : BandaiFCG → Board → Board
with_bandai s b = with_arrays s b.modules b.standard_rom b.extra_rom

-- the reader and its modules
abbrev pub with_card : BarcodeReader → List ℕ → Board → Board
with_card reader modules b = with_arrays (with_reader reader b.bandai) modules b.standard_rom b.extra_rom

-- the standard chip and its memory
abbrev pub with_standard : Eeprom → List ℕ → Board → Board
with_standard chip rom b =
    let s = b.bandai in
    with_arrays (with_parts s.barcode_reader s.regs chip s.extra_eeprom s) b.modules rom b.extra_rom

-- the extra chip and its memory
abbrev pub with_extra : Eeprom → List ℕ → Board → Board
with_extra chip rom b =
    let s = b.bandai in
    with_arrays (with_parts s.barcode_reader s.regs s.standard_eeprom chip s) b.modules b.standard_rom rom
