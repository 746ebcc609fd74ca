-- PARTS OF A BOARD AS LISTS OF NUMBERS, each field in the order in which it lies in memory: what the calls on parts of a board are lent.
-- Assumes nothing.
use Rattle.std.specs.Prelude.{Bool, not, List, [], ◌∷◌, ◌++◌, ℕ, eqb, get_or}
use Rattle.laws.specs.Choice.{pick}
use Rattle.bandai_fcg.specs.declared.barcode_reader.BarcodeReader.{BarcodeReader}
use Rattle.board_codes.specs.declared.chip.EepromC.{EepromC}
use Rattle.board_codes.specs.declared.board.DevicesC.{DevicesC}

-- the reader's first three fields
abbrev pub times_c : BarcodeReader → List ℕ
times_c r = r.master_clock ∷ r.insert_cycle ∷ r.new_barcode ∷ []

abbrev pub flag : Bool → ℕ
flag t = pick t 1 0

-- the flag of byte i
abbrev pub flag_at : ℕ → List ℕ → Bool
flag_at i bytes = not (eqb (get_or bytes i 0) 0)

-- a chip, ten bytes
unfoldable pub chip_at : List ℕ → EepromC
chip_at c =
    record { model = get_or c 0 0; mode = get_or c 1 0; next_mode = get_or c 2 0; chip_addr = get_or c 3 0; addr = get_or c 4 0; shift = get_or c 5 0; counter = get_or c 6 0; output = get_or c 7 0; prev_scl = get_or c 8 0; prev_sda = get_or c 9 0 }

unfoldable pub chip_bytes : EepromC → List ℕ
chip_bytes c =
    c.model ∷ c.mode ∷ c.next_mode ∷ c.chip_addr ∷ c.addr ∷ c.shift ∷ c.counter ∷ c.output ∷ c.prev_scl ∷ c.prev_sda ∷ []

-- both chips, and what is fitted: 23 bytes
abbrev pub devices_bytes : DevicesC → List ℕ
devices_bytes d =
    chip_bytes d.standard_eeprom ++ (chip_bytes d.extra_eeprom ++ (flag d.has_barcode_reader ∷ flag d.has_standard_eeprom ∷ flag d.has_extra_eeprom ∷ []))
