-- The card reader: its clock, the insertion, the card, and the module that it shows. Assumes nothing.
use Rattle.std.specs.Prelude.{ℕ, ◌+◌, ◌-◌, ◌/◌, ◌%◌, ◌^◌, Bool, List, [], nat_lt, slice_index}
use Rattle.laws.specs.Choice.{pick}
use Rattle.bandai_fcg.specs.declared.barcode_reader.BarcodeReader.{BarcodeReader}
use Rattle.bandai_fcg.specs.declared.module_read.ModuleRead.{ModuleRead}
use Rattle.bandai_fcg.specs.ReaderWords.{reader_from}

-- no card: all zeros
abbrev pub new_reader : BarcodeReader
new_reader = reader_from []

-- the reader at another clock; a valid board's clock is at most 2^62, and no accepted call wraps it
abbrev pub at_clock : ℕ → BarcodeReader → BarcodeReader
at_clock n r =
    record { master_clock = n % 2 ^ 64; insert_cycle = r.insert_cycle; new_barcode = r.new_barcode; new_barcode_digit_count = r.new_barcode_digit_count; module_count = r.module_count }

-- a clock advances the reader's clock
abbrev pub tick_reader : BarcodeReader → BarcodeReader
tick_reader r = at_clock (r.master_clock + 1) r

-- n clocks at once
abbrev pub counted_reader : ℕ → BarcodeReader → BarcodeReader
counted_reader n r = at_clock (r.master_clock + n) r

-- a card is put in: its number and its digit count
abbrev pub input_of : ℕ → ℕ → BarcodeReader → BarcodeReader
input_of number digits r =
    record { master_clock = r.master_clock; insert_cycle = r.insert_cycle; new_barcode = number; new_barcode_digit_count = digits; module_count = r.module_count }

-- insert sets the insert clock
abbrev pub inserted_of : ℕ → BarcodeReader → BarcodeReader
inserted_of count r =
    record { master_clock = r.master_clock; insert_cycle = r.master_clock; new_barcode = r.new_barcode; new_barcode_digit_count = r.new_barcode_digit_count; module_count = count }

-- MODULE READ. The clocks since the insertion; 0 where the insertion is later, as in no valid reader
abbrev pub elapsed : ℕ → ℕ → ℕ
elapsed clock insert = clock - insert

-- module number (the paper's stripe number): (clock - insert clock) / 1,000
abbrev pub module_number : ℕ → ℕ → ℕ
module_number clock insert = elapsed clock insert / 1000

-- the clocks spent in that module, 0 to 999
abbrev pub module_spent : ℕ → ℕ → ℕ
module_spent clock insert = elapsed clock insert % 1000

-- the light of a module: 8 light, 0 dark; past the end 0
abbrev pub light_at : List ℕ → ℕ → ℕ → ℕ
light_at modules count n = pick (nat_lt n count) (slice_index modules n) 0

-- all three; without a reader each is 0
unfoldable pub module_read_at : Bool → ℕ → ℕ → ℕ → List ℕ → ModuleRead
module_read_at fitted clock insert count modules =
    pick fitted
    (record { number = module_number clock insert; spent = module_spent clock insert; light = light_at modules count (module_number clock insert) })
    (record { number = 0; spent = 0; light = 0 })
