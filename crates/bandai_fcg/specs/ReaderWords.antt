-- THE FIELDS OF THE CARD READER, listed once: as words with widths in bytes, in the order in which document 01's state file has them. The
-- digit count has one byte there. The state file, the printed state and the layout probe go by this list. Assumes nothing.
use Rattle.std.specs.Prelude.{ℕ, List, [], ◌∷◌, slice_index}
use Rattle.laws.specs.Words.{cut}
use Rattle.bandai_fcg.specs.declared.barcode_reader.BarcodeReader.{BarcodeReader}

-- clock, insert clock, number (u64 each), digits, module count
abbrev pub reader_widths : List ℕ
reader_widths = 8 ∷ 8 ∷ 8 ∷ 1 ∷ 1 ∷ []

abbrev pub reader_words : BarcodeReader → List ℕ
reader_words r = r.master_clock ∷ r.insert_cycle ∷ r.new_barcode ∷ r.new_barcode_digit_count ∷ r.module_count ∷ []

-- the reader with these words, 0 past the end of the list
abbrev pub reader_from : List ℕ → BarcodeReader
reader_from xs =
    record {
      master_clock = slice_index xs 0;
      insert_cycle = slice_index xs 1;
      new_barcode = slice_index xs 2;
      new_barcode_digit_count = slice_index xs 3;
      module_count = slice_index xs 4;
    }

-- .. each cut to its width
unfoldable pub reader_of : List ℕ → BarcodeReader
reader_of xs = reader_from (cut reader_widths xs)
