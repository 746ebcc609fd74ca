-- A reader is read back from its words, if its digit count fits a byte; any words give a reader that fits the machine's types.
-- Assumes nothing.
use Rattle.std.specs.Prelude.{◌≡◌, ℕ, ◌<◌, List}
use Rattle.std.proofs.Common.{ap, arith}
use Rattle.laws.specs.Words.{Fit}
use Rattle.laws.proofs.WordsLaws.{cut_same}
use Rattle.bandai_fcg.specs.declared.barcode_reader.BarcodeReader.{BarcodeReader}
use Rattle.bandai_fcg.specs.Typed.{TypedReader}
use Rattle.bandai_fcg.specs.ReaderWords.{reader_widths, reader_words, reader_from, reader_of}

pub reader_fit : (r : BarcodeReader) → TypedReader r → r.new_barcode_digit_count < 256 → Fit reader_widths (reader_words r)
reader_fit r t h = (t.master_clock, (t.insert_cycle, (t.new_barcode, (h, (t.module_count, tt)))))

pub reader_back : (r : BarcodeReader) → TypedReader r → r.new_barcode_digit_count < 256 → reader_of (reader_words r) ≡ r
unfolding reader_of
reader_back r t h = ap reader_from (cut_same reader_widths (reader_words r) (reader_fit r t h))

pub reader_typed : (xs : List ℕ) → TypedReader (reader_of xs)
unfolding reader_of
reader_typed xs =
    record { master_clock = omega arith; insert_cycle = omega arith; new_barcode = omega arith; new_barcode_digit_count = omega arith; module_count = omega arith }
