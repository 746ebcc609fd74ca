-- A buffer of 16,384 bytes holds a picture whole: no part is left out for want of room. Assumes nothing.
use Rattle.std.specs.Prelude.{◌≡◌, refl, List, ℕ, zero, suc, ◌*◌, ◌≤◌, length, drop}
use Rattle.std.proofs.Common.{◌∙◌, ap, arith, length-append}
use Rattle.std.proofs.lemmas.List.{length-map}
use Rattle.laws.specs.Decimal.{decimal}
use Rattle.laws.proofs.DecimalLaws.{length_decimal, length_before}
use Rattle.digits.specs.Digits.{digits_of}
use Rattle.barcode.specs.Barcode.{modules_of}
use Rattle.barcode.proofs.BarcodeLaws.{length_modules}
use Rattle.output.specs.Put.{put_all, decimal_of}
use Rattle.output.specs.PutLaws.{written, put_whole}
use Rattle.card.specs.Picture.{pixels, packed, row_of, header_of, rows, picture_of}

length_packed : (n : ℕ) (ps : List ℕ) → length (packed n ps) ≡ n
unfolding packed
length_packed zero ps = refl
length_packed (suc n) ps = ap suc (length_packed n (drop 8 ps))

length_number : (n : ℕ) → length (decimal_of n) ≤ 20
unfolding decimal_of
length_number n = rw (length-map, length_before 1 (decimal 20 n)) (omega (arith, length_decimal 20 n))

length_header : (count : ℕ) → length (header_of count) ≤ 45
unfolding header_of
length_header count = simp (length-append) (omega (arith, length_number (count * 8), length_number 80))

length_rows : (n : ℕ) (r : List ℕ) → length (rows n r) ≡ n * length r
unfolding rows
length_rows zero r = omega arith
length_rows (suc n) r = length-append r (rows n r) ∙ rw (length_rows n r) (omega arith)

-- the picture of every card
pub picture_whole : (number count : ℕ) (out : List ℕ) → 16384 ≤ length out → written (put_all (out, 0) (picture_of number count)) ≡ picture_of number count
unfolding picture_of row_of
picture_whole number count out h =
    let ms = modules_of (digits_of number count) in
    let k : length (rows 80 (packed (length ms) (pixels ms))) ≡ 80 * length ms = length_rows 80 _ ∙ rw (length_packed (length ms) (pixels ms)) refl in
    put_whole (out, 0) (picture_of number count) (rw (length-append (header_of (length ms)) (rows 80 (row_of ms))) (omega (arith, h, k, length_header (length ms), length_modules (digits_of number count))))
