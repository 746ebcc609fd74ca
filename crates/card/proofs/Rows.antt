-- A row byte by byte, rows one after the other, a header part by part, and a card's modules in their array. Assumes nothing.
use mathlib.Core.Path.{◌≡◌, refl, sym, ◌∙◌, ap}
use mathlib.Core.List.{List, [], ◌∷◌, ◌++◌, map}
use Prim.Native.Nat.{ℕ, zero, suc, ◌+◌, ◌*◌, ◌-◌, ◌<◌}
use native.Mathlib.Omega.{arith}
use lib.ListN.{length, get_or, take, drop}
use Rattle.laws.proofs.ListsLaws.{take_padded}
use Rattle.barcode.specs.Barcode.{modules_in}
use Rattle.output.specs.Put.{put, put_all, decimal_of}
use Rattle.output.specs.PutLaws.{put_none, put_append, put_then, put_last, each_more}
use Rattle.card.specs.Picture.{ink, pixels, packed, row_of, header_of, rows}

-- a module's pixels are a byte of the row
pub row_bytes : (ms : List ℕ) → map ink ms ≡ row_of ms
unfolding row_of pixels packed
row_bytes [] = refl
row_bytes (m ∷ ms) = ap (λ (l : List ℕ). ink m ∷ l) (row_bytes ms)

-- one byte of a row more
pub row_more : (s : List ℕ × ℕ) (l : List ℕ) (i : ℕ) → i < length l → put_all (put s (ink (get_or l i 0))) (map ink (drop (i + 1) l)) ≡ put_all s (map ink (drop i l))
row_more s l i h = each_more ink s l i h

-- one row of those that are left, and none
pub rows_more : (s : List ℕ × ℕ) (n : ℕ) (r : List ℕ) → 0 < n → put_all (put_all s r) (rows (n - 1) r) ≡ put_all s (rows n r)
unfolding rows
rows_more s zero r h = absurd (omega arith)
rows_more s (suc n) r h =
    let e : suc n - 1 ≡ n = omega arith in
    rw e (sym (put_append s r (rows n r)))

pub rows_left : (s : List ℕ × ℕ) (count i : ℕ) (r : List ℕ) → i < count → put_all (put_all s r) (rows (count - (i + 1)) r) ≡ put_all s (rows (count - i) r)
rows_left s count i r h =
    let e : count - (i + 1) ≡ count - i - 1 = omega arith in
    rw e (rows_more s (count - i) r (omega arith))

pub rows_end : (s : List ℕ × ℕ) (n : ℕ) (r : List ℕ) → n ≡ 0 → put_all s (rows n r) ≡ s
unfolding rows
rows_end s n r e = rw e (put_none s)

-- the header part by part
pub header_parts : (s : List ℕ × ℕ) (count : ℕ) → put (put_all (put (put_all (put_all s (80 ∷ 52 ∷ 10 ∷ [])) (decimal_of (count * 8))) 32) (decimal_of 80)) 10 ≡ put_all s (header_of count)
unfolding header_of
header_parts s count =
    sym (put_append s (80 ∷ 52 ∷ 10 ∷ []) (decimal_of (count * 8) ++ (32 ∷ (decimal_of 80 ++ (10 ∷ [])))) ∙ put_then _ (decimal_of (count * 8)) 32 _ ∙ put_last _ (decimal_of 80) 10)

-- a card's modules are the front of their array
pub modules_back : (l : List ℕ) → take (modules_in l).count (modules_in l).modules ≡ l
unfolding modules_in
modules_back l = rw take_padded refl

pub modules_counted : (l : List ℕ) → (modules_in l).count ≡ length l
unfolding modules_in
modules_counted l = refl
