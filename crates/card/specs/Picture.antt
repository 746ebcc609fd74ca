-- The picture of a card in the binary PBM format (P4): a header, and rows of pixels, eight to a byte, the leftmost in the highest bit;
-- 1 is black. Characters are their codes in ASCII. Read downwards; picture_of is the answer. Assumes nothing.
use Rattle.std.specs.Prelude.{List, [], ◌∷◌, ◌++◌, ℕ, zero, suc, ◌+◌, ◌*◌, eqb, length, take, drop, replicate}
use Rattle.laws.specs.Choice.{pick}
use Rattle.digits.specs.Digits.{digits_of}
use Rattle.barcode.specs.Barcode.{modules_of}
use Rattle.output.specs.Put.{decimal_of}

-- the picture's height in pixels, and a module's width
abbrev pub height : ℕ
height = 80

abbrev pub module_width : ℕ
module_width = 8

-- a pixel of a module: black where it is dark, 0, and white where it is light, 8
abbrev pub pixel : ℕ → ℕ
pixel m = pick (eqb m 0) 1 0

-- the pixels of a row, each module as wide as every other
unfoldable pub pixels : List ℕ → List ℕ
pixels [] = []
pixels (m ∷ ms) = replicate module_width (pixel m) ++ pixels ms

-- pixels as one number, the leftmost in the highest bit
unfoldable pub bits : ℕ → List ℕ → ℕ
bits n [] = n
bits n (p ∷ ps) = bits (2 * n + p) ps

-- the byte that a module's pixels are
abbrev pub ink : ℕ → ℕ
ink m = bits 0 (replicate module_width (pixel m))

-- pixels in n bytes
unfoldable pub packed : ℕ → List ℕ → List ℕ
packed zero ps = []
packed (suc n) ps = bits 0 (take 8 ps) ∷ packed n (drop 8 ps)

-- a row of the picture of these modules: a module's eight pixels are a byte
unfoldable pub row_of : List ℕ → List ℕ
row_of ms = packed (length ms) (pixels ms)

-- P4, the width and the height in pixels; the picture is so many modules wide
unfoldable pub header_of : ℕ → List ℕ
header_of count = 80 ∷ 52 ∷ 10 ∷ (decimal_of (count * module_width) ++ (32 ∷ (decimal_of height ++ (10 ∷ []))))

-- a row so many times
unfoldable pub rows : ℕ → List ℕ → List ℕ
rows zero r = []
rows (suc n) r = r ++ rows n r

-- the picture of a card
unfoldable pub picture_of : ℕ → ℕ → List ℕ
picture_of number count =
    let ms = modules_of (digits_of number count) in
    header_of (length ms) ++ rows height (row_of ms)
