-- GS1's EAN-13 and EAN-8 symbols and check digit in GS1's own terms. A symbol is a list of modules, 0 a space and 1 a bar.
-- Nothing here goes by the list of patterns in the code. Assumes nothing.
use Rattle.std.specs.Prelude.{List, [], ◌∷◌, ◌++◌, reverse, ℕ, ◌+◌, ◌*◌, ◌%◌, ◌-◌, get_or, take, drop, replicate}

pub data NumberSet : Type 0 where
  A : NumberSet
  B : NumberSet
  C : NumberSet

-- the widths of a digit's four elements in number set A
unfoldable pub widths : ℕ → List ℕ
widths d =
    get_or
    ((3 ∷ 2 ∷ 1 ∷ 1 ∷ []) ∷
    (2 ∷ 2 ∷ 2 ∷ 1 ∷ []) ∷
    (2 ∷ 1 ∷ 2 ∷ 2 ∷ []) ∷
    (1 ∷ 4 ∷ 1 ∷ 1 ∷ []) ∷
    (1 ∷ 1 ∷ 3 ∷ 2 ∷ []) ∷
    (1 ∷ 2 ∷ 3 ∷ 1 ∷ []) ∷
    (1 ∷ 1 ∷ 1 ∷ 4 ∷ []) ∷
    (1 ∷ 3 ∷ 1 ∷ 2 ∷ []) ∷
    (1 ∷ 2 ∷ 1 ∷ 3 ∷ []) ∷
    (3 ∷ 1 ∷ 1 ∷ 2 ∷ []) ∷
    []) d []

-- elements of these widths, spaces and bars by turns, the first of the given kind
unfoldable pub elements : ℕ → List ℕ → List ℕ
elements first [] = []
elements first (w ∷ ws) = replicate w first ++ elements (1 - first) ws

-- a digit's symbol character: in A it starts with a space, in C it has A's widths and starts with a bar, in B it is C's mirror image
unfoldable pub character : NumberSet → ℕ → List ℕ
character A d = elements 0 (widths d)
character C d = elements 1 (widths d)
character B d = reverse (elements 1 (widths d))

-- digits as symbol characters, each in its set
unfoldable pub characters : List NumberSet → List ℕ → List ℕ
characters [] ds = []
characters (s ∷ ss) [] = []
characters (s ∷ ss) (d ∷ ds) = character s d ++ characters ss ds

-- the number sets of the left half of an EAN-13 symbol, by the leading digit
unfoldable pub left_sets : ℕ → List NumberSet
left_sets d =
    get_or
    ((A ∷ A ∷ A ∷ A ∷ A ∷ A ∷ []) ∷
    (A ∷ A ∷ B ∷ A ∷ B ∷ B ∷ []) ∷
    (A ∷ A ∷ B ∷ B ∷ A ∷ B ∷ []) ∷
    (A ∷ A ∷ B ∷ B ∷ B ∷ A ∷ []) ∷
    (A ∷ B ∷ A ∷ A ∷ B ∷ B ∷ []) ∷
    (A ∷ B ∷ B ∷ A ∷ A ∷ B ∷ []) ∷
    (A ∷ B ∷ B ∷ B ∷ A ∷ A ∷ []) ∷
    (A ∷ B ∷ A ∷ B ∷ A ∷ B ∷ []) ∷
    (A ∷ B ∷ A ∷ B ∷ B ∷ A ∷ []) ∷
    (A ∷ B ∷ B ∷ A ∷ B ∷ A ∷ []) ∷
    []) d []

unfoldable pub normal_guard : List ℕ
normal_guard = 1 ∷ 0 ∷ 1 ∷ []

unfoldable pub centre_guard : List ℕ
centre_guard = 0 ∷ 1 ∷ 0 ∷ 1 ∷ 0 ∷ []

-- the symbol of 13 digits: the first shows in the sets of the next six, the last six are in C
unfoldable pub ean13 : List ℕ → List ℕ
ean13 [] = []
ean13 (d ∷ ds) = normal_guard ++ (characters (left_sets d) ds ++ (centre_guard ++ (characters (replicate 6 C) (drop 6 ds) ++ normal_guard)))

-- the symbol of 8 digits: four in A, four in C
unfoldable pub ean8 : List ℕ → List ℕ
ean8 ds = normal_guard ++ (characters (replicate 4 A) ds ++ (centre_guard ++ (characters (replicate 4 C) (drop 4 ds) ++ normal_guard)))

-- the sum of digits given from the right, with the weights w, 4 - w, w, ..
unfoldable pub from_right : ℕ → List ℕ → ℕ
from_right w [] = 0
from_right w (d ∷ ds) = w * d + from_right (4 - w) ds

-- the check digit of the digits before it: weights 3 and 1 by turns from the right, and what the sum lacks to a multiple of ten
unfoldable pub check_digit : List ℕ → ℕ
check_digit ds = (10 - from_right 3 (reverse ds) % 10) % 10

-- the first n digits with GS1's check digit after them
unfoldable pub checked : ℕ → List ℕ → List ℕ
checked n ds = take n ds ++ (check_digit (take n ds) ∷ [])

-- a module as the reader shows it: a space is light, 8, and a bar dark, 0
unfoldable pub shade : ℕ → ℕ
shade m = 8 * (1 - m)
