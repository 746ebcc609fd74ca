-- Pages of a memory image: their entries in page tables, the part that is a page and the store into it. THE DEFINITIONS TO READ, in this
-- order: `page_of`, `offset_of` and `writable_of`, `part_of` and `poke_of`. The laws are in PageLaws.
-- Assumes nothing.
use Rattle.std.specs.Prelude.{List, [], Option, Some, None, Bool, true, false, ◌&&◌, ℕ, ◌+◌, ◌%◌, leb, ltb, length, take, drop, set}
use Rattle.laws.specs.Choice.{pick}

-- what an entry adds to the offset of a page that may be written
abbrev pub flag_of : Bool → ℕ
flag_of true = 0x80000000
flag_of false = 0

-- the entry of the page at an offset; an entry holds thirty bits of the offset, which is all of it in an image of the sizes allowed
unfoldable pub page_of : ℕ → Bool → ℕ
page_of offset writable = offset % 0x40000000 + flag_of writable

-- an entry's offset, and whether its page may be written
unfoldable pub offset_of : ℕ → ℕ
offset_of e = e % 0x40000000

unfoldable pub writable_of : ℕ → Bool
writable_of e = leb 0x80000000 e

-- where the page at an offset of `len` bytes ends, if it lies within them
abbrev pub page_end : ℕ → ℕ → Option ℕ
page_end len offset = pick (leb (offset + 1024) len) (Some (offset + 1024)) None

-- the page at an offset of an image; the empty part where it does not lie within the image
unfoldable pub part_of : List ℕ → ℕ → List ℕ
part_of image offset = pick (leb (offset + 1024) (length image)) (take 1024 (drop offset image)) []

-- the image with byte `at` of that page stored; as it is where there is no such byte
unfoldable pub poke_of : List ℕ → ℕ → ℕ → ℕ → List ℕ
poke_of image offset at v = pick (leb (offset + 1024) (length image) && ltb at 1024) (set image (offset + at) v) image
