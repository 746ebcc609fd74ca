-- Laws of pages, for the crates above: what an entry holds (`page_exact`, `page_offset`, `page_writable`), and the part and the store of a
-- page within an image (`part_inside`, `poke_inside`).
-- Assumes nothing.
use Rattle.std.specs.Prelude.{◌≡◌, refl, List, Bool, true, false, ◌&&◌, ℕ, ◌+◌, ◌%◌, ◌≤◌, ◌<◌, leb, ltb, length, take, drop, set}
use Rattle.std.proofs.Common.{mod-eq_of_lt, arith, length-set, le-leb, lt-ltb}
use Rattle.std.proofs.lemmas.Bool.{lt-leb}
use Rattle.laws.proofs.ChoiceLaws.{pick_all}
use Rattle.image_page.specs.Page.{page_of, offset_of, writable_of, part_of, poke_of, flag_of}

-- below 1,073,741,824 an entry holds the whole offset
pub page_exact : (o : ℕ) (writable : Bool) → o < 0x40000000 → page_of o writable ≡ o + flag_of writable
unfolding page_of
page_exact o writable h = rw (mod-eq_of_lt h) refl

pub page_offset : (o : ℕ) (writable : Bool) → offset_of (page_of o writable) ≡ o % 0x40000000
unfolding page_of offset_of
page_offset o true = omega arith
page_offset o false = omega arith

pub page_writable : (o : ℕ) (writable : Bool) → writable_of (page_of o writable) ≡ writable
unfolding page_of writable_of
page_writable o true = le-leb 0x80000000 (o % 0x40000000 + 0x80000000) (omega arith)
page_writable o false = lt-leb 0x80000000 (o % 0x40000000 + 0) (omega arith)

pub page_small : (o : ℕ) (writable : Bool) → page_of o writable < 0x100000000
unfolding page_of
page_small o true = omega arith
page_small o false = omega arith

pub part_inside : (image : List ℕ) (offset : ℕ) → offset + 1024 ≤ length image → part_of image offset ≡ take 1024 (drop offset image)
unfolding part_of
part_inside image offset h = rw (le-leb _ _ h) refl

pub poke_inside : (image : List ℕ) (offset at v : ℕ) → offset + 1024 ≤ length image → at < 1024 → poke_of image offset at v ≡ set image (offset + at) v
unfolding poke_of
poke_inside image offset at v h k = rw (le-leb _ _ h, lt-ltb _ _ k) refl

pub poke_length : (image : List ℕ) (offset at v : ℕ) → length (poke_of image offset at v) ≡ length image
unfolding poke_of
poke_length image offset at v = pick_all (λ (s : List ℕ). length s ≡ length image) (leb (offset + 1024) (length image) && ltb at 1024) (set image (offset + at) v) image (λ e. length-set image (offset + at) v) (λ e. refl)
