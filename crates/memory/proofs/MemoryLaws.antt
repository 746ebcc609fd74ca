-- Laws of page entries, for the crates above: what every entry of a window or a nametable shows (`window_shows`, `nametable_shows`): a page
-- wholly within the image, writable exactly if it lies at or past `ram_start`.
-- Assumes nothing.
use Rattle.std.specs.Prelude.{◌≡◌, refl, Bool, true, false, ℕ, ◌+◌, ◌*◌, ◌/◌, ◌%◌, ◌≤◌, ◌<◌, eqb, leb}
use Rattle.std.proofs.Common.{sym, ap, ◌∙◌, mod-lt, mod-eq_of_lt, mul_assoc, add-zero, arith, ne_eqb}
use Rattle.std.proofs.Math.Nat.{add-mod_right}
use Rattle.std.proofs.Math.Arith.{mod-mul}
use Rattle.std.proofs.lemmas.Bool.{eqb-false}
use Rattle.laws.specs.Choice.{pick}
use Rattle.laws.proofs.ChoiceLaws.{pick_all, never_both}
use Rattle.image_layout.specs.declared.Region.{Region}
use Rattle.image_layout.specs.declared.MemoryLayout.{MemoryLayout}
use Rattle.image_layout.specs.LayoutLaws.{Placed, Laid}
use Rattle.image_page.specs.Page.{page_of, offset_of, writable_of}
use Rattle.image_page.specs.PageLaws.{page_offset, page_writable, page_small}
use Rattle.memory.specs.Memory.{at_least_one, banks_of, window_of, entry_of, nametable_bank, nametable_of}

-- the page that an entry shows lies within the image; it may be written only from `ram_start` on, and is read-only before; page 0 is that of
-- the entry 0 alone
pub record Shows (l : MemoryLayout) (e : ℕ) : Type 0 where
  pub small : e < 0x100000000
  pub whole : offset_of e % 1024 ≡ 0
  pub inside : offset_of e + 1024 ≤ l.len
  pub in_ram : writable_of e ≡ true → l.ram_start ≤ offset_of e
  pub in_rom : writable_of e ≡ false → offset_of e + 1024 ≤ l.ram_start
  pub mapped : (e ≡ 0 → ⊥) → 1024 ≤ offset_of e

-- a page that lies where a region may lie is shown
page_shows : (l : MemoryLayout) → Laid l → (writable : Bool) (o : ℕ) → o % 1024 ≡ 0 → pick writable l.ram_start 1024 ≤ o → o + 1024 ≤ pick writable l.len l.ram_start → Shows l (page_of o writable)
page_shows l k writable o h f u =
    record {
      small = page_small o writable;
      whole = rw at_o h;
      inside = rw at_o (past writable f u).0;
      in_ram = λ t. rw at_o ((past writable f u).1.0 (sym (page_writable o writable) ∙ t));
      in_rom = λ t. rw at_o ((past writable f u).1.1 (sym (page_writable o writable) ∙ t));
      mapped = λ ne. rw at_o (low writable f);
    }
  where
    past : (w : Bool) → pick w l.ram_start 1024 ≤ o → o + 1024 ≤ pick w l.len l.ram_start → (o + 1024 ≤ l.len) × ((w ≡ true → l.ram_start ≤ o) × (w ≡ false → o + 1024 ≤ l.ram_start))
    past true f u = (u, (λ t. f, λ t. absurd (never_both true refl t)))
    past false f u = (omega (arith, k.ram_upto), (λ t. absurd (never_both false t refl), λ t. u))

    low : (w : Bool) → pick w l.ram_start 1024 ≤ o → 1024 ≤ o
    low true f = omega (arith, k.ram_from)
    low false f = f

    at_o : offset_of (page_of o writable) ≡ o
    at_o = page_offset o writable ∙ mod-eq_of_lt (omega (arith, (past writable f u).0, k.len_small))

pub unmapped_shows : (l : MemoryLayout) → Laid l → Shows l 0
unfolding offset_of writable_of
unmapped_shows l k =
    record { small = omega arith; whole = refl; inside = omega arith; in_ram = λ t. absurd (never_both (leb 0x80000000 0) t refl); in_rom = λ t. k.ram_from; mapped = λ ne. absurd (ne refl) }

-- a whole number of pages, counted around whole pages, leaves a page
around_page : (x len : ℕ) → x % 1024 ≡ 0 → len % 1024 ≡ 0 → (len ≡ 0 → ⊥) → (x % len % 1024 ≡ 0) × (x % len + 1024 ≤ len)
around_page x len hx hl ne =
    let a : x ≡ x / 1024 * 1024 = omega arith in
    let b : len ≡ len / 1024 * 1024 = omega arith in
    let m : 0 < len / 1024 = omega arith in
    let e : x % len ≡ x / 1024 % (len / 1024) * 1024 + x % 1024 = ap (λ (y : ℕ). x % y) b ∙ mod-mul x {m = len / 1024} {c = 1024} m (omega arith) in
    (omega arith, omega (arith, mod-lt (x / 1024) m))

-- a bank of whole pages and some pages are whole pages
bank_whole : (b size i : ℕ) → size % 1024 ≡ 0 → (b * size + i * 1024) % 1024 ≡ 0
bank_whole b size i h =
    let e : size ≡ size / 1024 * 1024 = omega arith in
    let f : b * size ≡ b * (size / 1024) * 1024 = ap (λ (y : ℕ). b * y) e ∙ sym (mul_assoc b (size / 1024) 1024) in
    omega arith

-- each entry of a window, whatever its bank, shows a page of its region; or page 0 where that is empty
pub window_shows : (l : MemoryLayout) → Laid l → (writable : Bool) (r : Region) → Placed l writable r → (size : ℕ) → size % 1024 ≡ 0 → (bank i : ℕ) → Shows l (entry_of (window_of r writable size bank) i)
unfolding window_of entry_of
window_shows l k writable r p size h bank i =
    let x = bank % banks_of r size * size + i * 1024 in
    pick_all (Shows l) (eqb r.len 0) 0 _ (λ e. unmapped_shows l k)
    (λ e.
    let a = around_page x r.len (bank_whole (bank % banks_of r size) size i h) p.len_whole (eqb-false r.len 0 e) in
    page_shows l k writable (r.start + x % r.len) (omega (arith, p.start_whole, a.0)) (omega (arith, p.from)) (omega (arith, p.upto, a.1)))

pub nametable_shows : (l : MemoryLayout) → Laid l → (m i : ℕ) → Shows l (nametable_of l.ciram m i)
unfolding nametable_of
nametable_shows l k m i = window_shows l k true l.ciram k.ciram 1024 refl (nametable_bank m i) 0

-- a nametable is the CIRAM page of its row by the remainder of their number, writable
pub nametable_page : (r : Region) (m i : ℕ) → r.len % 1024 ≡ 0 → 1024 ≤ r.len → nametable_of r m i ≡ page_of (r.start + nametable_bank m i % (r.len / 1024) * 1024) true
unfolding nametable_of window_of entry_of at_least_one
nametable_page r m i h some =
    let b = nametable_bank m i in
    let p : 0 < r.len / 1024 = omega arith in
    let z : b % (r.len / 1024) * 1024 + 0 < r.len = omega (arith, mod-lt b p) in
    rw (ne_eqb r.len 0 (λ e. omega arith), ne_eqb (r.len / 1024) 0 (λ e. omega arith), mod-eq_of_lt z, add-zero) refl

-- the four nametables twice over
pub nametable_again : (r : Region) (m i : ℕ) → nametable_of r m (i + 4) ≡ nametable_of r m i
unfolding nametable_of nametable_bank
nametable_again r m i = rw (add-mod_right i 4) refl
