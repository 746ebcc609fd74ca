-- The steps find what Memory defines: `walked` for every page of a window whose region has a page and holds its start; `start_inside`: so
-- has every window on a region of whole pages that is not empty; `banks_shift`: the number of banks by a shift. For the crates above:
-- `window_walked`, `bank_entries`, `nametable_entries`.
-- Assumes nothing.
use Rattle.std.specs.Prelude.{◌≡◌, refl, List, Bool, true, ℕ, zero, suc, ◌+◌, ◌-◌, ◌*◌, ◌/◌, ◌%◌, ◌^◌, ◌≤◌, ◌<◌, eqb, leb, length, get_or}
use Rattle.std.proofs.Common.{sym, ap, ◌∙◌, mod-lt, mod-eq_of_lt, mul-zero, zero-mul, zero-add, add-zero, mul-le-mul, div-mul-le_self, arith, pow_pos, ne_eqb, eq-eqb, le-leb}
use Rattle.std.proofs.Math.Nat.{mod-one, mod-eq-sub-mod, mod-add-mod, zero-mod}
use Rattle.std.proofs.Math.Decide.{ℕ_discrete, dec_le}
use Rattle.std.proofs.lemmas.Bool.{lt-leb}
use Rattle.laws.specs.Choice.{pick}
use Rattle.laws.proofs.ChoiceLaws.{pick_all}
use Rattle.laws.specs.Lists.{blank}
use Rattle.laws.proofs.ListsLaws.{length_blank}
use Rattle.laws.proofs.TableLaws.{filled_in, length_filled}
use Rattle.image_layout.specs.declared.Region.{Region}
use Rattle.image_page.specs.Page.{page_of}
use Rattle.memory.specs.declared.Window.{Window}
use Rattle.memory.specs.Memory.{at_least_one, whole_banks, window_of, entry_of, nametable_bank, nametable_of}
use Rattle.memory.specs.Walked.{next_page, walked_at, page_at, walked_entry, start_entry, wrapped_bank, window_in, first_window, page_start, bank_start, bank_starts, nametable_start, nametable_starts}

-- PAGES

-- a step from a place within the region is the remainder, and stays within it
next_page_is : (len x : ℕ) → x < len → 1024 ≤ len → next_page len x ≡ (x + 1024) % len
unfolding next_page
next_page_is len x h k = go (dec_le len (x + 1024))
  where
    go : Dec (len ≤ x + 1024) → pick (leb len (x + 1024)) (x + 1024 - len) (x + 1024) ≡ (x + 1024) % len
    go (yes le) =
        let under : x + 1024 - len < len = omega arith in
        rw (le-leb len (x + 1024) le) (sym (mod-eq-sub-mod le ∙ mod-eq_of_lt under))
    go (no gt) = rw (lt-leb len (x + 1024) (omega arith)) (sym (mod-eq_of_lt (omega arith)))

-- each page lies where the remainder says
pub walked_at_lem : (w : Window) → 1024 ≤ w.len → w.base < w.len → (i : ℕ) → walked_at w i ≡ (w.base + i * 1024) % w.len
unfolding walked_at
walked_at_lem w k h zero = sym (ap (λ (x : ℕ). x % w.len) (ap (λ (x : ℕ). w.base + x) (zero-mul 1024) ∙ add-zero w.base) ∙ mod-eq_of_lt h)
walked_at_lem w k h (suc i) =
    let x = w.base + i * 1024 in
    let next : x + 1024 ≡ w.base + suc i * 1024 = omega arith in
    rw (walked_at_lem w k h i) (next_page_is w.len (x % w.len) (mod-lt x (omega arith)) k ∙ mod-add-mod x w.len 1024 ∙ ap (λ (y : ℕ). y % w.len) next)

-- THE STEPS FIND EACH ENTRY
pub walked : (w : Window) → 1024 ≤ w.len → w.base < w.len → (i : ℕ) → walked_entry w i ≡ entry_of w i
unfolding walked_entry page_at entry_of
walked w k h i = rw (walked_at_lem w k h i) refl

-- no step goes further than a page
pub walked_most : (w : Window) (i : ℕ) → walked_at w i ≤ w.base + i * 1024
unfolding walked_at next_page
walked_most w zero = omega arith
walked_most w (suc i) = pick_all (λ (x : ℕ). x ≤ w.base + suc i * 1024) (leb w.len (walked_at w i + 1024)) (walked_at w i + 1024 - w.len) (walked_at w i + 1024) (λ e. omega (arith, walked_most w i)) (λ e. omega (arith, walked_most w i))

-- before the region's end each page is 1,024 bytes on
pub walked_straight : (w : Window) (i : ℕ) → w.base + i * 1024 < w.len → walked_at w i ≡ w.base + i * 1024
unfolding walked_at next_page
walked_straight w zero h = omega arith
walked_straight w (suc i) h =
    let e : w.base + i * 1024 + 1024 ≡ w.base + suc i * 1024 = omega arith in
    rw (walked_straight w i (omega arith), lt-leb w.len (w.base + i * 1024 + 1024) (omega arith)) e

-- STARTS

-- a bank lies whole in a region that has one, else the window starts with its region
pub base_inside : (r : Region) (writable : Bool) (size bank : ℕ) → (r.len ≡ 0 → ⊥) → (window_of r writable size bank).base < r.len
unfolding window_of at_least_one
base_inside r writable size bank ne = go (ℕ_discrete size 0) (ℕ_discrete (r.len / size) 0)
  where
    go : Dec (size ≡ 0) → Dec (r.len / size ≡ 0) → bank % at_least_one (r.len / at_least_one size) * size < r.len
    go (yes e) d = rw (e, mul-zero) (omega arith)
    go (no some) (yes e) = rw (ne_eqb size 0 some, e, mod-one, zero-mul) (omega arith)
    go (no some) (no banks) =
        let q = r.len / size in
        let b : bank % q + 1 ≤ q = omega (arith, mod-lt bank {m = q} (omega arith)) in
        let most : (bank % q + 1) * size ≤ q * size = mul-le-mul b (omega arith) in
        rw (ne_eqb size 0 some, ne_eqb q 0 banks) (omega (arith, most, div-mul-le_self r.len size))

-- a window on a region of whole pages that is not empty
pub start_inside : (r : Region) → r.len % 1024 ≡ 0 → (r.len ≡ 0 → ⊥) → (writable : Bool) (size bank : ℕ) → (1024 ≤ (window_of r writable size bank).len) × ((window_of r writable size bank).base < (window_of r writable size bank).len)
unfolding window_of
start_inside r whole ne writable size bank = (omega arith, base_inside r writable size bank ne)

-- so the steps find each entry of every window on a region of whole pages
pub window_walked : (r : Region) → r.len % 1024 ≡ 0 → (writable : Bool) (size bank i : ℕ) → walked_entry (window_of r writable size bank) i ≡ entry_of (window_of r writable size bank) i
unfolding walked_entry page_at entry_of window_of
window_walked r whole writable size bank i = go (ℕ_discrete r.len 0)
  where
    w : Window
    w = window_of r writable size bank

    go : Dec (r.len ≡ 0) → walked_entry w i ≡ entry_of w i
    go (yes e) = rw (eq-eqb r.len 0 e) refl
    go (no ne) = let s = start_inside r whole ne writable size bank in walked w s.0 s.1 i

-- the first entry of a window is the page at its start, in every region
pub start_page : (r : Region) (writable : Bool) (size bank : ℕ) → page_at (first_window r writable) (window_of r writable size bank).base ≡ entry_of (window_of r writable size bank) 0
unfolding page_at entry_of window_of first_window
start_page r writable size bank = go (ℕ_discrete r.len 0)
  where
    base : ℕ
    base = (window_of r writable size bank).base

    go : Dec (r.len ≡ 0) → pick (eqb r.len 0) 0 (page_of (r.start + base) writable) ≡ pick (eqb r.len 0) 0 (page_of (r.start + (base + 0 * 1024) % r.len) writable)
    go (yes e) = rw (eq-eqb r.len 0 e) refl
    go (no ne) = rw (zero-mul, add-zero, mod-eq_of_lt (base_inside r writable size bank ne)) refl

pub entry_at_start : (r : Region) (writable : Bool) (size bank : ℕ) → walked_entry (window_of r writable size bank) 0 ≡ entry_of (window_of r writable size bank) 0
unfolding walked_entry walked_at page_at window_of first_window
entry_at_start r writable size bank = start_page r writable size bank

-- the number of banks, counted by a shift and given
pub banks_shift : (r : Region) (k : ℕ) → r.len / 2 ^ k ≡ whole_banks r (2 ^ k)
unfolding at_least_one
banks_shift r k = rw (ne_eqb (2 ^ k) 0 (λ e. omega (arith, pow_pos k))) refl

pub banks_given : (r : Region) (writable : Bool) (size bank : ℕ) → window_in r writable size (whole_banks r size) bank ≡ window_of r writable size bank
unfolding window_in window_of wrapped_bank
banks_given r writable size bank = refl

-- bank 0 starts with its region
pub first_window_lem : (r : Region) (writable : Bool) (size : ℕ) → window_of r writable size 0 ≡ first_window r writable
unfolding window_of first_window
first_window_lem r writable size = rw (zero-mod, zero-mul) refl

-- EACH PAGE BY ITS OWN START

start_entry_lem : (r : Region) (writable : Bool) (starts : List ℕ) (bank i : ℕ) → get_or starts i 0 ≡ page_start r bank → start_entry (first_window r writable) starts i ≡ entry_of (window_of r writable 1024 bank) 0
unfolding start_entry page_start window_of
start_entry_lem r writable starts bank i e = rw e (start_page r writable 1024 bank)

pub bank_entries : (r : Region) (writable : Bool) (banks : List ℕ) (i : ℕ) → i < 8 → start_entry (first_window r writable) (bank_starts r banks) i ≡ entry_of (window_of r writable 1024 (get_or banks i 0)) 0
unfolding bank_starts
bank_entries r writable banks i h =
    start_entry_lem r writable (bank_starts r banks) (get_or banks i 0) i (rw zero-add at (filled_in (blank 8) 0 (bank_start r banks) 8 i (rw length_blank (omega arith)) h))

pub nametable_entries : (r : Region) (m i : ℕ) → i < 4 → start_entry (first_window r true) (nametable_starts r m) i ≡ nametable_of r m i
unfolding nametable_starts nametable_of
nametable_entries r m i h =
    start_entry_lem r true (nametable_starts r m) (nametable_bank m i) i (rw zero-add at (filled_in (blank 4) 0 (nametable_start r m) 4 i (rw length_blank (omega arith)) h))

-- so many starts
pub bank_starts_length : (r : Region) (banks : List ℕ) → length (bank_starts r banks) ≡ 8
unfolding bank_starts
bank_starts_length r banks = length_filled (blank 8) 0 (bank_start r banks) 8 ∙ length_blank 8

pub nametable_starts_length : (r : Region) (m : ℕ) → length (nametable_starts r m) ≡ 4
unfolding nametable_starts
nametable_starts_length r m = length_filled (blank 4) 0 (nametable_start r m) 4 ∙ length_blank 4
