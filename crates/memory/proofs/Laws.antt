-- What the proofs of the functions need: a window's base fits its field, the table of nametables is that of the definition, masks are
-- remainders, how far the steps go, a table that ends before its last page.
-- Assumes nothing.
use mathlib.Core.Path.{◌≡◌, refl, sym, ap, ◌∙◌}
use mathlib.Core.List.{List, [], ◌∷◌, ◌++◌}
use mathlib.Core.Bool.{Bool}
use Prim.Native.Nat.{ℕ, zero, suc, ◌+◌, ◌-◌, ◌*◌, ◌%◌, ◌≤◌, ◌<◌, min}
use native.Mathlib.Nat.{mod-le, mul-le-mul, mod-add-mod}
use native.Mathlib.Decide.{ℕ_discrete, dec_le}
use native.Mathlib.Numerals.{add-one}
use native.Mathlib.Omega.{arith}
use lib.Bits.{bit_and, and_mask, mask_lt}
use lib.ListN.{length, get_or, take, drop, set, get_or-eq_default, length-take, length-drop, take-append-drop}
use borrow.Rule.Slice.PartMut.{put_mid}
use Rattle.std.proofs.lemmas.List.{set-append_left, set-append_right}
use lib.Seq.{set_out}
use Rattle.laws.specs.Table.{filled}
use Rattle.laws.specs.Lists.{blank}
use Rattle.laws.proofs.TableLaws.{filled_none, length_filled, filled_is}
use Rattle.image_page.specs.Page.{page_of}
use Rattle.memory.specs.declared.Window.{Window}
use Rattle.memory.specs.Memory.{at_least_one, row_of}
use Rattle.memory.specs.Walked.{next_page, walked_at, wrapped_bank}
use Rattle.memory.proofs.WalkedLaws.{walked_most}

-- a bank's number is a byte, and a window's size two
pub base_fits : (r bank banks size : ℕ) → r ≡ wrapped_bank bank banks → bank < 256 → size < 65536 → r * size ≤ 255 * 65535
unfolding wrapped_bank
base_fits r bank banks size e hb hs =
    let b : r ≤ 255 = omega (arith, mod-le bank (at_least_one banks)) in
    let s : size ≤ 65535 = omega arith in
    mul-le-mul b s

-- the table of the code: a row for each mirroring, the last one for every code above 3
abbrev table : List (List ℕ)
table = (0 ∷ 1 ∷ 0 ∷ 1 ∷ []) ∷ (0 ∷ 0 ∷ 1 ∷ 1 ∷ []) ∷ (0 ∷ 0 ∷ 0 ∷ 0 ∷ []) ∷ (1 ∷ 1 ∷ 1 ∷ 1 ∷ []) ∷ (0 ∷ 1 ∷ 2 ∷ 3 ∷ []) ∷ []

pub row_in : (m k : ℕ) → k ≡ min m 4 → get_or table k [] ≡ row_of m
row_in zero k e = let z : k ≡ 0 = omega arith in rw z refl
row_in (suc zero) k e = let z : k ≡ 1 = omega arith in rw z refl
row_in (suc (suc zero)) k e = let z : k ≡ 2 = omega arith in rw z refl
row_in (suc (suc (suc zero))) k e = let z : k ≡ 3 = omega arith in rw z refl
row_in (suc (suc (suc (suc m)))) k e = let z : k ≡ 4 = omega arith in rw z refl

-- the column of a nametable, and the thirty bits of an offset
pub column_is : (i : ℕ) → bit_and i 3 ≡ i % 4
column_is i = and_mask i 2

pub offset_is : (n : ℕ) → bit_and n 0x3fffffff ≡ n % 0x40000000
offset_is n = and_mask n 30

pub offset_small : (n : ℕ) → bit_and n 0x3fffffff < 0x40000000
offset_small n = mask_lt n 30

-- an entry holds the offset by its remainder, so the first part of a sum may go by its own
pub page_sum : (a b : ℕ) (writable : Bool) → page_of (bit_and a 0x3fffffff + b) writable ≡ page_of (a + b) writable
unfolding page_of
page_sum a b writable = rw (offset_is a, mod-add-mod a 0x40000000 b) refl

-- the next step
pub walked_next : (w : Window) (i : ℕ) → next_page w.len (walked_at w i) ≡ walked_at w (i + 1)
unfolding walked_at
walked_next w i = rw (add-one i) refl

-- a walk of less than 2^32 steps stays below 2^43
pub reach : (w : Window) (at i : ℕ) → at ≡ walked_at w i → w.base < 0x100000000 → i < 0x100000000 → at ≤ 0x80000000000
reach w at i e hb hi = omega (arith, walked_most w i)

-- entries past the end of a table are not written
pub filled_past : (l : List ℕ) (at : ℕ) (f : ℕ → ℕ) (n m : ℕ) → n ≤ m → length l ≤ at + n → filled l at f n ≡ filled l at f m
unfolding filled
filled_past l at f n zero h k =
    let e : n ≡ 0 = omega arith in
    rw e refl
filled_past l at f n (suc m) h k = go (ℕ_discrete n (suc m)) (λ (le : n ≤ m). filled_past l at f n m le k)
  where
    go : Dec (n ≡ suc m) → (n ≤ m → filled l at f n ≡ filled l at f m) → filled l at f n ≡ set (filled l at f m) (at + m) (f m)
    go (yes e) ih = rw e refl
    go (no ne) ih = ih (omega arith) ∙ sym (set_out (filled l at f m) (at + m) (f m) (rw length_filled (omega arith)))

-- a part of a list that is filled is the list filled there
filled_part : (s : List ℕ) (a k : ℕ) (f : ℕ → ℕ) (n : ℕ) → a + k ≤ length s → n ≤ k → take a s ++ (filled (take k (drop a s)) 0 f n ++ drop k (drop a s)) ≡ filled s a f n
unfolding filled
filled_part s a k f zero h le = ap (λ (l : List ℕ). take a s ++ l) (take-append-drop k (drop a s)) ∙ take-append-drop a s
filled_part s a k f (suc n) h le =
    let m = filled (take k (drop a s)) 0 f n in
    let long : length m ≡ k = length_filled (take k (drop a s)) 0 f n ∙ rw (length-take, length-drop) (omega arith) in
    let front : length (take a s) ≡ a = rw length-take (omega arith) in
    let z : 0 + n ≡ n = omega arith in
    let e : a + n - a ≡ n = omega arith in
    let behind : set (take a s ++ (m ++ drop k (drop a s))) (a + n) (f n) ≡ take a s ++ set (m ++ drop k (drop a s)) n (f n) = rw e at (set-append_right (take a s) (m ++ drop k (drop a s)) a (a + n) (f n) front (omega arith)) in
    let within : set (m ++ drop k (drop a s)) n (f n) ≡ set m n (f n) ++ drop k (drop a s) = set-append_left m (drop k (drop a s)) n (f n) (omega (arith, long)) in
    rw (z, ← filled_part s a k f n h (omega arith)) (sym (behind ∙ ap (λ (l : List ℕ). take a s ++ l) within))

-- the slots from `slot` on, n of them or as many as there are
pub filled_slots : (s : List ℕ) (slot n a e : ℕ) (f : ℕ → ℕ) (p : List ℕ) → a ≡ min slot (length s) → e ≡ min (slot + n) (length s) → p ≡ filled (take (e - a) (drop a s)) 0 f (length (take (e - a) (drop a s))) → put_mid a (e - a) s p ≡ filled s slot f n
filled_slots s slot n a e f p ha he hp =
    let long : length (take (e - a) (drop a s)) ≡ e - a = rw (length-take, length-drop) (omega arith) in
    rw (hp, long) (filled_part s a (e - a) f (e - a) (omega arith) (omega arith)) ∙ go (dec_le slot (length s)) (dec_le (slot + n) (length s))
  where
    go : Dec (slot ≤ length s) → Dec (slot + n ≤ length s) → filled s a f (e - a) ≡ filled s slot f n
    go (yes h) (yes k) =
        let x : a ≡ slot = omega arith in
        let y : e - a ≡ n = omega arith in
        rw (y, x) refl
    go (yes h) (no k) =
        let x : a ≡ slot = omega arith in
        rw x (filled_past s slot f (e - slot) n (omega arith) (omega arith))
    go (no h) k =
        let y : e - a ≡ 0 = omega arith in
        rw y (sym (filled_none s a f) ∙ filled_none s slot f ∙ filled_past s slot f 0 n (omega arith) (omega arith))

-- a list of n entries of a function
pub made : (n : ℕ) (l : List ℕ) (f : ℕ → ℕ) → length l ≡ n → ((i : ℕ) → i < n → get_or l i 0 ≡ f i) → l ≡ filled (blank n) 0 f n
made n l f e same =
    let h : filled (blank (length l)) 0 f n ≡ l = filled_is l f n (omega (arith, e)) (λ i h. sym (same i h)) (λ k h. get_or-eq_default l 0 (omega (arith, e, h))) in
    sym (rw e at h)
