-- Laws of tables: the length, an entry inside the window and one outside it, what holds of each entry, a list read back.
-- Assumes nothing.
use Rattle.std.specs.Prelude.{◌≡◌, refl, List, ◌++◌, ℕ, zero, suc, ◌+◌, ◌≤◌, ◌<◌, length, get_or, set}
use Rattle.std.proofs.Common.{sym, ◌∙◌, add-zero, add-suc, zero-add, add-one, arith, length-set, get_or-set_same, get_or-set_other, ext_get_or, get_or-append-add}
use Rattle.std.proofs.Math.Decide.{ℕ_discrete, dec_lt}
use Rattle.std.proofs.Math.ListN.{get_or-append, get_or-eq_default}
use Rattle.std.proofs.lemmas.List.{set-get_or}
use Rattle.laws.specs.Lists.{blank}
use Rattle.laws.proofs.ListsLaws.{length_blank, get_d_blank}
use Rattle.laws.specs.Table.{filled, bytes_at}

-- a loop's first and next turn
pub filled_none : (l : List ℕ) (at : ℕ) (f : ℕ → ℕ) → l ≡ filled l at f 0
unfolding filled
filled_none l at f = refl

pub filled_more : (l : List ℕ) (at : ℕ) (f : ℕ → ℕ) (n : ℕ) → set (filled l at f n) (at + n) (f n) ≡ filled l at f (n + 1)
unfolding filled
filled_more l at f n = rw add-one

pub length_filled : (l : List ℕ) (at : ℕ) (f : ℕ → ℕ) (n : ℕ) → length (filled l at f n) ≡ length l
unfolding filled
length_filled l at f zero = refl
length_filled l at f (suc n) = length-set (filled l at f n) (at + n) (f n) ∙ length_filled l at f n

-- what holds of each entry of a list and of the value that is stored holds of each entry after the store
pub set_all : (P : ℕ → Type 0) (l : List ℕ) (i v : ℕ) → i < length l → ((k : ℕ) → P (get_or l k 0)) → P v → (k : ℕ) → P (get_or (set l i v) k 0)
set_all P l i v h p q k = go (ℕ_discrete k i)
  where
    go : Dec (k ≡ i) → P (get_or (set l i v) k 0)
    go (yes e) = rw (e, get_or-set_same l i v 0 h) q
    go (no ne) = rw (get_or-set_other l i k v 0 ne) (p k)

pub filled_all : (P : ℕ → Type 0) (l : List ℕ) (at : ℕ) (f : ℕ → ℕ) (n : ℕ) → at + n ≤ length l → ((k : ℕ) → P (get_or l k 0)) → ((i : ℕ) → i < n → P (f i)) → (k : ℕ) → P (get_or (filled l at f n) k 0)
unfolding filled
filled_all P l at f zero h p q k = p k
filled_all P l at f (suc n) h p q k =
    set_all P (filled l at f n) (at + n) (f n) (rw length_filled (omega arith)) (filled_all P l at f n (omega arith) p (λ i hi. q i (omega arith))) (q n (omega arith)) k

-- an entry outside the window is as it was
pub filled_out : (l : List ℕ) (at : ℕ) (f : ℕ → ℕ) (n k : ℕ) → ((i : ℕ) → i < n → k ≡ at + i → ⊥) → get_or (filled l at f n) k 0 ≡ get_or l k 0
unfolding filled
filled_out l at f zero k h = refl
filled_out l at f (suc n) k h =
    get_or-set_other (filled l at f n) (at + n) k (f n) 0 (h n (omega arith)) ∙ filled_out l at f n k (λ i hi. h i (omega arith))

-- an entry inside the window is the function's
pub filled_in : (l : List ℕ) (at : ℕ) (f : ℕ → ℕ) (n i : ℕ) → at + n ≤ length l → i < n → get_or (filled l at f n) (at + i) 0 ≡ f i
unfolding filled
filled_in l at f zero i h hi = absurd (omega arith)
filled_in l at f (suc n) i h hi = go (ℕ_discrete i n) (λ (e : i < n). filled_in l at f n i (omega arith) e)
  where
    go : Dec (i ≡ n) → (i < n → get_or (filled l at f n) (at + i) 0 ≡ f i) → get_or (set (filled l at f n) (at + n) (f n)) (at + i) 0 ≡ f i
    go (yes e) ih = rw (e, get_or-set_same (filled l at f n) (at + n) (f n) 0 (rw length_filled (omega arith)))
    go (no ne) ih = get_or-set_other (filled l at f n) (at + n) (at + i) (f n) 0 (λ e. ne (omega arith)) ∙ ih (omega arith)

-- a list that is zero from n on is its first n entries, written into an empty table
pub filled_is : (l : List ℕ) (f : ℕ → ℕ) (n : ℕ) → n ≤ length l → ((i : ℕ) → i < n → f i ≡ get_or l i 0) → ((k : ℕ) → n ≤ k → get_or l k 0 ≡ 0) → filled (blank (length l)) 0 f n ≡ l
filled_is l f n h same past =
    ext_get_or 0 (filled (blank (length l)) 0 f n) l (length_filled (blank (length l)) 0 f n ∙ length_blank (length l)) (λ k hk. go k (dec_lt k n))
  where
    go : (k : ℕ) → Dec (k < n) → get_or (filled (blank (length l)) 0 f n) k 0 ≡ get_or l k 0
    go k (yes lt) =
        let e : get_or (filled (blank (length l)) 0 f n) (0 + k) 0 ≡ f k = filled_in (blank (length l)) 0 f n k (rw length_blank (omega arith)) lt in
        (rw zero-add at e) ∙ same k lt
    go k (no ge) = filled_out (blank (length l)) 0 f n k (λ i hi e. ge (omega arith)) ∙ get_d_blank (length l) k ∙ sym (past k (omega arith))

-- a run of bytes that stands within a list is read whole
pub get_d_within : (p l q : List ℕ) (i : ℕ) → i < length l → get_or (p ++ (l ++ q)) (length p + i) 0 ≡ get_or l i 0
get_d_within p l q i h = get_or-append-add p (l ++ q) i 0 ∙ get_or-append l q 0 i h

-- bytes that stand within a list
pub bytes_at_within : (p l q : List ℕ) (at n : ℕ) → length p ≡ at → length l ≡ n → bytes_at (p ++ (l ++ q)) at n ≡ l
unfolding bytes_at
bytes_at_within p l q at n ep en =
    rw (← ep, ← en)
    (filled_is l (λ i. get_or (p ++ (l ++ q)) (length p + i) 0) (length l) (omega arith) (λ i h. get_d_within p l q i h) (λ k h. get_or-eq_default l 0 h))

-- entries written right after others are one run of entries
pub filled_join : (l : List ℕ) (at : ℕ) (f : ℕ → ℕ) (n start : ℕ) (g : ℕ → ℕ) (m : ℕ) → start ≡ at + n → ((i : ℕ) → i < m → g i ≡ f (n + i)) → filled (filled l at f n) start g m ≡ filled l at f (n + m)
unfolding filled
filled_join l at f n start g zero e same = rw add-zero refl
filled_join l at f n start g (suc m) e same =
    let ih = filled_join l at f n start g m e (λ i h. same i (omega arith)) in
    let p : start + m ≡ at + (n + m) = omega arith in
    rw (add-suc n m, ih, p, same m (omega arith)) refl

-- entries of two functions that are equal there
pub filled_same : (l : List ℕ) (at : ℕ) (f g : ℕ → ℕ) (n : ℕ) → ((i : ℕ) → i < n → f i ≡ g i) → filled l at f n ≡ filled l at g n
unfolding filled
filled_same l at f g zero same = refl
filled_same l at f g (suc n) same = rw (filled_same l at f g n (λ i h. same i (omega arith)), same n (omega arith)) refl

-- entries that stand there already
pub filled_kept : (l : List ℕ) (at : ℕ) (f : ℕ → ℕ) (n : ℕ) → ((i : ℕ) → i < n → f i ≡ get_or l (at + i) 0) → filled l at f n ≡ l
unfolding filled
filled_kept l at f zero same = refl
filled_kept l at f (suc n) same =
    rw (filled_kept l at f n (λ i h. same i (omega arith)), same n (omega arith)) (set-get_or l (at + n) 0)
