-- Laws of zeros, padded lists, and tests of lists.
-- Assumes nothing.
use Rattle.std.specs.Prelude.{◌≡◌, refl, List, [], ◌∷◌, ◌++◌, Bool, true, ◌&&◌, ℕ, zero, suc, ◌+◌, ◌-◌, ◌≤◌, ◌<◌, eqb, length, get_or, take, drop, set, replicate}
use Rattle.std.proofs.Common.{sym, ap, ◌∙◌, zero-add, add-one, arith, length-append, length-take, length-drop, length-set, take-append-drop, drop_of_length-le, take_all, take-suc, get_or-drop, get_or-append-add, length-take-le, drop-set-lt, drop-cons, eqb-true, eq-eqb}
use Rattle.std.proofs.Math.Bool.{and_assoc, and-true}
use Rattle.std.proofs.Math.Nat.{sub-zero, zero-sub}
use Rattle.std.proofs.Math.Numerals.{unary_clauses}
use Rattle.std.proofs.lemmas.List.{length-replicate, drop-set-add, take-set-le, set-append_left}
use Rattle.std.proofs.lemmas.List.Edits.{sets, sets-eq}
use Rattle.std.proofs.Math.Seq.{take-append_seam, drop-append_seam}
use Rattle.laws.proofs.ChoiceLaws.{both_true}
use Rattle.laws.specs.Lists.{blank, padded, same, every, is_zero, zeros, zeros_from, Each, Bytes}

pub length_blank : (n : ℕ) → length (blank n) ≡ n
unfolding blank
length_blank n = length-replicate n 0

pub get_d_blank : (n k : ℕ) → get_or (blank n) k 0 ≡ 0
unfolding blank
get_d_blank zero k = refl
get_d_blank (suc n) zero = refl
get_d_blank (suc n) (suc k) = get_d_blank n k

pub length_padded : (n : ℕ) (l : List ℕ) → length l ≤ n → length (padded n l) ≡ n
unfolding padded
length_padded n l h = simp (length-append, length-drop, length_blank) (omega arith)

-- zeros past a padded list
pub padded_past : (n : ℕ) (l : List ℕ) (i : ℕ) → length l ≤ i → get_or (padded n l) i 0 ≡ 0
unfolding padded
padded_past n l i h =
    let e : i ≡ length l + (i - length l) = omega arith in
    rw e (get_or-append-add l (drop (length l) (blank n)) (i - length l) 0 ∙ get_or-drop (length l) (blank n) (i - length l) 0 ∙ get_d_blank n _)

-- the list that was padded
pub take_padded : (n : ℕ) (l : List ℕ) → take (length l) (padded n l) ≡ l
unfolding padded
take_padded n l = take-append_seam l (drop (length l) (blank n))

pub same_refl : (l : List ℕ) → same l l ≡ true
unfolding same
same_refl [] = refl
same_refl (x ∷ xs) = rw (eq-eqb x x refl) (same_refl xs)

pub same_true : (a b : List ℕ) → same a b ≡ true → a ≡ b
unfolding same
same_true [] [] h = refl
same_true [] (y ∷ ys) h = cc
same_true (x ∷ xs) [] h = cc
same_true (x ∷ xs) (y ∷ ys) h =
    let p = both_true (eqb x y) (same xs ys) h in
    let e : x ≡ y = eqb-true x y p.0 in
    let t : xs ≡ ys = same_true xs ys p.1 in
    cc

-- a test of each entry of a joined list
pub every_append : (f : ℕ → Bool) (a b : List ℕ) → every f (a ++ b) ≡ (every f a && every f b)
unfolding every
every_append f [] b = refl
every_append f (x ∷ a) b = rw (every_append f a b) (sym (and_assoc (f x) (every f a) (every f b)))

pub every_take : (f : ℕ → Bool) (n : ℕ) (l : List ℕ) → every f l ≡ true → every f (take n l) ≡ true
every_take f n l h = (both_true (every f (take n l)) (every f (drop n l)) (sym (every_append f (take n l) (drop n l)) ∙ rw (take-append-drop n l) h)).0

pub every_drop : (f : ℕ → Bool) (n : ℕ) (l : List ℕ) → every f l ≡ true → every f (drop n l) ≡ true
every_drop f n l h = (both_true (every f (take n l)) (every f (drop n l)) (sym (every_append f (take n l) (drop n l)) ∙ rw (take-append-drop n l) h)).1

pub every_replicate : (f : ℕ → Bool) (n x : ℕ) → f x ≡ true → every f (replicate n x) ≡ true
unfolding every
every_replicate f zero x h = refl
every_replicate f (suc n) x h = rw h (every_replicate f n x h)

pub every_blank : (f : ℕ → Bool) (n : ℕ) → f 0 ≡ true → every f (blank n) ≡ true
unfolding blank
every_blank f n h = every_replicate f n 0 h

pub every_padded : (f : ℕ → Bool) (n : ℕ) (l : List ℕ) → f 0 ≡ true → every f l ≡ true → every f (padded n l) ≡ true
unfolding padded
every_padded f n l z h = rw (every_append f l (drop (length l) (blank n)), h) (every_drop f (length l) (blank n) (every_blank f n z))

-- zeros
pub zeros_true : (l : List ℕ) → zeros l ≡ true → l ≡ blank (length l)
unfolding every blank
zeros_true [] h = refl
zeros_true (x ∷ l) h =
    let p = both_true (eqb x 0) (zeros l) h in
    let e : x ≡ 0 = eqb-true x 0 p.0 in
    let t : l ≡ replicate (length l) 0 = zeros_true l p.1 in
    cc

drop_blank : (n m : ℕ) → drop n (blank m) ≡ blank (m - n)
unfolding blank
drop_blank zero m = rw sub-zero refl
drop_blank (suc n) zero = rw zero-sub refl
drop_blank (suc n) (suc m) = simp unary_clauses (drop_blank n m)

-- a list whose places from n on are zeros is its first n, padded
pub zeros_padded : (n : ℕ) (l : List ℕ) → n ≤ length l → zeros_from n l ≡ true → l ≡ padded (length l) (take n l)
unfolding padded
zeros_padded n l h z =
    let t : drop n l ≡ blank (length l - n) = zeros_true (drop n l) z ∙ ap blank (length-drop n l) in
    let k : length (take n l) ≡ n = length-take-le n l h in
    sym (rw (k, drop_blank n (length l), ← t) (take-append-drop n l))

pub padded_zeros : (n : ℕ) (l : List ℕ) → zeros_from (length l) (padded n l) ≡ true
unfolding padded
padded_zeros n l = rw (drop-append_seam l (drop (length l) (blank n)), drop_blank (length l) n) (every_blank is_zero (n - length l) refl)

-- a store at a place below n leaves the zeros from n on
pub zeros_set : (n : ℕ) (l : List ℕ) (i v : ℕ) → i < n → zeros_from n l ≡ true → zeros_from n (set l i v) ≡ true
zeros_set n l i v h z = rw (drop-set-lt n l i v h) z

-- a run of stores that starts at 0
pub sets_front : (l a : List ℕ) → length a ≤ length l → sets l 0 a ≡ a ++ drop (length a) l
sets_front l a h = sets-eq a l 0 (omega arith) ∙ rw zero-add

-- what holds of each entry of a list and of 0 holds at each place
pub each_at : (P : ℕ → Type 0) (l : List ℕ) (k : ℕ) → P 0 → Each P l → P (get_or l k 0)
unfolding Each
each_at P [] k z h = z
each_at P (x ∷ l) zero z h = h.0
each_at P (x ∷ l) (suc k) z h = each_at P l k z h.1

pub at_each : (P : ℕ → Type 0) (l : List ℕ) → ((k : ℕ) → k < length l → P (get_or l k 0)) → Each P l
unfolding Each
at_each P [] h = tt
at_each P (x ∷ l) h = (h 0 (omega arith), at_each P l (λ k i. h (suc k) (omega arith)))

-- after a store too
pub each_set : (P : ℕ → Type 0) (l : List ℕ) (i v : ℕ) → Each P l → P v → Each P (set l i v)
unfolding Each
each_set P [] i v h p = tt
each_set P (x ∷ l) zero v h p = (p, h.1)
each_set P (x ∷ l) (suc i) v h p = (h.0, each_set P l i v h.1 p)

pub each_append : {A : Type 0} (P : A → Type 0) (a b : List A) → Each P a → Each P b → Each P (a ++ b)
unfolding Each
each_append P [] b h k = k
each_append P (x ∷ a) b h k = (h.0, each_append P a b h.1 k)

pub each_blank : (P : ℕ → Type 0) (n : ℕ) → P 0 → Each P (blank n)
unfolding Each blank
each_blank P zero z = tt
each_blank P (suc n) z = (z, each_blank P n z)

pub bytes_blank : (n : ℕ) → Bytes n (blank n)
bytes_blank n = record { long = length_blank n; small = each_blank (λ x. x < 256) n (omega arith) }

pub bytes_set : (n : ℕ) (l : List ℕ) (i v : ℕ) → Bytes n l → v < 256 → Bytes n (set l i v)
bytes_set n l i v h k = record { long = length-set l i v ∙ h.long; small = each_set (λ x. x < 256) l i v h.small k }

pub byte_at : (n : ℕ) (l : List ℕ) (k : ℕ) → Bytes n l → get_or l k 0 < 256
byte_at n l k h = each_at (λ x. x < 256) l k (omega arith) h.small

-- a loop that tests each entry from a place on: a turn, and the end
pub every_turn : (f : ℕ → Bool) (l : List ℕ) (i : ℕ) (so whole : Bool) → i < length l → (so && every f (drop i l)) ≡ whole → (so && f (get_or l i 0) && every f (drop (i + 1) l)) ≡ whole
unfolding every
every_turn f l i so whole h e =
    let n : every f (drop i l) ≡ (f (get_or l i 0) && every f (drop (i + 1) l)) = rw (drop-cons l i 0 h, add-one i) refl in
    rw (and_assoc so (f (get_or l i 0)) (every f (drop (i + 1) l)), ← n) e

pub every_done : (f : ℕ → Bool) (l : List ℕ) (i : ℕ) (so whole : Bool) → length l ≤ i → (so && every f (drop i l)) ≡ whole → so ≡ whole
unfolding every
every_done f l i so whole h e =
    let n : every f (drop i l) ≡ true = rw (drop_of_length-le l h) refl in
    sym (and-true so) ∙ (rw n at e)

-- what a test of each entry shows holds of each entry
pub every_each : (f : ℕ → Bool) (P : ℕ → Type 0) → ((x : ℕ) → f x ≡ true → P x) → (l : List ℕ) → every f l ≡ true → Each P l
unfolding every Each
every_each f P h [] t = tt
every_each f P h (x ∷ l) t = let p = both_true (f x) (every f l) t in (h x p.0, every_each f P h l p.1)

-- a store in a part of a list is a store in the whole
pub part_set : (s : List ℕ) (a k j v : ℕ) → j < k → a + k ≤ length s → take a s ++ (set (take k (drop a s)) j v ++ drop k (drop a s)) ≡ set s (a + j) v
part_set s a k j v hj hk =
    ap (λ (l : List ℕ). take a s ++ l)
    (sym (set-append_left (take k (drop a s)) (drop k (drop a s)) j v (rw (length-take, length-drop) (omega arith))) ∙ ap (λ (l : List ℕ). set l j v) (take-append-drop k (drop a s)))
    ∙ rw (← drop-set-add a s j v, ← take-set-le a s (a + j) v (omega arith)) (take-append-drop a (set s (a + j) v))

-- what holds of each entry of a joined list holds of each entry of its two parts
pub each_left : {A : Type 0} (P : A → Type 0) (a b : List A) → Each P (a ++ b) → Each P a
unfolding Each
each_left P [] b h = tt
each_left P (x ∷ a) b h = (h.0, each_left P a b h.1)

pub each_right : {A : Type 0} (P : A → Type 0) (a b : List A) → Each P (a ++ b) → Each P b
unfolding Each
each_right P [] b h = h
each_right P (x ∷ a) b h = each_right P a b h.1

pub each_take : {A : Type 0} (P : A → Type 0) (n : ℕ) (l : List A) → Each P l → Each P (take n l)
each_take P n l h = each_left P (take n l) (drop n l) (rw (take-append-drop n l) h)

pub each_drop : {A : Type 0} (P : A → Type 0) (n : ℕ) (l : List A) → Each P l → Each P (drop n l)
each_drop P n l h = each_right P (take n l) (drop n l) (rw (take-append-drop n l) h)

pub each_replicate : {A : Type 0} (P : A → Type 0) (n : ℕ) (x : A) → P x → Each P (replicate n x)
unfolding Each
each_replicate P zero x h = tt
each_replicate P (suc n) x h = (h, each_replicate P n x h)

-- zeros from any place on
pub zeros_tail_blank : (n m : ℕ) → zeros_from n (blank m) ≡ true
zeros_tail_blank n m = rw (drop_blank n m) (every_blank is_zero (m - n) refl)

-- a place among zeros; past the end there are zeros
pub zeros_at : (n : ℕ) (l : List ℕ) (k : ℕ) → n ≤ k → zeros_from n l ≡ true → get_or l k 0 ≡ 0
zeros_at n l k h z =
    let e : n + (k - n) ≡ k = omega arith in
    let t : get_or l (n + (k - n)) 0 ≡ 0 = sym (get_or-drop n l (k - n) 0) ∙ rw (zeros_true (drop n l) z) (get_d_blank (length (drop n l)) (k - n)) in
    rw e at t

pub zeros_past : (n : ℕ) (l : List ℕ) → length l ≤ n → zeros_from n l ≡ true
unfolding every
zeros_past n l h = rw (drop_of_length-le l h) refl

-- a list is what stands before its last entry, and that entry
pub split_last : (n : ℕ) (l : List ℕ) → length l ≡ suc n → l ≡ take n l ++ (get_or l n 0 ∷ [])
split_last n l e = sym (take_all (suc n) l (omega arith)) ∙ take-suc l n 0 (omega arith)
