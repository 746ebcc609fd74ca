-- Laws of appends: a run of them is one, the turns of a loop, and that as many entries as have room are stored as they stand.
-- Assumes nothing.
use Rattle.std.specs.Prelude.{◌≡◌, Bool, true, false, ltb, length, get_or, drop, set}
use Rattle.std.proofs.Math.Path.{refl, sym, ap}
use Rattle.std.proofs.Common.{◌∙◌, zero-add, length-set, drop_of_length-le, drop-cons, take-suc-set, lt-ltb, le-ltb}
use mathlib.Core.List.{List, [], ◌∷◌, ◌++◌, append_assoc, append-nil}
use Prim.Native.Nat.{ℕ, zero, suc, ◌+◌, ◌-◌, ◌≤◌, ◌<◌, min}
use Rattle.std.proofs.Math.Nat.{add-zero}
use Rattle.std.proofs.Math.Numerals.{add-one}
use native.Mathlib.Omega.{arith}
use Rattle.std.proofs.Math.ListN.{take}
use Rattle.std.proofs.lemmas.List.Edits.{sets}
use Rattle.std.proofs.Math.Seq.{take-length}
use Rattle.laws.specs.Choice.{pick}
use Rattle.laws.specs.Lists.{blank, padded}
use Rattle.laws.proofs.ListsLaws.{length_blank, sets_front}
use Rattle.laws.specs.Append.{append, append_all}

-- one entry: where there is room, and where there is none
pub append_room : (n : ℕ) (t : List ℕ) (at x : ℕ) → at < n → append n (t, at) x ≡ (set t at x, at + 1)
unfolding append
append_room n t at x h = rw (lt-ltb at n h) refl

pub append_full : (n : ℕ) (t : List ℕ) (at x : ℕ) → n ≤ at → append n (t, at) x ≡ (t, at)
unfolding append
append_full n t at x h = rw (le-ltb at n h) refl

-- the list keeps its length
pub length_append_one : (n : ℕ) (s : List ℕ × ℕ) (x : ℕ) → length (append n s x).0 ≡ length s.0
unfolding append
length_append_one n s x = go (ltb s.1 n)
  where
    go : (t : Bool) → length (pick {A = List ℕ × ℕ} t (set s.0 s.1 x, s.1 + 1) s).0 ≡ length s.0
    go true = length-set s.0 s.1 x
    go false = refl

module _ (n : ℕ) where
  -- none, one, and the first of several
  pub append_none : (s : List ℕ × ℕ) → append_all n s [] ≡ s
  unfolding append_all
  append_none s = refl

  pub append_one : (s : List ℕ × ℕ) (x : ℕ) → append_all n s (x ∷ []) ≡ append n s x
  unfolding append_all
  append_one s x = refl

  pub append_first : (s : List ℕ × ℕ) (x : ℕ) (l : List ℕ) → append_all n s (x ∷ l) ≡ append_all n (append n s x) l
  unfolding append_all
  append_first s x l = refl

  -- a run of appends is one
  pub append_two : (s : List ℕ × ℕ) (a b : List ℕ) → append_all n s (a ++ b) ≡ append_all n (append_all n s a) b
  unfolding append_all
  append_two s [] b = refl
  append_two s (x ∷ a) b = append_two (append n s x) a b

  pub append_three : (s : List ℕ × ℕ) (a b c : List ℕ) → append_all n s (a ++ (b ++ c)) ≡ append_all n (append_all n (append_all n s a) b) c
  append_three s a b c = append_two s a (b ++ c) ∙ append_two (append_all n s a) b c

  pub append_four : (s : List ℕ × ℕ) (a b c d : List ℕ) → append_all n s (a ++ (b ++ (c ++ d))) ≡ append_all n (append_all n (append_all n (append_all n s a) b) c) d
  append_four s a b c d = append_two s a (b ++ (c ++ d)) ∙ append_three (append_all n s a) b c d

  -- a loop that appends an entry for each entry of a list: a turn, and the end
  pub append_more : (s : List ℕ × ℕ) (l : List ℕ) (i : ℕ) → i < length l → append_all n (append n s (get_or l i 0)) (drop (i + 1) l) ≡ append_all n s (drop i l)
  unfolding append_all
  append_more s l i h = rw (drop-cons l i 0 h, add-one i) refl

  pub append_end : (s : List ℕ × ℕ) (l : List ℕ) (i : ℕ) → length l ≤ i → append_all n s (drop i l) ≡ s
  unfolding append_all
  append_end s l i h = rw (drop_of_length-le l h) refl

  -- after several too
  pub length_append_all : (s : List ℕ × ℕ) (l : List ℕ) → length (append_all n s l).0 ≡ length s.0
  unfolding append_all
  length_append_all s [] = refl
  length_append_all s (x ∷ l) = length_append_all (append n s x) l ∙ length_append_one n s x

  -- as many entries as have room are stored as they stand
  append_past : (t : List ℕ) (at : ℕ) (l : List ℕ) → n ≤ at → append_all n (t, at) l ≡ (t, at)
  unfolding append_all
  append_past t at [] h = refl
  append_past t at (x ∷ l) h = rw (append_full n t at x h) (append_past t at l h)

  pub append_fitting : (t : List ℕ) (at : ℕ) (l : List ℕ) (k : ℕ) → k ≡ min (length l) (n - at) → append_all n (t, at) l ≡ (sets t at (take k l), at + k)
  unfolding append_all
  append_fitting t at [] zero e = rw add-zero refl
  append_fitting t at [] (suc k) e = absurd (omega arith)
  append_fitting t at (x ∷ l) zero e = append_past t at (x ∷ l) (omega arith) ∙ rw add-zero refl
  append_fitting t at (x ∷ l) (suc k) e =
      let a : at + 1 + k ≡ at + suc k = omega arith in
      let b : at + 1 ≡ suc at = add-one at in
      rw (append_room n t at x (omega arith)) (append_fitting (set t at x) (at + 1) l k (omega arith) ∙ rw (a, b) refl)

  -- a list that has room, in an array of zeros
  pub append_blank : (l : List ℕ) → length l ≤ n → append_all n (blank n, 0) l ≡ (padded n l, length l)
  unfolding padded
  append_blank l h = append_fitting (blank n) 0 l (length l) (omega arith) ∙ rw (zero-add, take-length l, sets_front (blank n) l (rw length_blank h)) refl

  -- what stands before the place grows by the list that has room
  pub append_whole : (s : List ℕ × ℕ) (l : List ℕ) → n ≤ length s.0 → s.1 + length l ≤ n → take (append_all n s l).1 (append_all n s l).0 ≡ take s.1 s.0 ++ l
  unfolding append_all
  append_whole s [] w k = sym (append-nil (take s.1 s.0))
  append_whole s (x ∷ l) w k =
      let u : List ℕ × ℕ = (set s.0 s.1 x, s.1 + 1) in
      let rest = append_whole u l (rw (length-set s.0 s.1 x) w) (omega (arith, k)) in
      let front : take u.1 u.0 ≡ take s.1 s.0 ++ (x ∷ []) = rw (add-one s.1) (take-suc-set s.0 s.1 x (omega (arith, k, w))) in
      ap (λ (p : List ℕ × ℕ). take (append_all n p l).1 (append_all n p l).0) (append_room n s.0 s.1 x (omega (arith, k)))
      ∙ (rest ∙ ap (λ (p : List ℕ). p ++ l) front ∙ append_assoc (take s.1 s.0) (x ∷ []) l)
