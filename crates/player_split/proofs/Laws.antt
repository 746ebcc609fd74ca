-- What the proofs of the functions need: the two parts of a slice, lent up to a place and from there on, are those of its cut.
-- Assumes nothing.
use mathlib.Core.Path.{◌≡◌, sym, ap, ◌∙◌}
use mathlib.Core.List.{List, ◌++◌, append-nil}
use Prim.Native.Nat.{ℕ, ◌-◌, min}
use native.Mathlib.Omega.{arith}
use lib.ListN.{length, take, drop, length-take, length-drop, take-append-drop, drop_of_length-le}
use lib.Seq.{take_all, take-append_seam, drop-append_seam}

-- a cut above a list's length is its length
pub cut_length : (cut n : ℕ) (s : List ℕ) → n ≡ min cut (length s) → n ≡ length (take cut s)
cut_length cut n s h = rw length-take h

module _ (cut n : ℕ) (s : List ℕ) (e : n ≡ length (take cut s)) where
  pub front_cut : take n s ≡ take cut s
  front_cut =
      ap (λ (k : ℕ). take k s) e ∙ ap (take (length (take cut s))) (sym (take-append-drop cut s)) ∙ take-append_seam (take cut s) (drop cut s)

  pub rest : drop n s ≡ drop cut s
  rest = ap (λ (k : ℕ). drop k s) e ∙ ap (drop (length (take cut s))) (sym (take-append-drop cut s)) ∙ drop-append_seam (take cut s) (drop cut s)

  -- a part up to the end, which nothing follows
  pub lent_rest : take (length s - n) (drop n s) ≡ drop cut s
  lent_rest = take_all (length s - n) (drop n s) (rw (length-drop n s) (omega arith)) ∙ rest

  pub nothing_left : (l : List ℕ) → l ++ drop (length s - n) (drop n s) ≡ l
  nothing_left l =
      ap (λ (r : List ℕ). l ++ r) (drop_of_length-le (drop n s) {i = length s - n} (rw (length-drop n s) (omega arith))) ∙ append-nil l
