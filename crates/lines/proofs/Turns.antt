-- The turns of the loops that write lists.
-- Assumes nothing.
use mathlib.Core.Path.{◌≡◌, refl, sym, ◌∙◌}
use mathlib.Core.List.{List, [], ◌∷◌, ◌++◌}
use Prim.Native.Nat.{ℕ, suc, ◌+◌, ◌-◌, ◌≤◌, ◌<◌}
use native.Mathlib.Numerals.{add-one}
use native.Mathlib.Omega.{arith}
use lib.ListN.{length, get_or, drop, drop_of_length-le}
use lib.Seq.{drop-cons}
use Rattle.std.proofs.Common.{Bor, Iter, Option, Some, None}
use Rattle.std.specs.Option.{unwrap_or, option_copied}
use Rattle.std.specs.Slice.Iter.{iter_rest, iter_steps}
use Rattle.std.proofs.lemmas.List.{nil_from_length}
use borrow.Author.Tests.{ne_eqb}
use Rattle.output.specs.Put.{put, put_all, decimal_of, hex_word}
use Rattle.output.specs.PutLaws.{put_none, put_one, put_first, put_append, put_then, put_last}
use Rattle.lines.specs.Lines.{answer_line, answer_lines, refused_lines, part_of, taken_by, with_numbers, joined, spaced_word}

-- a line, number by number
pub line_put : (s : List ℕ × ℕ) (r f v : ℕ) → put (put_all (put (put_all (put (put_all s (decimal_of r)) 32) (decimal_of f)) 32) (decimal_of v)) 10 ≡ put_all s (answer_line r f v)
unfolding answer_line
line_put s r f v = sym (put_then s (decimal_of r) 32 _ ∙ put_then _ (decimal_of f) 32 _ ∙ put_last _ (decimal_of v) 10)

-- three bytes, and what follows them
pub lines_more : (s : List ℕ × ℕ) (x r : List ℕ) → length x ≡ 3 → put_all (put_all s (answer_line (get_or x 0 0) (get_or x 1 0) (get_or x 2 0))) (answer_lines r) ≡ put_all s (answer_lines (x ++ r))
unfolding answer_lines
lines_more s [] r h = absurd (omega arith)
lines_more s (a ∷ []) r h = absurd (omega arith)
lines_more s (a ∷ b ∷ []) r h = absurd (omega arith)
lines_more s (a ∷ b ∷ d ∷ []) r h = sym (put_append s (answer_line a b d) (answer_lines r))
lines_more s (a ∷ b ∷ d ∷ e ∷ x) r h = absurd (omega arith)

-- fewer than three bytes are no line
pub lines_end : (s : List ℕ × ℕ) (l : List ℕ) → length l < 3 → put_all s (answer_lines l) ≡ s
unfolding answer_lines
lines_end s [] k = put_none s
lines_end s (x ∷ []) k = put_none s
lines_end s (x ∷ y ∷ []) k = put_none s
lines_end s (x ∷ y ∷ z ∷ m) k = absurd (omega arith)

-- one line more, of those that are left
pub refused_more : (s : List ℕ × ℕ) (refusal count i : ℕ) → i < count → put_all (put_all s (answer_line refusal 0 0)) (refused_lines refusal (count - (i + 1))) ≡ put_all s (refused_lines refusal (count - i))
unfolding refused_lines
refused_more s refusal count i h =
    let e : count - i ≡ suc (count - (i + 1)) = omega arith in
    rw e (sym (put_append s (answer_line refusal 0 0) (refused_lines refusal (count - (i + 1)))))

pub refused_end : (s : List ℕ × ℕ) (refusal n : ℕ) → n ≤ 0 → put_all s (refused_lines refusal n) ≡ s
unfolding refused_lines
refused_end s refusal n h =
    let e : n ≡ 0 = omega arith in
    rw e (put_none s)

-- the next number, 0 where there is none, and the numbers after it
pub number_next : (s t : Iter ℕ) (r : Option (Bor ℕ)) → iter_steps s r t → (unwrap_or (option_copied r) 0 ≡ get_or (iter_rest s) 0 0) × (iter_rest t ≡ drop 1 (iter_rest s))
number_next s t None h = let e = nil_from_length (iter_rest s) h.0 in (rw e refl, rw (h.1, e) refl)
number_next s t (Some x) h = (rw h refl, rw h refl)

-- a byte of a pattern: the digits of the next number, or itself
pattern_more : (s : List ℕ × ℕ) (p ns : List ℕ) (i : ℕ) → i < length p →
    put_all (put_all s (part_of (get_or p i 0) (get_or ns 0 0))) (with_numbers (drop (i + 1) p) (drop (taken_by (get_or p i 0)) ns)) ≡ put_all s (with_numbers (drop i p) ns)
unfolding with_numbers
pattern_more s p ns i h =
    rw (drop-cons p i 0 h, add-one i)
    (sym (put_append s (part_of (get_or p i 0) (get_or ns 0 0)) (with_numbers (drop (suc i) p) (drop (taken_by (get_or p i 0)) ns))))

pub pattern_number : (s : List ℕ × ℕ) (p ns : List ℕ) (i : ℕ) → i < length p → get_or p i 0 ≡ 35 →
    put_all (put_all s (decimal_of (get_or ns 0 0))) (with_numbers (drop (i + 1) p) (drop 1 ns)) ≡ put_all s (with_numbers (drop i p) ns)
pattern_number s p ns i h e = rw e at (pattern_more s p ns i h)

pub pattern_byte : (s : List ℕ × ℕ) (p ns : List ℕ) (i : ℕ) → i < length p → (get_or p i 0 ≡ 35 → ⊥) →
    put_all (put s (get_or p i 0)) (with_numbers (drop (i + 1) p) ns) ≡ put_all s (with_numbers (drop i p) ns)
pattern_byte s p ns i h n = rw (ne_eqb (get_or p i 0) 35 n, put_one s (get_or p i 0)) at (pattern_more s p ns i h)

pub pattern_end : (s : List ℕ × ℕ) (p ns : List ℕ) (i : ℕ) → length p ≤ i → put_all s (with_numbers (drop i p) ns) ≡ s
unfolding with_numbers
pattern_end s p ns i h = rw (drop_of_length-le p h) (put_none s)

-- what is written of an entry
pub joined_more : (f : ℕ → List ℕ) (s : List ℕ × ℕ) (l : List ℕ) (i : ℕ) → i < length l → put_all (put_all s (f (get_or l i 0))) (joined f (drop (i + 1) l)) ≡ put_all s (joined f (drop i l))
unfolding joined
joined_more f s l i h = rw (drop-cons l i 0 h, add-one i) (sym (put_append s (f (get_or l i 0)) (joined f (drop (suc i) l))))

pub joined_end : (f : ℕ → List ℕ) (s : List ℕ × ℕ) (l : List ℕ) (i : ℕ) → length l ≤ i → put_all s (joined f (drop i l)) ≡ s
unfolding joined
joined_end f s l i h = rw (drop_of_length-le l h) (put_none s)

-- a word after a space
pub spaced_more : (s : List ℕ × ℕ) (l : List ℕ) (i : ℕ) → i < length l → put_all (put_all (put s 32) (hex_word (get_or l i 0))) (joined spaced_word (drop (i + 1) l)) ≡ put_all s (joined spaced_word (drop i l))
spaced_more s l i h = rw (← put_first s 32 (hex_word (get_or l i 0))) (joined_more spaced_word s l i h)

-- parts one after the other
pub put_end_line : (s : List ℕ × ℕ) (a b : List ℕ) → put (put_all (put_all s a) b) 10 ≡ put_all s (a ++ (b ++ (10 ∷ [])))
put_end_line s a b = sym (put_append s a (b ++ (10 ∷ [])) ∙ put_last (put_all s a) b 10)

pub put_four : (s : List ℕ × ℕ) (a b c d : List ℕ) → put_all (put_all (put_all (put_all s a) b) c) d ≡ put_all s (a ++ (b ++ (c ++ d)))
put_four s a b c d = sym (put_append s a (b ++ (c ++ d)) ∙ put_append (put_all s a) b (c ++ d) ∙ put_append (put_all (put_all s a) b) c d)
