-- Laws of a run of patterns: its length, and that it determines its digits and their sets.
-- Assumes nothing.
use Rattle.std.specs.Prelude.{◌≡◌, refl, List, [], ◌∷◌, ◌++◌, map, ℕ, ◌+◌, ◌*◌, ◌<◌, min, length, take, drop}
use Rattle.std.proofs.Common.{sym, ap, ◌∙◌, arith, length-append, length-take, length-drop, take_at, drop_at}
use Rattle.std.proofs.Math.Seq.{take-nil}
use Rattle.laws.specs.Lists.{Each}
use Rattle.laws.proofs.DecimalLaws.{Decimal}
use Rattle.barcode.specs.Barcode.{patterns, pattern_of, patterns_of}
use Rattle.gs1.specs.Gs1.{NumberSet}
use Rattle.gs1.specs.Gs1.NumberSet.{A, B, C}
use Rattle.gs1.proofs.CharacterLaws.{start_of, pattern_determines}

-- a pattern has seven modules
length_table : length patterns ≡ 210
unfolding patterns
length_table = refl

pub length_pattern : (s d : ℕ) → s + d < 30 → length (pattern_of s d) ≡ 7
unfolding pattern_of
length_pattern s d h = rw (length-take, length-drop, length_table) (omega arith)

pub length_in : (s : NumberSet) (d : ℕ) → d < 10 → length (pattern_of (start_of s) d) ≡ 7
length_in A d h = length_pattern (start_of A) d (omega arith)
length_in B d h = length_pattern (start_of B) d (omega arith)
length_in C d h = length_pattern (start_of C) d (omega arith)

-- and a run of them seven for each digit that is shown
pub length_patterns : (ss : List NumberSet) (ds : List ℕ) → Decimal ds → length (patterns_of (map start_of ss) ds) ≡ 7 * min (length ss) (length ds)
unfolding patterns_of Each
length_patterns [] ds h = omega arith
length_patterns (s ∷ ss) [] h = omega arith
length_patterns (s ∷ ss) (d ∷ ds) h = rw (length-append, length_in s d h.0) (omega (arith, length_patterns ss ds h.1))

-- two joined lists that are equal are so part by part, where their first parts have one length
pub parts_same : (a b c d : List ℕ) → length a ≡ length c → a ++ b ≡ c ++ d → (a ≡ c) × (b ≡ d)
parts_same a b c d h e = (
  sym (take_at a b (length c) h) ∙ ap (λ (l : List ℕ). take (length c) l) e ∙ take_at c d (length c) refl,
  sym (drop_at a b (length c) h) ∙ ap (λ (l : List ℕ). drop (length c) l) e ∙ drop_at c d (length c) refl,
)

-- a run of patterns determines the sets and the digits that it shows
pub run_determines : (ss ts : List NumberSet) (ds es : List ℕ) → length ss ≡ length ts → Decimal ds → Decimal es →
    patterns_of (map start_of ss) ds ≡ patterns_of (map start_of ts) es → (take (length ds) ss ≡ take (length es) ts) × (take (length ss) ds ≡ take (length ts) es)
unfolding patterns_of Each
run_determines [] [] ds es n h k e = (take-nil (length ds) ∙ sym (take-nil (length es)), refl)
run_determines [] (t ∷ ts) ds es n h k e = absurd (omega arith)
run_determines (s ∷ ss) [] ds es n h k e = absurd (omega arith)
run_determines (s ∷ ss) (t ∷ ts) [] [] n h k e = (refl, refl)
run_determines (s ∷ ss) (t ∷ ts) [] (y ∷ es) n h k e = absurd (omega (arith, simp length-append at (ap length e), length_in t y k.0))
run_determines (s ∷ ss) (t ∷ ts) (x ∷ ds) [] n h k e = absurd (omega (arith, simp length-append at (ap length e), length_in s x h.0))
run_determines (s ∷ ss) (t ∷ ts) (x ∷ ds) (y ∷ es) n h k e =
    let p = parts_same (pattern_of (start_of s) x) _ (pattern_of (start_of t) y) _ (length_in s x h.0 ∙ sym (length_in t y k.0)) e in
    let q = pattern_determines s t x y h.0 k.0 p.0 in
    let r = run_determines ss ts ds es (omega arith) h.1 k.1 p.1 in
    (cc, cc)
