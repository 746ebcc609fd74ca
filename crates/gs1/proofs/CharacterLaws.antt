-- The thirty patterns are GS1's symbol characters, the ten parity rows its number sets: each is one computed test over the whole table,
-- carried to each digit. Assumes nothing.
use Rattle.std.specs.Prelude.{◌≡◌, refl, Bool, true, ◌&&◌, map, ℕ, ◌+◌, ◌<◌, eqb, length}
use Rattle.std.proofs.Common.{ap, arith, eqb-true}
use Rattle.laws.specs.Choice.{below}
use Rattle.laws.proofs.ChoiceLaws.{both_true, below_at}
use Rattle.laws.specs.Lists.{same}
use Rattle.laws.proofs.ListsLaws.{same_true}
use Rattle.barcode.specs.Barcode.{patterns, left_odd, left_even, right, pattern_of, parities, parity_of}
use Rattle.barcode.proofs.PatternLaws.{pattern_place}
use Rattle.gs1.specs.Gs1.{NumberSet, widths, elements, character, left_sets, shade}
use Rattle.gs1.specs.Gs1.NumberSet.{A, B, C}

-- where a number set starts in the list
abbrev pub start_of : NumberSet → ℕ
start_of A = left_odd
start_of B = left_even
start_of C = right

-- a pattern determines its set and its digit
set_of_lem : (s t : NumberSet) (d e : ℕ) → d < 10 → e < 10 → start_of s + d ≡ start_of t + e → s ≡ t
set_of_lem A A d e hd he p = refl
set_of_lem A B d e hd he p = absurd (omega arith)
set_of_lem A C d e hd he p = absurd (omega arith)
set_of_lem B A d e hd he p = absurd (omega arith)
set_of_lem B B d e hd he p = refl
set_of_lem B C d e hd he p = absurd (omega arith)
set_of_lem C A d e hd he p = absurd (omega arith)
set_of_lem C B d e hd he p = absurd (omega arith)
set_of_lem C C d e hd he p = refl

start_below : (s : NumberSet) (d : ℕ) → d < 10 → start_of s + d < 30
start_below A d h = omega arith
start_below B d h = omega arith
start_below C d h = omega arith

pub pattern_determines : (s t : NumberSet) (d e : ℕ) → d < 10 → e < 10 → pattern_of (start_of s) d ≡ pattern_of (start_of t) e → (s ≡ t) × (d ≡ e)
pattern_determines s t d e hd he p =
    let k = pattern_place (start_of s) d (start_of t) e (start_below s d hd) (start_below t e he) p in
    let q = set_of_lem s t d e hd he k in
    (q, omega (arith, k, ap start_of q))

-- the patterns are GS1's symbol characters
gs1_is : NumberSet → ℕ → Bool
gs1_is s d = same (pattern_of (start_of s) d) (map shade (character s d))

gs1_all : (s : NumberSet) → below (gs1_is s) 10 ≡ true
unfolding gs1_is pattern_of patterns same character widths elements shade
gs1_all A = refl
gs1_all B = refl
gs1_all C = refl

pub pattern_gs1 : (s : NumberSet) (d : ℕ) → d < 10 → pattern_of (start_of s) d ≡ map shade (character s d)
unfolding gs1_is
pattern_gs1 s d h = same_true _ _ (below_at (gs1_is s) 10 d (gs1_all s) h)

-- the parity rows are GS1's number sets
sets_is : ℕ → Bool
sets_is d = same (parity_of d) (map start_of (left_sets d)) && eqb (length (left_sets d)) 6

sets_all : below sets_is 10 ≡ true
unfolding sets_is parity_of parities same left_sets
sets_all = refl

pub parity_gs1 : (d : ℕ) → d < 10 → (parity_of d ≡ map start_of (left_sets d)) × (length (left_sets d) ≡ 6)
unfolding sets_is
parity_gs1 d h =
    let p = both_true _ _ (below_at sets_is 10 d sets_all h) in
    (same_true _ _ p.0, eqb-true _ _ p.1)
