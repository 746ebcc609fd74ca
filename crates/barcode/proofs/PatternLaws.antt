-- Laws of the thirty patterns and the ten parity rows: each is one computed test over the whole table, carried to each digit.
-- Assumes nothing.
use Rattle.std.specs.Prelude.{◌≡◌, refl, Bool, true, List, map, reverse, ℕ, ◌+◌, ◌-◌, ◌<◌}
use Rattle.std.proofs.Common.{sym, ◌∙◌, zero-add}
use Rattle.laws.specs.Choice.{below}
use Rattle.laws.proofs.ChoiceLaws.{below_at}
use Rattle.laws.specs.Lists.{same}
use Rattle.laws.proofs.ListsLaws.{same_true}
use Rattle.laws.specs.Search.{found}
use Rattle.laws.proofs.SearchLaws.{own, distinct}
use Rattle.barcode.specs.Barcode.{patterns, left_odd, left_even, right, pattern_of, parities, parity_of}

-- right is the complement of left odd
abbrev pub complement : List ℕ → List ℕ
complement = map (λ m. 8 - m)

right_is : ℕ → Bool
right_is d = same (pattern_of right d) (complement (pattern_of left_odd d))

right_all : below right_is 10 ≡ true
unfolding right_is pattern_of patterns same
right_all = refl

pub right_complement : (d : ℕ) → d < 10 → pattern_of right d ≡ complement (pattern_of left_odd d)
unfolding right_is
right_complement d h = same_true _ _ (below_at right_is 10 d right_all h)

-- left even is right reversed
even_is : ℕ → Bool
even_is d = same (pattern_of left_even d) (reverse (pattern_of right d))

even_all : below even_is 10 ≡ true
unfolding even_is pattern_of patterns same
even_all = refl

pub even_reversed : (d : ℕ) → d < 10 → pattern_of left_even d ≡ reverse (pattern_of right d)
unfolding even_is
even_reversed d h = same_true _ _ (below_at even_is 10 d even_all h)

-- the thirty are distinct: each is found at its own place, and so a pattern determines its place
all_found : below (own (pattern_of 0) 30) 30 ≡ true
unfolding own found pattern_of patterns same
all_found = refl

from_first : (s d : ℕ) → pattern_of s d ≡ pattern_of 0 (s + d)
unfolding pattern_of
from_first s d = rw zero-add refl

pub pattern_place : (s d t e : ℕ) → s + d < 30 → t + e < 30 → pattern_of s d ≡ pattern_of t e → s + d ≡ t + e
pattern_place s d t e hj hk p = distinct (pattern_of 0) 30 all_found (s + d) (t + e) hj hk (sym (from_first s d) ∙ p ∙ from_first t e)

-- the ten parity rows are distinct too, and so a row determines its leading digit
rows_found : below (own parity_of 10) 10 ≡ true
unfolding own found parity_of parities same
rows_found = refl

pub row_determines : (d e : ℕ) → d < 10 → e < 10 → parity_of d ≡ parity_of e → d ≡ e
row_determines = distinct parity_of 10 rows_found
