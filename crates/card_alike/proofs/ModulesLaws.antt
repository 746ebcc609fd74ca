-- Laws of a card's modules: its halves as runs of patterns in GS1's sets, how many modules there are, and what follows the first guard
-- and the centre. Assumes nothing.
use Rattle.std.specs.Prelude.{◌≡◌, refl, List, [], ◌∷◌, ◌++◌, map, ℕ, ◌+◌, ◌*◌, ◌-◌, ◌<◌, min, length, get_or, take, drop, replicate}
use Rattle.std.proofs.Common.{ap, arith, length-append, length-drop, take-add, eq-eqb, ne_eqb}
use Rattle.laws.proofs.DecimalLaws.{Decimal}
use Rattle.laws.proofs.ListsLaws.{each_at, each_drop}
use Rattle.digits.specs.Digits.{check_digit_of}
use Rattle.barcode.specs.Barcode.{right, pattern_of, patterns_of, left_of, right_of, lights, guard, centre, modules_of}
use Rattle.gs1.specs.Gs1.{left_sets}
use Rattle.gs1.specs.Gs1.NumberSet.{A, C}
use Rattle.gs1.proofs.CharacterLaws.{start_of, parity_gs1}
use Rattle.card_alike.proofs.RunLaws.{length_pattern, length_patterns}

-- THE HALVES OF A CARD, as runs of patterns in GS1's sets
pub decimal_drop : (k : ℕ) (ds : List ℕ) → Decimal ds → Decimal (drop k ds)
decimal_drop k ds h = each_drop (λ d. d < 10) k ds h

pub first_decimal : (ds : List ℕ) → Decimal ds → get_or ds 0 0 < 10
first_decimal ds h = each_at (λ d. d < 10) ds 0 (omega arith) h

pub check_below : (ds : List ℕ) → check_digit_of ds < 10
unfolding check_digit_of
check_below ds = omega arith

pub left_long : (ds : List ℕ) → length ds ≡ 13 → Decimal ds → left_of ds ≡ patterns_of (map start_of (left_sets (get_or ds 0 0))) (drop 1 ds)
unfolding left_of
left_long ds e h = rw (eq-eqb (length ds) 13 e, ← (parity_gs1 (get_or ds 0 0) (first_decimal ds h)).0) refl

pub right_long : (ds : List ℕ) → length ds ≡ 13 → right_of ds ≡ patterns_of (map start_of (replicate 5 C)) (drop 7 ds)
unfolding right_of
right_long ds e = rw (eq-eqb (length ds) 13 e) refl

pub left_short : (ds : List ℕ) → (length ds ≡ 13 → ⊥) → left_of ds ≡ patterns_of (map start_of (replicate 4 A)) ds
unfolding left_of
left_short ds e = rw (ne_eqb (length ds) 13 e) refl

pub right_short : (ds : List ℕ) → (length ds ≡ 13 → ⊥) → right_of ds ≡ patterns_of (map start_of (replicate 3 C)) (drop 4 ds)
unfolding right_of
right_short ds e = rw (ne_eqb (length ds) 13 e) refl

-- HOW MANY MODULES: 160 of 13 digits, else 83 and seven for each of up to seven digits
pub lengths : (ds : List ℕ) → length (modules_of ds) ≡ 83 + (length (left_of ds) + length (right_of ds))
unfolding modules_of lights guard centre
lengths ds = simp length-append (omega (arith, length_pattern right (check_digit_of ds) (omega (arith, check_below ds))))

module _ (ds : List ℕ) (h : Decimal ds) where
  pub length_left_long : length ds ≡ 13 → length (left_of ds) ≡ 42
  length_left_long e =
      rw (left_long ds e h, length_patterns (left_sets (get_or ds 0 0)) (drop 1 ds) (decimal_drop 1 ds h), length-drop, (parity_gs1 (get_or ds 0 0) (first_decimal ds h)).1, e) refl

  pub length_left_short : (length ds ≡ 13 → ⊥) → length (left_of ds) ≡ 7 * min 4 (length ds)
  length_left_short e = rw (left_short ds e) (length_patterns (replicate 4 A) ds h)

  pub modules_long : length ds ≡ 13 → length (modules_of ds) ≡ 160
  modules_long e =
      let r : length (right_of ds) ≡ 35 = rw (right_long ds e, length_patterns (replicate 5 C) (drop 7 ds) (decimal_drop 7 ds h), length-drop, e) refl in
      omega (arith, lengths ds, length_left_long e)

  pub modules_short : (length ds ≡ 13 → ⊥) → length (modules_of ds) ≡ 83 + 7 * min 7 (length ds)
  modules_short e =
      let r : length (right_of ds) ≡ 7 * min 3 (length ds - 4) = rw (right_short ds e, length_patterns (replicate 3 C) (drop 4 ds) (decimal_drop 4 ds h), length-drop) refl in
      omega (arith, lengths ds, length_left_short e)

-- WHAT FOLLOWS THE FIRST GUARD, AND THE CENTRE
unfoldable pub inner : List ℕ → List ℕ
inner ds = centre ++ (right_of ds ++ (pattern_of right (check_digit_of ds) ++ (guard ++ lights 32)))

pub from_left : (ds : List ℕ) → drop 36 (modules_of ds) ≡ left_of ds ++ inner ds
unfolding modules_of lights guard inner
from_left ds = refl

pub from_right_lem : (ds : List ℕ) → drop 5 (inner ds) ≡ right_of ds ++ (pattern_of right (check_digit_of ds) ++ (guard ++ lights 32))
unfolding inner centre
from_right_lem ds = refl

-- the first twelve digits: the leading one, the six left of the centre, and the five right of it
pub twelve : (ds : List ℕ) → length ds ≡ 13 → take 12 ds ≡ get_or ds 0 0 ∷ (take 6 (drop 1 ds) ++ take 5 (drop 7 ds))
twelve [] e = absurd (omega arith)
twelve (d ∷ ds) e = ap (λ (l : List ℕ). d ∷ l) (take-add 6 5 ds)
