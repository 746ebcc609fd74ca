-- For exactly 13 and for exactly 8 digits the modules are GS1's symbol of the digits, with GS1's check digit in the last place,
-- between 33 and 32 lights. So the last digit that was supplied does not matter, and a card whose last digit is right shows the symbol
-- of its own digits. The theorems are card13, card8, card13_own, card8_own, card13_last, card8_last.
-- Assumes nothing.
use Rattle.std.specs.Prelude.{◌≡◌, ℕ, zero, suc, ◌/◌, ◌<◌, length, get_or, take, drop, replicate}
use Rattle.std.proofs.Math.Path.{refl}
use Rattle.std.proofs.Common.{sym, ap, subst, ◌∙◌, length-append, take_at}
use mathlib.Core.List.{List, [], ◌∷◌, ◌++◌, map, map-append, append_assoc, append-nil}
use native.Mathlib.Omega.{arith}
use Rattle.laws.specs.Lists.{Each}
use Rattle.laws.proofs.ListsLaws.{split_last}
use Rattle.barcode.specs.Barcode.{right, pattern_of, patterns_of, left_of, right_of, lights, guard, centre, modules_of}
use Rattle.digits.specs.Digits.{weighed, weights, check_digit_of, digits_of}
use Rattle.gs1.specs.Gs1.{NumberSet, characters, left_sets, normal_guard, centre_guard, ean13, ean8, from_right, check_digit, checked, shade, character}
use Rattle.gs1.specs.Gs1.NumberSet.{A, C}
use Rattle.laws.proofs.DecimalLaws.{Decimal}
use Rattle.digits.specs.DigitsLaws.{digits_decimal, front, front_same, digits_last}
use Rattle.gs1.proofs.CharacterLaws.{start_of, pattern_gs1, parity_gs1}

-- patterns of digits are GS1's characters, whatever digits follow on either side
left_half : (ss : List NumberSet) (l y z : List ℕ) → length ss ≡ length l → Decimal (l ++ y) → patterns_of (map start_of ss) (l ++ y) ≡ map shade (characters ss (l ++ z))
unfolding patterns_of characters Each
left_half [] l y z e h = refl
left_half (s ∷ ss) [] y z e h = absurd (omega arith)
left_half (s ∷ ss) (d ∷ l) y z e h =
    rw (map-append shade (character s d) (characters ss (l ++ z)), pattern_gs1 s d h.0, left_half ss l y z (omega arith) h.1)

-- the same where the check digit follows
right_half : (ss : List NumberSet) (l y : List ℕ) (k : ℕ) → length ss ≡ length l → k < 10 → Decimal (l ++ y) →
    patterns_of (map start_of ss) (l ++ y) ++ pattern_of right k ≡ map shade (characters (ss ++ (C ∷ [])) (l ++ (k ∷ [])))
unfolding patterns_of characters Each
right_half [] [] y k e hk h = rw (append-nil, pattern_gs1 C k hk)
right_half [] (d ∷ l) y k e hk h = absurd (omega arith)
right_half (s ∷ ss) [] y k e hk h = absurd (omega arith)
right_half (s ∷ ss) (d ∷ l) y k e hk h =
    rw (append_assoc, map-append, pattern_gs1 s d h.0, right_half ss l y k (omega arith) hk h.1)

-- the guards are GS1's
guard_gs1 : guard ≡ map shade normal_guard
unfolding guard normal_guard shade
guard_gs1 = refl

centre_gs1 : centre ≡ map shade centre_guard
unfolding centre centre_guard shade
centre_gs1 = refl

-- the whole, where the halves are GS1's
framed : (l r p gl gr : List ℕ) → l ≡ map shade gl → r ++ p ≡ map shade gr →
    lights 33 ++ (guard ++ (l ++ (centre ++ (r ++ (p ++ (guard ++ lights 32)))))) ≡
    lights 33 ++ (map shade (normal_guard ++ (gl ++ (centre_guard ++ (gr ++ normal_guard)))) ++ lights 32)
framed l r p gl gr el er =
    rw (← append_assoc r p (guard ++ lights 32), er, el, guard_gs1, centre_gs1) (simp (map-append, append_assoc))

-- a list of a known length by its entries
abbrev entries : ℕ → (ℕ → ℕ) → List ℕ
entries zero at = []
entries (suc n) at = at 0 ∷ entries n (λ i. at (suc i))

listed : (n : ℕ) (ds : List ℕ) → length ds ≡ n → ds ≡ entries n (λ i. get_or ds i 0)
listed zero [] e = refl
listed zero (d ∷ ds) e = absurd (omega arith)
listed (suc n) [] e = absurd (omega arith)
listed (suc n) (d ∷ ds) e = ap (λ (l : List ℕ). d ∷ l) (listed n ds (omega arith))

check_below : (ds : List ℕ) → check_digit ds < 10
unfolding check_digit
check_below ds = omega arith

module _ (f : ℕ → ℕ) where
  check13 : check_digit_of (entries 13 f) ≡ check_digit (entries 12 f)
  unfolding check_digit_of weights weighed check_digit from_right
  check13 = omega arith

  check8 : check_digit_of (entries 8 f) ≡ check_digit (entries 7 f)
  unfolding check_digit_of weights weighed check_digit from_right
  check8 = omega arith

  listed13 : Decimal (entries 13 f) → modules_of (entries 13 f) ≡ lights 33 ++ (map shade (ean13 (checked 12 (entries 13 f))) ++ lights 32)
  unfolding modules_of left_of right_of ean13 checked Each
  listed13 p =
      let ds = entries 13 f in
      let gs = checked 12 ds in
      let q = parity_gs1 (f 0) p.0 in
      let gl = characters (left_sets (f 0)) (drop 1 gs) in
      let gr = characters (replicate 6 C) (drop 7 gs) in
      let el : left_of ds ≡ map shade gl =
      rw q.0 (left_half (left_sets (f 0)) (take 6 (drop 1 ds)) (drop 7 ds) (drop 7 gs) q.1 p.1) in
      let er : right_of ds ++ pattern_of right (check_digit_of ds) ≡ map shade gr =
      rw check13 (right_half (replicate 5 C) (take 5 (drop 7 ds)) (drop 12 ds) _ refl (check_below _) p.1.1.1.1.1.1.1) in
      framed (left_of ds) (right_of ds) (pattern_of right (check_digit_of ds)) gl gr el er

  listed8 : Decimal (entries 8 f) → modules_of (entries 8 f) ≡ lights 33 ++ (map shade (ean8 (checked 7 (entries 8 f))) ++ lights 32)
  unfolding modules_of left_of right_of ean8 checked Each
  listed8 p =
      let ds = entries 8 f in
      let gs = checked 7 ds in
      let gl = characters (replicate 4 A) gs in
      let gr = characters (replicate 4 C) (drop 4 gs) in
      let el : left_of ds ≡ map shade gl = left_half (replicate 4 A) (take 4 ds) (drop 4 ds) (drop 4 gs) refl p in
      let er : right_of ds ++ pattern_of right (check_digit_of ds) ≡ map shade gr =
      rw check8 (right_half (replicate 3 C) (take 3 (drop 4 ds)) (drop 7 ds) _ refl (check_below _) p.1.1.1.1) in
      framed (left_of ds) (right_of ds) (pattern_of right (check_digit_of ds)) gl gr el er

-- of any 13 and any 8 digits: the symbol, and the check digit
pub symbol13 : (ds : List ℕ) → length ds ≡ 13 → Decimal ds → modules_of ds ≡ lights 33 ++ (map shade (ean13 (checked 12 ds)) ++ lights 32)
symbol13 ds e p = rw (listed 13 ds e) (listed13 (λ i. get_or ds i 0) (subst Decimal (listed 13 ds e) p))

pub symbol8 : (ds : List ℕ) → length ds ≡ 8 → Decimal ds → modules_of ds ≡ lights 33 ++ (map shade (ean8 (checked 7 ds)) ++ lights 32)
symbol8 ds e p = rw (listed 8 ds e) (listed8 (λ i. get_or ds i 0) (subst Decimal (listed 8 ds e) p))

pub symbol13_check : (ds : List ℕ) → length ds ≡ 13 → check_digit_of ds ≡ check_digit (take 12 ds)
symbol13_check ds e = rw (listed 13 ds e) (check13 (λ i. get_or ds i 0))

pub symbol8_check : (ds : List ℕ) → length ds ≡ 8 → check_digit_of ds ≡ check_digit (take 7 ds)
symbol8_check ds e = rw (listed 8 ds e) (check8 (λ i. get_or ds i 0))

-- of every card with 13 and with 8 digits
pub card13 : (number count : ℕ) → length (digits_of number count) ≡ 13 →
    modules_of (digits_of number count) ≡ lights 33 ++ (map shade (ean13 (checked 12 (digits_of number count))) ++ lights 32)
card13 number count e = symbol13 _ e (digits_decimal number count)

pub card8 : (number count : ℕ) → length (digits_of number count) ≡ 8 →
    modules_of (digits_of number count) ≡ lights 33 ++ (map shade (ean8 (checked 7 (digits_of number count))) ++ lights 32)
card8 number count e = symbol8 _ e (digits_decimal number count)

-- a card whose last digit is right shows the symbol of its own digits
own_digits : (n : ℕ) (ds : List ℕ) → length ds ≡ suc n → get_or ds n 0 ≡ check_digit (take n ds) → checked n ds ≡ ds
unfolding checked
own_digits n ds e k = rw (← k) (sym (split_last n ds e))

pub card13_own : (number count : ℕ) → length (digits_of number count) ≡ 13 →
    get_or (digits_of number count) 12 0 ≡ check_digit (take 12 (digits_of number count)) →
    modules_of (digits_of number count) ≡ lights 33 ++ (map shade (ean13 (digits_of number count)) ++ lights 32)
card13_own number count e k =
    subst (λ (ds : List ℕ). modules_of (digits_of number count) ≡ lights 33 ++ (map shade (ean13 ds) ++ lights 32)) (own_digits 12 _ e k) (card13 number count e)

pub card8_own : (number count : ℕ) → length (digits_of number count) ≡ 8 →
    get_or (digits_of number count) 7 0 ≡ check_digit (take 7 (digits_of number count)) →
    modules_of (digits_of number count) ≡ lights 33 ++ (map shade (ean8 (digits_of number count)) ++ lights 32)
card8_own number count e k =
    subst (λ (ds : List ℕ). modules_of (digits_of number count) ≡ lights 33 ++ (map shade (ean8 ds) ++ lights 32)) (own_digits 7 _ e k) (card8 number count e)

-- the last digit that was supplied does not matter
module _ (a b count : ℕ) (e : a / 10 ≡ b / 10) where
  length_front : (n : ℕ) → length (digits_of a count) ≡ suc n → length (front a count) ≡ n
  length_front n h =
      let k : length (front a count ++ (_ ∷ [])) ≡ suc n = rw digits_last at h in
      omega (arith, simp length-append at k)

  length_other : (n : ℕ) → length (digits_of a count) ≡ n → length (digits_of b count) ≡ n
  length_other n h = rw (digits_last b count, ← front_same a b count e, length-append) (rw (digits_last a count, length-append) at h)

  same_front : (n : ℕ) → length (digits_of a count) ≡ suc n → take n (digits_of a count) ≡ take n (digits_of b count)
  same_front n h = rw (digits_last a count, digits_last b count, ← front_same a b count e) (take_at (front a count) _ n (length_front n h) ∙ sym (take_at (front a count) _ n (length_front n h)))

  pub card13_last : length (digits_of a count) ≡ 13 → modules_of (digits_of a count) ≡ modules_of (digits_of b count)
  unfolding checked
  card13_last h = card13 a count h ∙ rw (same_front 12 h) (sym (card13 b count (length_other 13 h)))

  pub card8_last : length (digits_of a count) ≡ 8 → modules_of (digits_of a count) ≡ modules_of (digits_of b count)
  unfolding checked
  card8_last h = card8 a count h ∙ rw (same_front 7 h) (sym (card8 b count (length_other 8 h)))
