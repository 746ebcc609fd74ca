-- Laws of reading: how many digits are read and that each is below ten; the tables are read back, and so is a run of patterns; and
-- what a card's modules are read as. Assumes nothing.
use Rattle.std.specs.Prelude.{◌≡◌, Bool, true, false, ℕ, zero, suc, ◌+◌, ◌≤◌, ◌<◌, replicate}
use Rattle.std.proofs.Math.Path.{refl, ap}
use Rattle.std.proofs.Common.{sym, ◌∙◌, length-append, take_at, drop_at, drop-drop, take-add}
use mathlib.Core.List.{List, [], ◌∷◌, ◌++◌, map, append_assoc, append-nil}
use native.Mathlib.Omega.{arith}
use Rattle.std.proofs.Math.ListN.{length, get_or, take, drop, length-drop}
use Rattle.laws.specs.Choice.{pick, below, all_true}
use Rattle.laws.proofs.ChoiceLaws.{both_true, below_at}
use Rattle.laws.proofs.DecimalLaws.{Decimal}
use Rattle.laws.specs.Lists.{same, Each}
use Rattle.laws.proofs.ListsLaws.{same_refl, same_true, each_append}
use Rattle.laws.proofs.SearchLaws.{found_below, found_own}
use Rattle.digits.specs.Digits.{check_digit_of}
use Rattle.barcode.specs.Barcode.{left_odd, left_even, right, pattern_of, patterns_of, parity_of, left_of, right_of, guard, lights, modules_of}
use Rattle.barcode.proofs.PatternLaws.{pattern_place, row_determines}
use Rattle.gs1.specs.Gs1.{NumberSet, left_sets, check_digit, checked}
use Rattle.gs1.specs.Gs1.NumberSet.{A, B, C}
use Rattle.gs1.proofs.CharacterLaws.{start_of, pattern_determines, parity_gs1}
use Rattle.gs1.proofs.Gs1Laws.{symbol8_check, symbol13_check}
use Rattle.card_alike.proofs.RunLaws.{length_in}
use Rattle.card_alike.proofs.ModulesLaws.{decimal_drop, first_decimal, check_below, left_long, right_long, left_short, right_short, length_left_long, length_left_short, inner, from_left, from_right_lem, twelve}
use Rattle.card_decode.specs.Decode.{digit_in, set_of, leading_of, read_in, sets_in, shown8, shown13}

-- HOW MANY DIGITS ARE READ
pub length_read : (ss l : List ℕ) → length (read_in ss l) ≡ length ss
unfolding read_in
length_read [] l = refl
length_read (s ∷ ss) l = ap suc (length_read ss (drop 7 l))

pub length_sets : (n : ℕ) (l : List ℕ) → length (sets_in n l) ≡ n
unfolding sets_in
length_sets zero l = refl
length_sets (suc n) l = ap suc (length_sets n (drop 7 l))

pub length_shown8 : (l : List ℕ) → length (shown8 l) ≡ 8
unfolding shown8
length_shown8 l = simp (length-append, length_read)

pub length_shown13 : (l : List ℕ) → length (shown13 l) ≡ 13
unfolding shown13
length_shown13 l = simp (length-append, length_read, length_sets)

-- EACH IS BELOW TEN
read_decimal : (ss l : List ℕ) → Decimal (read_in ss l)
unfolding read_in Each digit_in
read_decimal [] l = tt
read_decimal (s ∷ ss) l = (found_below (pattern_of s) (take 7 l) 10 10 (omega arith) (omega arith), read_decimal ss (drop 7 l))

pub shown8_decimal : (l : List ℕ) → Decimal (shown8 l)
unfolding shown8
shown8_decimal l = each_append (λ d. d < 10) _ _ (read_decimal (replicate 4 left_odd) (drop 36 l)) (read_decimal (replicate 4 right) (drop 69 l))

pub shown13_decimal : (l : List ℕ) → Decimal (shown13 l)
unfolding shown13 Each leading_of
shown13_decimal l = (
  found_below parity_of (sets_in 6 (drop 36 l)) 10 10 (omega arith) (omega arith),
  each_append (λ d. d < 10) (read_in (sets_in 6 (drop 36 l)) (drop 36 l)) (read_in (replicate 6 right) (drop 83 l)) (read_decimal (sets_in 6 (drop 36 l)) (drop 36 l)) (read_decimal (replicate 6 right) (drop 83 l)),
)

-- THE TABLES ARE READ BACK, since their entries are distinct: a digit of any set, the set of a left pattern, a leading digit
digit_back : (s : NumberSet) (d : ℕ) → d < 10 → digit_in (start_of s) (pattern_of (start_of s) d) ≡ d
unfolding digit_in
digit_back s d h = found_own (pattern_of (start_of s)) 10 (λ j k hj hk e. (pattern_determines s s j k hj hk e).1) d h

digit_below : (s : ℕ) (p : List ℕ) → digit_in s p < 10
unfolding digit_in
digit_below s p = found_below (pattern_of s) p 10 10 (omega arith) (omega arith)

is_left : NumberSet → Bool
is_left A = true
is_left B = true
is_left C = false

set_back : (s : NumberSet) (d : ℕ) → is_left s ≡ true → d < 10 → set_of (pattern_of (start_of s) d) ≡ start_of s
unfolding is_left set_of
set_back A d l h = go _ refl
  where
    go : (t : Bool) → same (pattern_of left_odd d) (pattern_of left_even (digit_in left_even (pattern_of left_odd d))) ≡ t → pick t left_even left_odd ≡ left_odd
    go false e = refl
    go true e =
        let k = digit_in left_even (pattern_of left_odd d) in
        absurd (omega (arith, pattern_place left_odd d left_even k (omega arith) (omega (arith, digit_below left_even (pattern_of left_odd d))) (same_true _ _ e)))
set_back B d l h = rw (digit_back B d h, same_refl (pattern_of left_even d)) refl
set_back C d l h = cc

all_left : below (λ d. all_true (map is_left (left_sets d))) 10 ≡ true
unfolding is_left left_sets
all_left = refl

row_back : (d : ℕ) → d < 10 → (leading_of (parity_of d) ≡ d) × (all_true (map is_left (left_sets d)) ≡ true)
unfolding leading_of
row_back d h = (found_own parity_of 10 row_determines d h, below_at (λ k. all_true (map is_left (left_sets k))) 10 d all_left h)

-- A RUN OF PATTERNS IS READ BACK, whatever follows
read_back_lem : (ss : List NumberSet) (ts ds rest : List ℕ) → length ss ≤ length ds → Decimal ds →
    read_in (map start_of ss ++ ts) (patterns_of (map start_of ss) ds ++ rest) ≡ take (length ss) ds ++ read_in ts rest
unfolding read_in patterns_of Each
read_back_lem [] ts ds rest h p = refl
read_back_lem (s ∷ ss) ts [] rest h p = absurd (omega arith)
read_back_lem (s ∷ ss) ts (d ∷ ds) rest h p =
    let q = pattern_of (start_of s) d in
    let r = patterns_of (map start_of ss) ds ++ rest in
    rw (append_assoc, take_at q r 7 (length_in s d p.0), drop_at q r 7 (length_in s d p.0), digit_back s d p.0, read_back_lem ss ts ds rest (omega arith) p.1) refl

read_run_lem : (ss : List NumberSet) (ds rest : List ℕ) → length ss ≤ length ds → Decimal ds → read_in (map start_of ss) (patterns_of (map start_of ss) ds ++ rest) ≡ take (length ss) ds
unfolding read_in
read_run_lem ss ds rest h p = simp append-nil at (read_back_lem ss [] ds rest h p)

sets_back : (ss : List NumberSet) (ds rest : List ℕ) → length ss ≤ length ds → all_true (map is_left ss) ≡ true → Decimal ds →
    sets_in (length ss) (patterns_of (map start_of ss) ds ++ rest) ≡ map start_of ss
unfolding sets_in patterns_of Each
sets_back [] ds rest h l p = refl
sets_back (s ∷ ss) [] rest h l p = absurd (omega arith)
sets_back (s ∷ ss) (d ∷ ds) rest h l p =
    let q = pattern_of (start_of s) d in
    let r = patterns_of (map start_of ss) ds ++ rest in
    let t = both_true (is_left s) (all_true (map is_left ss)) l in
    rw (append_assoc, take_at q r 7 (length_in s d p.0), drop_at q r 7 (length_in s d p.0), set_back s d t.0 p.0, sets_back ss ds rest (omega arith) t.1 p.1) refl

-- right of the centre the check digit is the last
read_right : (ss : List NumberSet) (ds : List ℕ) (k : ℕ) (rest : List ℕ) → length ss ≤ length ds → Decimal ds → k < 10 →
    read_in (map start_of ss ++ (right ∷ [])) (patterns_of (map start_of ss) ds ++ (pattern_of right k ++ rest)) ≡ take (length ss) ds ++ (k ∷ [])
unfolding read_in
read_right ss ds k rest h p b =
    read_back_lem ss (right ∷ []) ds (pattern_of right k ++ rest) h p ∙ rw (take_at (pattern_of right k) rest 7 (length_in C k b), digit_back C k b) refl

-- WHAT A CARD'S MODULES ARE READ AS: its digits, with GS1's check digit in the last place
from_centre : (ds : List ℕ) (n at : ℕ) → length (left_of ds) ≡ n → at ≡ 36 + (n + 5) →
    drop at (modules_of ds) ≡ right_of ds ++ (pattern_of right (check_digit_of ds) ++ (guard ++ lights 32))
from_centre ds n at e f =
    rw (f, ← drop-drop (n + 5) 36 (modules_of ds), from_left ds, ← drop-drop 5 n (left_of ds ++ inner ds), drop_at (left_of ds) (inner ds) n e) (from_right_lem ds)

module _ (ds : List ℕ) (p : Decimal ds) where
  pub read8 : length ds ≡ 8 → shown8 (modules_of ds) ≡ checked 7 ds
  unfolding shown8 checked
  read8 e =
      let ne : length ds ≡ 13 → ⊥ = λ f. omega arith in
      let n : length (left_of ds) ≡ 28 = length_left_short ds p ne ∙ rw e refl in
      let a : read_in (replicate 4 left_odd) (drop 36 (modules_of ds)) ≡ take 4 ds = rw (from_left ds, left_short ds ne) (read_run_lem (replicate 4 A) ds (inner ds) (omega arith) p) in
      let b : read_in (replicate 4 right) (drop 69 (modules_of ds)) ≡ take 3 (drop 4 ds) ++ (check_digit_of ds ∷ []) =
      rw (from_centre ds 28 69 n refl, right_short ds ne) (read_right (replicate 3 C) (drop 4 ds) (check_digit_of ds) (guard ++ lights 32) (rw length-drop (omega arith)) (decimal_drop 4 ds p) (check_below ds)) in
      let k = check_digit (take 7 ds) ∷ [] in
      rw (a, b, symbol8_check ds e) (sym (append_assoc (take 4 ds) (take 3 (drop 4 ds)) k) ∙ ap (λ (x : List ℕ). x ++ k) (sym (take-add 4 3 ds)))

  pub read13 : length ds ≡ 13 → shown13 (modules_of ds) ≡ checked 12 ds
  unfolding shown13 checked
  read13 e =
      let d = get_or ds 0 0 in
      let h = first_decimal ds p in
      let g = parity_gs1 d h in
      let ss = left_sets d in
      let m : length ss ≤ length (drop 1 ds) = rw (length-drop, g.1, e) (omega arith) in
      let l : drop 36 (modules_of ds) ≡ patterns_of (map start_of ss) (drop 1 ds) ++ inner ds = rw (← left_long ds e p) (from_left ds) in
      let s : sets_in 6 (drop 36 (modules_of ds)) ≡ parity_of d = rw (l, ← g.1, g.0) (sets_back ss (drop 1 ds) (inner ds) m (row_back d h).1 (decimal_drop 1 ds p)) in
      let a : read_in (parity_of d) (drop 36 (modules_of ds)) ≡ take 6 (drop 1 ds) = rw (l, g.0, ← g.1) (read_run_lem ss (drop 1 ds) (inner ds) m (decimal_drop 1 ds p)) in
      let b : read_in (replicate 6 right) (drop 83 (modules_of ds)) ≡ take 5 (drop 7 ds) ++ (check_digit_of ds ∷ []) =
      rw (from_centre ds 42 83 (length_left_long ds p e) refl, right_long ds e) (read_right (replicate 5 C) (drop 7 ds) (check_digit_of ds) (guard ++ lights 32) (rw length-drop (omega arith)) (decimal_drop 7 ds p) (check_below ds)) in
      let k = check_digit (take 12 ds) ∷ [] in
      rw (s, (row_back d h).0, a, b, symbol13_check ds e)
      (ap (λ (x : List ℕ). d ∷ x) (sym (append_assoc (take 6 (drop 1 ds)) (take 5 (drop 7 ds)) k)) ∙ ap (λ (x : List ℕ). x ++ k) (sym (twelve ds e)))
