-- What holds of the modules of every card: how many, that each is light or dark, and zeros past them.
-- Assumes nothing.
use Rattle.std.specs.Prelude.{◌≡◌, refl, Bool, true, false, ◌||◌, List, [], ◌∷◌, ℕ, ◌+◌, ◌*◌, ◌≤◌, ◌<◌, eqb, ltb, length, get_or, drop, replicate}
use Rattle.std.proofs.Math.Nat.{min-le_left}
use Rattle.std.proofs.Common.{arith, length-append, length-take, eqb-true}
use Rattle.std.proofs.lemmas.List.{length-replicate}
use Rattle.laws.proofs.ChoiceLaws.{pick_all}
use Rattle.laws.specs.Lists.{padded, every, zeros_from, Bytes}
use Rattle.laws.proofs.ListsLaws.{length_padded, every_append, every_take, every_drop, every_replicate, every_padded, every_each, padded_zeros}
use Rattle.barcode.specs.declared.Modules.{Modules}
use Rattle.barcode.specs.Barcode.{is_module, patterns, pattern_of, patterns_of, parity_of, left_of, right_of, left_odd, right, lights, guard, centre, modules_of, modules_in, Coded, encoded, refused, barcode_of}
use Rattle.digits.specs.Digits.{is_ean13, check_digit_of, digits_of}

-- the length of each part
length_pattern : (s d : ℕ) → length (pattern_of s d) ≤ 7
unfolding pattern_of
length_pattern s d = rw length-take (min-le_left 7 _)

pub length_parity : (d : ℕ) → length (parity_of d) ≤ 6
unfolding parity_of
length_parity d = rw length-take (min-le_left 6 _)

length_patterns : (ss ds : List ℕ) → length (patterns_of ss ds) ≤ 7 * length ss
unfolding patterns_of
length_patterns [] ds = omega arith
length_patterns (s ∷ ss) [] = omega arith
length_patterns (s ∷ ss) (d ∷ ds) = rw length-append (omega (arith, length_pattern s d, length_patterns ss ds))

length_left : (ds : List ℕ) → length (left_of ds) ≤ 42
unfolding left_of
length_left ds =
    pick_all (λ (l : List ℕ). length l ≤ 42) (is_ean13 ds) _ _
    (λ t. omega (arith, length_patterns (parity_of (get_or ds 0 0)) (drop 1 ds), length_parity (get_or ds 0 0)))
    (λ t. omega (arith, length_patterns (replicate 4 left_odd) ds))

length_right : (ds : List ℕ) → length (right_of ds) ≤ 35
unfolding right_of
length_right ds =
    pick_all (λ (l : List ℕ). length l ≤ 35) (is_ean13 ds) _ _
    (λ t. omega (arith, length_patterns (replicate 5 right) (drop 7 ds)))
    (λ t. omega (arith, length_patterns (replicate 3 right) (drop 4 ds)))

length_lights : (n : ℕ) → length (lights n) ≡ n
unfolding lights
length_lights n = length-replicate n 8

length_guard : length guard ≡ 3
unfolding guard
length_guard = refl

length_centre : length centre ≡ 5
unfolding centre
length_centre = refl

pub length_modules : (ds : List ℕ) → length (modules_of ds) ≤ 160
unfolding modules_of
length_modules ds =
    simp (length-append, length_lights, length_guard, length_centre)
    (omega (arith, length_left ds, length_right ds, length_pattern right (check_digit_of ds)))

-- each module of each part is light or dark
every_table : every is_module patterns ≡ true
unfolding every patterns
every_table = refl

every_pattern : (s d : ℕ) → every is_module (pattern_of s d) ≡ true
unfolding pattern_of
every_pattern s d = every_take is_module 7 (drop ((s + d) * 7) patterns) (every_drop is_module ((s + d) * 7) patterns every_table)

every_patterns : (ss ds : List ℕ) → every is_module (patterns_of ss ds) ≡ true
unfolding patterns_of every
every_patterns [] ds = refl
every_patterns (s ∷ ss) [] = refl
every_patterns (s ∷ ss) (d ∷ ds) = rw (every_append is_module (pattern_of s d) (patterns_of ss ds), every_pattern s d) (every_patterns ss ds)

every_left : (ds : List ℕ) → every is_module (left_of ds) ≡ true
unfolding left_of
every_left ds = pick_all (λ (l : List ℕ). every is_module l ≡ true) (is_ean13 ds) _ _ (λ t. every_patterns (parity_of (get_or ds 0 0)) (drop 1 ds)) (λ t. every_patterns (replicate 4 left_odd) ds)

every_right : (ds : List ℕ) → every is_module (right_of ds) ≡ true
unfolding right_of
every_right ds = pick_all (λ (l : List ℕ). every is_module l ≡ true) (is_ean13 ds) _ _ (λ t. every_patterns (replicate 5 right) (drop 7 ds)) (λ t. every_patterns (replicate 3 right) (drop 4 ds))

every_lights : (n : ℕ) → every is_module (lights n) ≡ true
unfolding lights
every_lights n = every_replicate is_module n 8 refl

every_guard : every is_module guard ≡ true
unfolding every guard
every_guard = refl

every_centre : every is_module centre ≡ true
unfolding every centre
every_centre = refl

pub every_module : (ds : List ℕ) → every is_module (modules_of ds) ≡ true
unfolding modules_of
every_module ds = simp (every_append, every_left, every_right, every_pattern, every_lights, every_guard, every_centre)

-- what a state asks of the modules that it holds
pub record Shown (m : Modules) : Type 0 where
  pub counted : m.count ≤ 160
  pub each : every is_module m.modules ≡ true
  pub past : zeros_from m.count m.modules ≡ true
  pub typed : Bytes 160 m.modules

module_byte : (x : ℕ) → is_module x ≡ true → x < 256
module_byte x h = go (eqb x 8) refl h
  where
    go : (t : Bool) → eqb x 8 ≡ t → (t || eqb x 0) ≡ true → x < 256
    go true e k = omega (arith, eqb-true x 8 e)
    go false e k = omega (arith, eqb-true x 0 k)

pub modules_shown_lem : (ds : List ℕ) → Shown (modules_in (modules_of ds))
unfolding modules_in
modules_shown_lem ds =
    let e = every_padded is_module 160 (modules_of ds) refl (every_module ds) in
    record {
      counted = length_modules ds;
      each = e;
      past = padded_zeros 160 (modules_of ds);
      typed = record { long = length_padded 160 (modules_of ds) (length_modules ds); small = every_each is_module (λ x. x < 256) module_byte (padded 160 (modules_of ds)) e };
    }

every_nothing : every is_module [] ≡ true
unfolding every
every_nothing = refl

nothing_shown : Shown (modules_in [])
unfolding modules_in
nothing_shown =
    let e = every_padded is_module 160 [] refl every_nothing in
    record {
      counted = omega arith;
      each = e;
      past = padded_zeros 160 [];
      typed = record { long = length_padded 160 [] (omega arith); small = every_each is_module (λ x. x < 256) module_byte (padded 160 []) e };
    }

pub barcode_shown : (number count : ℕ) → Shown (barcode_of number count).modules
unfolding barcode_of encoded refused
barcode_shown number count =
    pick_all (λ (b : Coded). Shown b.modules) (ltb 20 count) (refused 5) (encoded (digits_of number count)) (λ t. nothing_shown) (λ t. modules_shown_lem (digits_of number count))

-- all modules stand in the array
pub shown_fit : (m : Modules) → Shown m → m.count ≤ length m.modules
shown_fit m s = omega (arith, s.counted, s.typed.long)
