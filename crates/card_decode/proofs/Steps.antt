-- Laws of what the code does: a comparison is the test of the definition, the reading loop's turns, and the answer.
-- Assumes nothing.
use Rattle.std.proofs.Common.{◌≡◌, refl, sym, ap, ◌∙◌, Bool, true, false, ◌&&◌, List, [], ◌∷◌, ◌++◌, ℕ, zero, suc, ◌+◌, ◌*◌, ◌≤◌, ◌<◌, eqb, length, get_or, take, drop, map, replicate, arith, add-one, drop-cons, drop-drop, drop_of_length-le}
use Rattle.std.specs.Array.{IsMapOf, MapsFrom}
use Rattle.std.specs.Cmp.Lexicographic.{pointwise}
use Rattle.std.specs.Fn.{Called}
use denote.Param.Members.{Mut}
use Rattle.laws.specs.Choice.{pick}
use Rattle.laws.specs.Append.{append, append_all}
use Rattle.laws.proofs.AppendLaws.{append_first, append_two, append_blank}
use Rattle.laws.specs.Lists.{same, blank}
use Rattle.laws.proofs.ListsLaws.{take_padded}
use Rattle.digits.specs.declared.Digits.{Digits}
use Rattle.digits.specs.Digits.{digits_in}
use Rattle.barcode.specs.Barcode.{left_odd, left_even, right, pattern_of, modules_of}
use Rattle.card_decode.specs.Decode.{Decoded, digit_in, set_of, read_in, leading_of, sets_in, shown8, shown13, accept, refuse, decoded_of}
use Rattle.card_decode.proofs.ReadLaws.{length_shown8, length_shown13}
use Rattle.card_decode.proofs.DecodeLaws.{first_passed, second_passed, none_passed}

-- the comparison of two slices is the definition's test
pub same_pointwise : (a b : List ℕ) → pointwise eqb a b ≡ same a b
unfolding same
same_pointwise [] [] = refl
same_pointwise [] (y ∷ b) = refl
same_pointwise (x ∷ a) [] = refl
same_pointwise (x ∷ a) (y ∷ b) = ap (λ (t : Bool). eqb x y && t) (same_pointwise a b)

-- and so with an entry of a table
pub same_entry : (p q entry : List ℕ) (r t : Bool) → r ≡ pointwise eqb p q → r ≡ t → q ≡ entry → same p entry ≡ t
same_entry p q entry r t h i j = ap (same p) (sym j) ∙ sym (same_pointwise p q) ∙ sym h ∙ i

-- the set of a left pattern, by the test of the left even set
pub set_by : (p : List ℕ) (d : ℕ) (t : Bool) → d ≡ digit_in left_even p → same p (pattern_of left_even d) ≡ t → pick t left_even left_odd ≡ set_of p
unfolding set_of
set_by p d t e h = rw (← e, h) refl

-- the loop that adds digits: a turn, and the end
module _ (s : List ℕ × ℕ) (ss l : List ℕ) (at i : ℕ) where
  pub read_more : i < length ss →
      append_all 20 (append 20 s (digit_in (get_or ss i 0) (take 7 (drop (at + 7 * i) l)))) (read_in (drop (i + 1) ss) (drop (at + 7 * (i + 1)) l)) ≡
      append_all 20 s (read_in (drop i ss) (drop (at + 7 * i) l))
  unfolding read_in append_all
  read_more h =
      let a : at + 7 * i + 7 ≡ at + 7 * (i + 1) = omega arith in
      rw (drop-cons ss i 0 h, drop-drop 7 (at + 7 * i) l, a, add-one i)

  pub read_end : length ss ≤ i → append_all 20 s (read_in (drop i ss) (drop (at + 7 * i) l)) ≡ s
  unfolding read_in append_all
  read_end h = rw (drop_of_length-le ss h) refl

-- what `map` over an array gives, where no call changes the closure
module _ {F : Type 0} (g : Mut F (ℕ × Unit {0}) ℕ) (h : ℕ → ℕ) (f : F) (xs ys : List ℕ) where
  mapped_from : (n i : ℕ) → MapsFrom g f xs ys i n → ((x y : ℕ) (q : F) → Called g f (x, tt) y q → (q ≡ f) × (y ≡ h x)) →
      length xs ≡ i + n → length ys ≡ i + n → drop i ys ≡ map h (drop i xs)
  mapped_from zero i m keeps a b =
      let k : length xs ≤ i = omega arith in
      let j : length ys ≤ i = omega arith in
      rw (drop_of_length-le xs k, drop_of_length-le ys j) refl
  mapped_from (suc n) i m keeps a b =
      let c = keeps m.1 m.2 m.0 m.5 in
      let e = mapped_from n (i + 1) (rw c.0 at m.6) keeps (omega arith) (omega arith) in
      let k : i < length xs = omega arith in
      let j : i < length ys = omega arith in
      rw (drop-cons xs i m.1 k, drop-cons ys i m.2 j, m.3.0, m.4.0, c.1) (ap (λ (t : List ℕ). h m.1 ∷ t) (rw add-one at e))

  pub mapped : (n : ℕ) → IsMapOf g f xs ys n → length xs ≡ n → ((x y : ℕ) (q : F) → Called g f (x, tt) y q → (q ≡ f) × (y ≡ h x)) → ys ≡ map h xs
  mapped n m e keeps = mapped_from n 0 m.each keeps (omega arith) (omega (arith, m.long))

-- the sets of six digits, one after the other
pub six_sets : (l : List ℕ) →
    set_of (take 7 (drop 36 l)) ∷ set_of (take 7 (drop 43 l)) ∷ set_of (take 7 (drop 50 l)) ∷ set_of (take 7 (drop 57 l)) ∷ set_of (take 7 (drop 64 l)) ∷ set_of (take 7 (drop 71 l)) ∷ [] ≡ sets_in 6 (drop 36 l)
unfolding sets_in
six_sets l = rw (drop-drop 7 36 l, drop-drop 7 43 l, drop-drop 7 50 l, drop-drop 7 57 l, drop-drop 7 64 l) refl

-- two runs of digits, added to no digits one after the other
pub added8 : (s : List ℕ × ℕ) (l : List ℕ) → s ≡ append_all 20 (append_all 20 (blank 20, 0) (read_in (replicate 4 left_odd) (drop 36 l))) (read_in (replicate 4 right) (drop 69 l)) →
    record { len = s.1; digit = s.0 } ≡ digits_in (shown8 l)
unfolding digits_in shown8
added8 s l h =
    let a = read_in (replicate 4 left_odd) (drop 36 l) in
    let b = read_in (replicate 4 right) (drop 69 l) in
    rw (h, ← append_two 20 (blank 20, 0) a b, append_blank 20 (a ++ b) (omega (arith, length_shown8 l))) refl

pub added13 : (s : List ℕ × ℕ) (l : List ℕ) →
    s ≡ append_all 20 (append_all 20 (append 20 (blank 20, 0) (leading_of (sets_in 6 (drop 36 l)))) (read_in (sets_in 6 (drop 36 l)) (drop 36 l))) (read_in (replicate 6 right) (drop 83 l)) →
    record { len = s.1; digit = s.0 } ≡ digits_in (shown13 l)
unfolding digits_in shown13
added13 s l h =
    let x = leading_of (sets_in 6 (drop 36 l)) in
    let a = read_in (sets_in 6 (drop 36 l)) (drop 36 l) in
    let b = read_in (replicate 6 right) (drop 83 l) in
    rw (h, ← append_two 20 (append 20 (blank 20, 0) x) a b, ← append_first 20 (blank 20, 0) x (a ++ b), append_blank 20 (x ∷ (a ++ b)) (omega (arith, length_shown13 l))) refl

-- the answer, by the two tests
take_digits : (d : Digits) (x : List ℕ) → d ≡ digits_in x → take d.len d.digit ≡ x
unfolding digits_in
take_digits d x e = rw (e, take_padded) refl

yields_digits : (l x : List ℕ) (d : Digits) (r t : Bool) → d ≡ digits_in x → r ≡ same (modules_of (take d.len d.digit)) l → r ≡ t → same (modules_of x) l ≡ t
yields_digits l x d r t ed er et = rw (take_digits d x ed, et) at (sym er)

module _ (l : List ℕ) (d : Digits) (r : Bool) (ed : d ≡ digits_in (shown8 l)) (er : r ≡ same (modules_of (take d.len d.digit)) l) where
  pub decoded8 : r ≡ true → ◌≡◌ {A = Decoded} (record { digits = d; refusal = 0 }) (decoded_of l)
  unfolding accept
  decoded8 t = ap (λ (x : Digits). record { digits = x; refusal = 0 }) ed ∙ sym (first_passed l (yields_digits l (shown8 l) d r true ed er t))

  module _ (e : Digits) (s : Bool) (ee : e ≡ digits_in (shown13 l)) (es : s ≡ same (modules_of (take e.len e.digit)) l) where
    pub decoded13 : r ≡ false → s ≡ true → ◌≡◌ {A = Decoded} (record { digits = e; refusal = 0 }) (decoded_of l)
    unfolding accept
    decoded13 f t =
        ap (λ (x : Digits). record { digits = x; refusal = 0 }) ee ∙
        sym (second_passed l (yields_digits l (shown8 l) d r false ed er f) (yields_digits l (shown13 l) e s true ee es t))

    pub decoded_none : r ≡ false → s ≡ false → ◌≡◌ {A = Decoded} (record { digits = digits_in []; refusal = 16 }) (decoded_of l)
    unfolding refuse
    decoded_none f g = sym (none_passed l (yields_digits l (shown8 l) d r false ed er f) (yields_digits l (shown13 l) e s false ee es g))
