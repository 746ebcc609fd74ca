-- THE THEOREM ON EQUAL MODULES: two cards have the same modules exactly if they are alike. `alike` has it of any two lists of decimal
-- digits, `cards_alike` of the digits of any two cards, `answers_alike` of what the checked call gives back; `alike_short` and
-- `short_alike` are the paper's bracket on cards with fewer than seven digits. Assumes nothing.
use Rattle.std.specs.Prelude.{◌≡◌, refl, ◌↔◌, ◌⊎◌, Bool, true, false, List, [], ◌∷◌, ◌++◌, map, ℕ, zero, suc, ◌+◌, ◌-◌, ◌%◌, ◌≤◌, ◌<◌, min, length, get_or, take, drop, replicate}
use Rattle.std.proofs.Common.{sym, ap, ◌∙◌, inl, inr, zero-add, suc-add, arith, length-take, length-drop, take_all, take-add, get_or-take, eq-eqb, ne_eqb, le-ltb}
use Rattle.std.proofs.Math.Decide.{ℕ_discrete}
use Rattle.std.proofs.Math.Seq.{take-nil}
use Rattle.laws.specs.Choice.{pick}
use Rattle.laws.specs.Lists.{padded}
use Rattle.laws.proofs.ListsLaws.{take_padded}
use Rattle.digits.specs.Digits.{weighed, weights, is_ean13, check_digit_of, digits_of}
use Rattle.laws.proofs.DecimalLaws.{Decimal}
use Rattle.digits.specs.DigitsLaws.{digits_decimal}
use Rattle.barcode.specs.Barcode.{left_odd, right, pattern_of, patterns_of, parity_of, left_of, right_of, lights, guard, centre, modules_of, modules_in, encoded, barcode_of}
use Rattle.barcode.specs.declared.Modules.{Modules}
use Rattle.barcode.proofs.BarcodeLaws.{length_parity}
use Rattle.barcode.proofs.PatternLaws.{row_determines}
use Rattle.gs1.specs.Gs1.{NumberSet, left_sets}
use Rattle.gs1.specs.Gs1.NumberSet.{A, C}
use Rattle.gs1.proofs.CharacterLaws.{start_of, parity_gs1}
use Rattle.card_alike.specs.Alike.{Alike}
use Rattle.card_alike.specs.Alike.Alike.{long, short}
use Rattle.card_alike.proofs.RunLaws.{parts_same, run_determines}
use Rattle.card_alike.proofs.ModulesLaws.{decimal_drop, first_decimal, left_long, right_long, left_short, right_short, lengths, length_left_long, length_left_short, modules_long, modules_short, inner, from_left, from_right_lem, twelve}

-- THE SAME MODULES ARE OF CARDS THAT ARE ALIKE
module _ (ds es : List ℕ) (h : Decimal ds) (k : Decimal es) (e : modules_of ds ≡ modules_of es) where
  halves : length (left_of ds) ≡ length (left_of es) → length (right_of ds) ≡ length (right_of es) → (left_of ds ≡ left_of es) × (right_of ds ≡ right_of es)
  halves l r =
      let p = parts_same (left_of ds) (inner ds) (left_of es) (inner es) l (sym (from_left ds) ∙ ap (λ (m : List ℕ). drop 36 m) e ∙ from_left es) in
      let q = parts_same (right_of ds) _ (right_of es) _ r (sym (from_right_lem ds) ∙ ap (λ (m : List ℕ). drop 5 m) p.1 ∙ from_right_lem es) in
      (p.0, q.0)

  same_long : length ds ≡ 13 → length es ≡ 13 → take 12 ds ≡ take 12 es
  same_long a b =
      let m = length_left_long ds h a in
      let n = length_left_long es k b in
      let w : length (right_of ds) ≡ length (right_of es) = omega (arith, lengths ds, lengths es, ap length e) in
      let p = halves (omega arith) w in
      let ss = left_sets (get_or ds 0 0) in
      let ts = left_sets (get_or es 0 0) in
      let s6 = parity_gs1 (get_or ds 0 0) (first_decimal ds h) in
      let t6 = parity_gs1 (get_or es 0 0) (first_decimal es k) in
      let q = run_determines ss ts (drop 1 ds) (drop 1 es) (s6.1 ∙ sym t6.1) (decimal_drop 1 ds h) (decimal_drop 1 es k) (sym (left_long ds a h) ∙ p.0 ∙ left_long es b k) in
      let r = run_determines (replicate 5 C) (replicate 5 C) (drop 7 ds) (drop 7 es) refl (decimal_drop 7 ds h) (decimal_drop 7 es k) (sym (right_long ds a) ∙ p.1 ∙ right_long es b) in
      let u : ss ≡ ts = sym (take_all (length (drop 1 ds)) ss (rw length-drop (omega (arith, s6.1)))) ∙ q.0 ∙ take_all (length (drop 1 es)) ts (rw length-drop (omega (arith, t6.1))) in
      let o : get_or ds 0 0 ≡ get_or es 0 0 = row_determines _ _ (first_decimal ds h) (first_decimal es k) (s6.0 ∙ ap (λ (l : List NumberSet). map start_of l) u ∙ sym t6.0) in
      let x : take 6 (drop 1 ds) ≡ take 6 (drop 1 es) = rw (s6.1, t6.1) at q.1 in
      twelve ds a ∙ rw (o, x, r.1) (sym (twelve es b))

  same_short : (length ds ≡ 13 → ⊥) → (length es ≡ 13 → ⊥) → take 7 ds ≡ take 7 es
  same_short a b =
      let m = length_left_short ds h a in
      let n = length_left_short es k b in
      let v : length (left_of ds) ≡ length (left_of es) = omega (arith, modules_short ds h a, modules_short es k b, ap length e) in
      let w : length (right_of ds) ≡ length (right_of es) = omega (arith, lengths ds, lengths es, ap length e) in
      let p = halves v w in
      let q = run_determines (replicate 4 A) (replicate 4 A) ds es refl h k (sym (left_short ds a) ∙ p.0 ∙ left_short es b) in
      let r = run_determines (replicate 3 C) (replicate 3 C) (drop 4 ds) (drop 4 es) refl (decimal_drop 4 ds h) (decimal_drop 4 es k) (sym (right_short ds a) ∙ p.1 ∙ right_short es b) in
      take-add 4 3 ds ∙ rw (q.1, r.1) (sym (take-add 4 3 es))

  pub then_alike : Alike ds es
  then_alike = go (ℕ_discrete (length ds) 13) (ℕ_discrete (length es) 13)
    where
      go : Dec (length ds ≡ 13) → Dec (length es ≡ 13) → Alike ds es
      go (yes a) (yes b) = long a b (same_long a b)
      go (yes a) (no b) = absurd (omega (arith, modules_long ds h a, modules_short es k b, ap length e))
      go (no a) (yes b) = absurd (omega (arith, modules_short ds h a, modules_long es k b, ap length e))
      go (no a) (no b) = short a b (same_short a b)

-- CARDS THAT ARE ALIKE HAVE THE SAME MODULES: they go by the first twelve digits or by the first seven, and by which of the two
modules_by : Bool → List ℕ → List ℕ
modules_by t ds =
    lights 33 ++ (guard ++ (pick t (patterns_of (parity_of (get_or ds 0 0)) (drop 1 ds)) (patterns_of (replicate 4 left_odd) ds) ++ (centre ++
    (pick t (patterns_of (replicate 5 right) (drop 7 ds)) (patterns_of (replicate 3 right) (drop 4 ds)) ++
    (pattern_of right ((10 - weighed (weights t) ds % 10) % 10) ++ (guard ++ lights 32))))))

modules_by_lem : (ds : List ℕ) (t : Bool) → is_ean13 ds ≡ t → modules_of ds ≡ modules_by t ds
unfolding modules_of left_of right_of check_digit_of modules_by
modules_by_lem ds t e = rw e refl

patterns_take : (n : ℕ) (ss ds : List ℕ) → length ss ≤ n → patterns_of ss (take n ds) ≡ patterns_of ss ds
unfolding patterns_of
patterns_take n [] ds h = refl
patterns_take zero (s ∷ ss) ds h = absurd (omega arith)
patterns_take (suc n) (s ∷ ss) [] h = refl
patterns_take (suc n) (s ∷ ss) (d ∷ ds) h = rw (patterns_take n ss ds (omega arith)) refl

weighed_take : (n : ℕ) (ws ds : List ℕ) → length ws ≤ n → weighed ws (take n ds) ≡ weighed ws ds
unfolding weighed
weighed_take n [] ds h = refl
weighed_take zero (w ∷ ws) ds h = absurd (omega arith)
weighed_take (suc n) (w ∷ ws) [] h = refl
weighed_take (suc n) (w ∷ ws) (d ∷ ds) h = rw (weighed_take n ws ds (omega arith)) refl

drop_take : (k n : ℕ) (ds : List ℕ) → drop k (take (k + n) ds) ≡ take n (drop k ds)
drop_take zero n ds = rw zero-add refl
drop_take (suc k) n [] = rw (take-nil (suc k + n), take-nil n) refl
drop_take (suc k) n (d ∷ ds) = rw suc-add (drop_take k n ds)

front_long : (ds : List ℕ) → modules_by true (take 12 ds) ≡ modules_by true ds
unfolding modules_by weights
front_long ds =
    rw (get_or-take 12 ds 0 0 (omega arith), drop_take 1 11 ds, drop_take 7 5 ds, patterns_take 11 (parity_of (get_or ds 0 0)) (drop 1 ds) (omega (arith, length_parity (get_or ds 0 0))), patterns_take 5 (replicate 5 right) (drop 7 ds) (omega arith), weighed_take 12 (weights true) ds (omega arith)) refl

front_short : (ds : List ℕ) → modules_by false (take 7 ds) ≡ modules_by false ds
unfolding modules_by weights
front_short ds =
    rw (drop_take 4 3 ds, patterns_take 7 (replicate 4 left_odd) ds (omega arith), patterns_take 3 (replicate 3 right) (drop 4 ds) (omega arith), weighed_take 7 (weights false) ds (omega arith)) refl

pub alike_then : (ds es : List ℕ) → Alike ds es → modules_of ds ≡ modules_of es
alike_then ds es (long a b e) =
    modules_by_lem ds true (eq-eqb _ _ a) ∙ sym (front_long ds) ∙ ap (λ (l : List ℕ). modules_by true l) e ∙ front_long es ∙ sym (modules_by_lem es true (eq-eqb _ _ b))
alike_then ds es (short a b e) =
    modules_by_lem ds false (ne_eqb _ _ a) ∙ sym (front_short ds) ∙ ap (λ (l : List ℕ). modules_by false l) e ∙ front_short es ∙ sym (modules_by_lem es false (ne_eqb _ _ b))

-- THE THEOREM
pub alike : (ds es : List ℕ) → Decimal ds → Decimal es → (modules_of ds ≡ modules_of es) ↔ Alike ds es
alike ds es h k = ((λ e. then_alike ds es h k e), alike_then ds es)

-- the bracket: cards with fewer than seven digits agree in all digits and in length
pub alike_short : (ds es : List ℕ) → (length ds < 7) ⊎ (length es < 7) → (take 7 ds ≡ take 7 es) ↔ (ds ≡ es)
alike_short ds es s = ((λ e. go s e), λ e. ap (λ (l : List ℕ). take 7 l) e)
  where
    go : (length ds < 7) ⊎ (length es < 7) → take 7 ds ≡ take 7 es → ds ≡ es
    go (inl h) e =
        let n : min 7 (length ds) ≡ min 7 (length es) = sym (length-take 7 ds) ∙ ap length e ∙ length-take 7 es in
        sym (take_all 7 ds (omega arith)) ∙ e ∙ take_all 7 es (omega arith)
    go (inr h) e =
        let n : min 7 (length ds) ≡ min 7 (length es) = sym (length-take 7 ds) ∙ ap length e ∙ length-take 7 es in
        sym (take_all 7 ds (omega arith)) ∙ e ∙ take_all 7 es (omega arith)

-- so without 13 digits, and one of them with fewer than seven: the same modules exactly if the same digits
pub short_alike : (ds es : List ℕ) → Decimal ds → Decimal es → (length ds ≡ 13 → ⊥) → (length es ≡ 13 → ⊥) → (length ds < 7) ⊎ (length es < 7) →
    (modules_of ds ≡ modules_of es) ↔ (ds ≡ es)
short_alike ds es h k a b s = ((λ e. (alike_short ds es s).0 (same_short ds es h k e a b)), λ e. ap modules_of e)

-- of any two cards
pub cards_alike : (number count number' count' : ℕ) → count ≤ 20 → count' ≤ 20 →
    (modules_of (digits_of number count) ≡ modules_of (digits_of number' count')) ↔ Alike (digits_of number count) (digits_of number' count')
cards_alike number count number' count' h k = alike _ _ (digits_decimal number count) (digits_decimal number' count')

-- of what the checked call gives back for any two cards
modules_same : (a b : List ℕ) → modules_in a ≡ modules_in b → a ≡ b
unfolding modules_in
modules_same a b e =
    let n : length a ≡ length b = ap (λ (m : Modules). m.count) e in
    let p : padded 160 a ≡ padded 160 b = ap (λ (m : Modules). m.modules) e in
    sym (take_padded 160 a) ∙ rw (n, p) (take_padded 160 b)

shown_by_lem : (number count : ℕ) → count ≤ 20 → (barcode_of number count).modules ≡ modules_in (modules_of (digits_of number count))
unfolding barcode_of encoded
shown_by_lem number count h = rw (le-ltb 20 count h) refl

pub answers_alike : (number count number' count' : ℕ) → count ≤ 20 → count' ≤ 20 →
    ((barcode_of number count).modules ≡ (barcode_of number' count').modules) ↔ Alike (digits_of number count) (digits_of number' count')
answers_alike number count number' count' h k =
    let a = cards_alike number count number' count' h k in (
      (λ e. a.0 (modules_same _ _ (sym (shown_by_lem number count h) ∙ e ∙ shown_by_lem number' count' k))),
      λ s. shown_by_lem number count h ∙ ap modules_in (a.1 s) ∙ sym (shown_by_lem number' count' k),
    )
