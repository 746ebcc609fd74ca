-- THE THEOREMS OF THE CHECK. `accepted`: what is not refused is 8 or 13 digits, GS1's check digit last, of a card that yields the list.
-- `not_refused`: the list of every card of 8 or 13 digits is accepted, with its digits and the right check digit. Together, `accepted_is`
-- and `refused_is`: a list is accepted exactly if such a card yields it, and refused with 16 exactly if none does.
-- `accepted_length`: only lists of 132 and of 160 modules are accepted. Assumes nothing.
use Rattle.std.specs.Prelude.{◌≡◌, refl, ◌↔◌, ◌⊎◌, Bool, true, false, List, [], ◌∷◌, ◌++◌, ℕ, ◌+◌, ◌-◌, ◌^◌, ◌≤◌, ◌<◌, length, take}
use Rattle.std.proofs.Common.{sym, ap, ◌∙◌, inl, inr, lt_of_lt_of_le, arith, length-append, length-take, take_all, length-take-le}
use Rattle.std.proofs.Math.Decide.{dec_lt}
use Rattle.std.proofs.Math.Seq.{take_at}
use Rattle.laws.specs.Choice.{pick}
use Rattle.laws.proofs.ListsLaws.{same_refl, same_true}
use Rattle.digits.specs.Digits.{digits_of}
use Rattle.laws.specs.Decimal.{value_from}
use Rattle.laws.proofs.DecimalLaws.{Decimal, value_below}
use Rattle.digits.specs.DigitsLaws.{digits_decimal, digits_of_value}
use Rattle.barcode.specs.Barcode.{modules_of}
use Rattle.gs1.specs.Gs1.{check_digit, checked}
use Rattle.card_alike.specs.Alike.Alike.{long, short}
use Rattle.card_alike.proofs.ModulesLaws.{modules_long, modules_short}
use Rattle.card_alike.proofs.AlikeLaws.{alike_then}
use Rattle.card_decode.specs.Decode.{Decoded, shown8, shown13, accept, refuse, is_yielded, decoded_of, Yields}
use Rattle.card_decode.proofs.ReadLaws.{length_shown8, length_shown13, shown8_decimal, shown13_decimal, read8, read13}

-- what an accepted list is
pub record Accepted (l : List ℕ) : Type 0 where
  pub n : ℕ
  pub ds : List ℕ
  -- the digits that are given back, 8 or 13
  pub answer : decoded_of l ≡ accept ds
  pub size : (n ≡ 8) ⊎ (n ≡ 13)
  pub count : length ds ≡ n
  pub decimal : Decimal ds
  -- the last one is GS1's check digit of those before it
  pub last : ds ≡ take (n - 1) ds ++ (check_digit (take (n - 1) ds) ∷ [])
  -- the card of that number and count has these digits and yields the list
  pub small : value_from 10 0 ds < 10 ^ n
  pub card : digits_of (value_from 10 0 ds) n ≡ ds
  pub yields : modules_of ds ≡ l

-- THE TWO TESTS OF THE DEFINITION, and the answer by what they give
abbrev answer_by : List ℕ → Bool → Bool → Decoded
answer_by l eight thirteen = pick eight (accept (shown8 l)) (pick thirteen (accept (shown13 l)) refuse)

by_tests : (l : List ℕ) (s t : Bool) → is_yielded (shown8 l) l ≡ s → is_yielded (shown13 l) l ≡ t → decoded_of l ≡ answer_by l s t
unfolding decoded_of
by_tests l s t e f = ap (λ (b : Bool). answer_by l b (is_yielded (shown13 l) l)) e ∙ ap (answer_by l s) f

pub first_passed : (l : List ℕ) → is_yielded (shown8 l) l ≡ true → decoded_of l ≡ accept (shown8 l)
first_passed l t = by_tests l true _ t refl

pub second_passed : (l : List ℕ) → is_yielded (shown8 l) l ≡ false → is_yielded (shown13 l) l ≡ true → decoded_of l ≡ accept (shown13 l)
second_passed l f t = by_tests l false true f t

pub none_passed : (l : List ℕ) → is_yielded (shown8 l) l ≡ false → is_yielded (shown13 l) l ≡ false → decoded_of l ≡ refuse
none_passed l f g = by_tests l false false f g

-- ACCEPTED
accepted8 : (l : List ℕ) → is_yielded (shown8 l) l ≡ true → Accepted l
unfolding checked
accepted8 l t =
    let ds = shown8 l in
    let e = length_shown8 l in
    let p = shown8_decimal l in
    let m : modules_of ds ≡ l = same_true _ _ t in
    record {
      n = 8;
      ds = ds;
      answer = first_passed l t;
      size = inl refl;
      count = e;
      decimal = p;
      last = ap shown8 (sym m) ∙ read8 ds p e;
      small = value_below 8 ds e p;
      card = rw e at (digits_of_value ds p (omega arith) (omega arith));
      yields = m;
    }

accepted13 : (l : List ℕ) → is_yielded (shown8 l) l ≡ false → is_yielded (shown13 l) l ≡ true → Accepted l
unfolding checked
accepted13 l f t =
    let ds = shown13 l in
    let e = length_shown13 l in
    let p = shown13_decimal l in
    let m : modules_of ds ≡ l = same_true _ _ t in
    record {
      n = 13;
      ds = ds;
      answer = second_passed l f t;
      size = inr refl;
      count = e;
      decimal = p;
      last = ap shown13 (sym m) ∙ read13 ds p e;
      small = value_below 13 ds e p;
      card = rw e at (digits_of_value ds p (omega arith) (omega arith));
      yields = m;
    }

-- an answer is accepted or refused with 16 and no digits
pub answers : (l : List ℕ) → Accepted l ⊎ (decoded_of l ≡ refuse)
answers l = go (is_yielded (shown8 l) l) refl (is_yielded (shown13 l) l) refl
  where
    go : (s : Bool) → is_yielded (shown8 l) l ≡ s → (t : Bool) → is_yielded (shown13 l) l ≡ t → Accepted l ⊎ (decoded_of l ≡ refuse)
    go true s t u = inl (accepted8 l s)
    go false s true u = inl (accepted13 l s u)
    go false s false u = inr (none_passed l s u)

refused_number : (l : List ℕ) → decoded_of l ≡ refuse → (decoded_of l).refusal ≡ 16
unfolding refuse
refused_number l e = rw e refl

accepted_number : (l ds : List ℕ) → decoded_of l ≡ accept ds → (decoded_of l).refusal ≡ 0
unfolding accept
accepted_number l ds e = rw e refl

-- THEOREM
pub accepted : (l : List ℕ) → (decoded_of l).refusal ≡ 0 → Accepted l
accepted l z = go (answers l)
  where
    go : Accepted l ⊎ (decoded_of l ≡ refuse) → Accepted l
    go (inl a) = a
    go (inr e) = absurd (omega (arith, refused_number l e))

-- NOT REFUSED
module _ (n : ℕ) (ds : List ℕ) (e : length ds ≡ n + 1) where
  checked_length : length (checked n ds) ≡ n + 1
  unfolding checked
  checked_length = rw (length-append, length-take) (omega arith)

  checked_front : take n (checked n ds) ≡ take n ds
  unfolding checked
  checked_front = take_at (take n ds) _ n (length-take-le n ds (omega arith))

again8 : (ds : List ℕ) → length ds ≡ 8 → modules_of (checked 7 ds) ≡ modules_of ds
again8 ds e =
    let k = checked_length 7 ds e in
    alike_then (checked 7 ds) ds (short (λ x. omega arith) (λ x. omega arith) (checked_front 7 ds e))

again13 : (ds : List ℕ) → length ds ≡ 13 → modules_of (checked 12 ds) ≡ modules_of ds
again13 ds e = alike_then (checked 12 ds) ds (long (checked_length 12 ds e) e (checked_front 12 ds e))

pub of8 : (ds : List ℕ) → length ds ≡ 8 → Decimal ds → decoded_of (modules_of ds) ≡ accept (checked 7 ds)
of8 ds e p =
    let m = modules_of ds in
    let t : is_yielded (shown8 m) m ≡ true = rw (read8 ds p e, again8 ds e) (same_refl m) in
    first_passed m t ∙ ap accept (read8 ds p e)

-- the list of 13 digits is longer than any of 8
not8 : (ds : List ℕ) → length ds ≡ 13 → Decimal ds → (t : Bool) → is_yielded (shown8 (modules_of ds)) (modules_of ds) ≡ t → t ≡ false
not8 ds e p false h = refl
not8 ds e p true h =
    let m = modules_of ds in
    let k = length_shown8 m in
    let s = modules_short (shown8 m) (shown8_decimal m) (λ x. omega arith) in
    absurd (omega (arith, modules_long ds p e, ap length (same_true _ _ h)))

pub of13 : (ds : List ℕ) → length ds ≡ 13 → Decimal ds → decoded_of (modules_of ds) ≡ accept (checked 12 ds)
of13 ds e p =
    let m = modules_of ds in
    let t : is_yielded (shown13 m) m ≡ true = rw (read13 ds p e, again13 ds e) (same_refl m) in
    second_passed m (not8 ds e p _ refl) t ∙ ap accept (read13 ds p e)

-- THEOREM
pub not_refused : (number count n : ℕ) → count ≤ 20 → (n ≡ 8) ⊎ (n ≡ 13) → length (digits_of number count) ≡ n →
    decoded_of (modules_of (digits_of number count)) ≡ accept (checked (n - 1) (digits_of number count))
not_refused number count n h (inl s) e = rw s (of8 _ (e ∙ s) (digits_decimal number count))
not_refused number count n h (inr s) e = rw s (of13 _ (e ∙ s) (digits_decimal number count))

-- BOTH WAYS
by_card : (l : List ℕ) (n : ℕ) → (n ≡ 8) ⊎ (n ≡ 13) → Yields n l → (decoded_of l).refusal ≡ 0
by_card l n s y =
    let a = not_refused y.number y.count n y.counted s y.digits in
    accepted_number l _ (rw y.modules at a)

card_of_lem : (l : List ℕ) (a : Accepted l) (n : ℕ) → a.n ≡ n → n ≤ 20 → 10 ^ n ≤ 2 ^ 64 → Yields n l
card_of_lem l a n e h b =
    let c : digits_of (value_from 10 0 a.ds) n ≡ a.ds = rw e at a.card in
    let s : value_from 10 0 a.ds < 10 ^ n = rw e at a.small in
    record {
      number = value_from 10 0 a.ds;
      count = n;
      fits = lt_of_lt_of_le s b;
      counted = h;
      digits = rw c (a.count ∙ e);
      modules = rw c a.yields;
    }

card_either : (l : List ℕ) → Accepted l → Yields 8 l ⊎ Yields 13 l
card_either l a = go a.size
  where
    go : (a.n ≡ 8) ⊎ (a.n ≡ 13) → Yields 8 l ⊎ Yields 13 l
    go (inl e) = inl (card_of_lem l a 8 e (omega arith) (omega arith))
    go (inr e) = inr (card_of_lem l a 13 e (omega arith) (omega arith))

either_card : (l : List ℕ) → Yields 8 l ⊎ Yields 13 l → (decoded_of l).refusal ≡ 0
either_card l (inl y) = by_card l 8 (inl refl) y
either_card l (inr y) = by_card l 13 (inr refl) y

-- THEOREM
pub accepted_is : (l : List ℕ) → ((decoded_of l).refusal ≡ 0) ↔ (Yields 8 l ⊎ Yields 13 l)
accepted_is l = ((λ z. card_either l (accepted l z)), either_card l)

-- THEOREM: 16 in its case and in no other, and no other refusal
pub refused_is : (l : List ℕ) → ((decoded_of l).refusal ≡ 16) ↔ (Yields 8 l ⊎ Yields 13 l → ⊥)
refused_is l = ((λ z y. omega (arith, either_card l y)), λ none. go none (answers l))
  where
    go : (Yields 8 l ⊎ Yields 13 l → ⊥) → Accepted l ⊎ (decoded_of l ≡ refuse) → (decoded_of l).refusal ≡ 16
    go none (inl a) = absurd (none (card_either l a))
    go none (inr e) = refused_number l e

pub only_these : (l : List ℕ) → ((decoded_of l).refusal ≡ 0) ⊎ (decoded_of l ≡ refuse)
only_these l = go (answers l)
  where
    go : Accepted l ⊎ (decoded_of l ≡ refuse) → ((decoded_of l).refusal ≡ 0) ⊎ (decoded_of l ≡ refuse)
    go (inl a) = inl (accepted_number l a.ds a.answer)
    go (inr e) = inr e

-- HOW LONG A LIST IS that is accepted: 132 modules, or 160. So a longer one may be cut, as long as it stays longer
pub accepted_length : (l : List ℕ) → (decoded_of l).refusal ≡ 0 → (length l ≡ 132) ⊎ (length l ≡ 160)
accepted_length l z = go (accepted l z) (accepted l z).size
  where
    go : (a : Accepted l) → (a.n ≡ 8) ⊎ (a.n ≡ 13) → (length l ≡ 132) ⊎ (length l ≡ 160)
    go a (inl e) =
        let k : length a.ds ≡ 8 = a.count ∙ e in
        inl (sym (ap length a.yields) ∙ modules_short a.ds a.decimal (λ x. omega arith) ∙ rw k refl)
    go a (inr e) = inr (sym (ap length a.yields) ∙ modules_long a.ds a.decimal (a.count ∙ e))

too_long_lem : (l : List ℕ) → 160 < length l → decoded_of l ≡ refuse
too_long_lem l h = go (only_these l)
  where
    long : (length l ≡ 132) ⊎ (length l ≡ 160) → decoded_of l ≡ refuse
    long (inl e) = absurd (omega arith)
    long (inr e) = absurd (omega arith)

    go : ((decoded_of l).refusal ≡ 0) ⊎ (decoded_of l ≡ refuse) → decoded_of l ≡ refuse
    go (inl z) = long (accepted_length l z)
    go (inr e) = e

pub decoded_cut : (n : ℕ) (l : List ℕ) → 160 < n → decoded_of (take n l) ≡ decoded_of l
decoded_cut n l h = go (dec_lt (length l) n)
  where
    go : Dec (length l < n) → decoded_of (take n l) ≡ decoded_of l
    go (yes k) = ap decoded_of (take_all n l (omega arith))
    go (no k) = too_long_lem (take n l) (rw (length-take n l) (omega arith)) ∙ sym (too_long_lem l (omega arith))
