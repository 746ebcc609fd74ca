-- Each number is given in its case and in no other: for each refusal of an event, when it is given, both ways.
-- Assumes nothing.
use Rattle.std.specs.Prelude.{◌≡◌, Bool, true, false, ◌&&◌, ℕ, zero, suc, ◌≤◌, ◌<◌, leb, ltb}
use Rattle.std.proofs.Math.Path.{refl}
use Rattle.std.proofs.Common.{sym, ◌∙◌, arith}
use borrow.Author.Tests.{le-leb, lt-leb, ne_eqb}
use Rattle.laws.specs.Choice.{pick}
use Rattle.bandai_fcg.specs.declared.board.BandaiFCG.{BandaiFCG}
use Rattle.event.specs.declared.Event.{Event}
use Rattle.event.specs.Event.{passes_limit, clocks_refusal, card_refusal, insert_refusal, chip_fitted, lines_refusal, refusal_of}

-- THE ORDER. 4 before 5: without a reader a card is refused with 4, whatever its digit count
pub no_reader_first : (digits : ℕ) → card_refusal false digits ≡ 4
no_reader_first digits = refl

-- 8 before 7: lines of a chip that is not fitted are refused with 8, whatever the levels
pub not_fitted_first : (scl sda : ℕ) → lines_refusal false scl sda ≡ 8
not_fitted_first scl sda = refl

-- the kinds of a record
data Kinds : ℕ → Type 0 where
  low : {k : ℕ} → k ≤ 1 → Kinds k
  clocks : {k : ℕ} → k ≡ 2 → Kinds k
  card : {k : ℕ} → k ≡ 3 → Kinds k
  insert : {k : ℕ} → k ≡ 4 → Kinds k
  lines : {k : ℕ} → k ≡ 5 → Kinds k
  above : {k : ℕ} → 5 < k → Kinds k

kinds : (k : ℕ) → Kinds k
kinds zero = low {k = 0} (omega arith)
kinds (suc zero) = low {k = 1} (omega arith)
kinds (suc (suc zero)) = clocks refl
kinds (suc (suc (suc zero))) = card refl
kinds (suc (suc (suc (suc zero)))) = insert refl
kinds (suc (suc (suc (suc (suc zero))))) = lines refl
kinds (suc (suc (suc (suc (suc (suc k)))))) = above {k = suc (suc (suc (suc (suc (suc k)))))} (omega arith)

-- the refusal by kind
module _ (e : Event) (b : BandaiFCG) where
  pub of_low : e.kind ≤ 1 → refusal_of e b ≡ 0
  unfolding refusal_of
  of_low k = rw (le-leb e.kind 1 k) refl

  pub of_clocks : e.kind ≡ 2 → refusal_of e b ≡ clocks_refusal b.has_barcode_reader b.barcode_reader.master_clock e.count
  unfolding refusal_of
  of_clocks k = rw k refl

  pub of_card : e.kind ≡ 3 → refusal_of e b ≡ card_refusal b.has_barcode_reader e.count
  unfolding refusal_of
  of_card k = rw k refl

  pub of_insert : e.kind ≡ 4 → refusal_of e b ≡ insert_refusal b.has_barcode_reader
  unfolding refusal_of
  of_insert k = rw k refl

  pub of_lines : e.kind ≡ 5 → refusal_of e b ≡ lines_refusal (chip_fitted e.chip b.has_standard_eeprom b.has_extra_eeprom) e.scl e.sda
  unfolding refusal_of
  of_lines k = rw k refl

  pub of_above : 5 < e.kind → refusal_of e b ≡ 13
  unfolding refusal_of
  of_above k =
      rw (lt-leb e.kind 1 (omega arith), ne_eqb e.kind 2 (λ h. omega arith), ne_eqb e.kind 3 (λ h. omega arith), ne_eqb e.kind 4 (λ h. omega arith), ne_eqb e.kind 5 (λ h. omega arith)) refl

  -- a number in the case of each kind is a number of the record
  by_kind : (n : ℕ) (Case : Type 0) →
      (0 ≡ n → Case) → (e.kind ≡ 2 → clocks_refusal b.has_barcode_reader b.barcode_reader.master_clock e.count ≡ n → Case) → (e.kind ≡ 3 → card_refusal b.has_barcode_reader e.count ≡ n → Case) →
      (e.kind ≡ 4 → insert_refusal b.has_barcode_reader ≡ n → Case) → (e.kind ≡ 5 → lines_refusal (chip_fitted e.chip b.has_standard_eeprom b.has_extra_eeprom) e.scl e.sda ≡ n → Case) → (5 < e.kind → 13 ≡ n → Case) → refusal_of e b ≡ n → Case
  by_kind n Case l c d i s a h = go (kinds e.kind)
    where
      go : Kinds e.kind → Case
      go (low k) = l (sym (of_low k) ∙ h)
      go (clocks k) = c k (sym (of_clocks k) ∙ h)
      go (card k) = d k (sym (of_card k) ∙ h)
      go (insert k) = i k (sym (of_insert k) ∙ h)
      go (lines k) = s k (sym (of_lines k) ∙ h)
      go (above k) = a k (sym (of_above k) ∙ h)

-- a test picks neither of two other numbers
neither : (t : Bool) (x y n : ℕ) → (x ≡ n → ⊥) → (y ≡ n → ⊥) → pick t x y ≡ n → ⊥
neither true x y n p q h = p h
neither false x y n p q h = q h

-- it picks the second if not the first, and the first if not the second
second : (t : Bool) (x y n : ℕ) → (x ≡ n → ⊥) → pick t x y ≡ n → (t ≡ false) × (y ≡ n)
second true x y n p h = absurd (p h)
second false x y n p h = (refl, h)

first : (t : Bool) (x y n : ℕ) → (y ≡ n → ⊥) → pick t x y ≡ n → (t ≡ true) × (x ≡ n)
first true x y n p h = (refl, h)
first false x y n p h = absurd (p h)

-- what card, insert and lines never give
not_clocks : (n : ℕ) (count : ℕ) (b : BandaiFCG) → (6 ≡ n → ⊥) → (0 ≡ n → ⊥) → clocks_refusal b.has_barcode_reader b.barcode_reader.master_clock count ≡ n → ⊥
not_clocks n count b p q = neither (b.has_barcode_reader && passes_limit b.barcode_reader.master_clock count) 6 0 n p q

not_card : (n : ℕ) (count : ℕ) (b : BandaiFCG) → (5 ≡ n → ⊥) → (0 ≡ n → ⊥) → (4 ≡ n → ⊥) → card_refusal b.has_barcode_reader count ≡ n → ⊥
not_card n count b p q r = neither b.has_barcode_reader (pick (ltb 20 count) 5 0) 4 n (neither (ltb 20 count) 5 0 n p q) r

not_insert : (n : ℕ) (b : BandaiFCG) → (0 ≡ n → ⊥) → (4 ≡ n → ⊥) → insert_refusal b.has_barcode_reader ≡ n → ⊥
not_insert n b p q = neither b.has_barcode_reader 0 4 n p q

not_lines : (n : ℕ) (e : Event) (b : BandaiFCG) → (0 ≡ n → ⊥) → (7 ≡ n → ⊥) → (8 ≡ n → ⊥) → lines_refusal (chip_fitted e.chip b.has_standard_eeprom b.has_extra_eeprom) e.scl e.sda ≡ n → ⊥
not_lines n e b p q r = neither (chip_fitted e.chip b.has_standard_eeprom b.has_extra_eeprom) (pick (leb e.scl 1 && leb e.sda 1) 0 7) 8 n (neither (leb e.scl 1 && leb e.sda 1) 0 7 n p q) r

-- THE TABLE, number by number
module _ (e : Event) (b : BandaiFCG) where
  -- 4: card or insert, no reader
  pub only_4 : refusal_of e b ≡ 4 → (3 ≤ e.kind) × (e.kind ≤ 4) × (b.has_barcode_reader ≡ false)
  only_4 =
      by_kind e b 4 _ (λ h. absurd (omega arith)) (λ k h. absurd (not_clocks 4 e.count b (λ x. omega arith) (λ x. omega arith) h))
      (λ k h. (omega arith, omega arith, (second b.has_barcode_reader _ 4 4 (neither (ltb 20 e.count) 5 0 4 (λ x. omega arith) (λ x. omega arith)) h).0))
      (λ k h. (omega arith, omega arith, (second b.has_barcode_reader 0 4 4 (λ x. omega arith) h).0))
      (λ k h. absurd (not_lines 4 e b (λ x. omega arith) (λ x. omega arith) (λ x. omega arith) h)) (λ k h. absurd (omega arith))

  pub card_4 : e.kind ≡ 3 → b.has_barcode_reader ≡ false → refusal_of e b ≡ 4
  card_4 k h = of_card e b k ∙ rw h refl

  pub insert_4 : e.kind ≡ 4 → b.has_barcode_reader ≡ false → refusal_of e b ≡ 4
  insert_4 k h = of_insert e b k ∙ rw h refl

  -- 5: a card with a reader, digit count above 20
  pub only_5 : refusal_of e b ≡ 5 → (e.kind ≡ 3) × (b.has_barcode_reader ≡ true) × (ltb 20 e.count ≡ true)
  only_5 =
      by_kind e b 5 _ (λ h. absurd (omega arith)) (λ k h. absurd (not_clocks 5 e.count b (λ x. omega arith) (λ x. omega arith) h))
      (λ k h. let p = first b.has_barcode_reader (pick (ltb 20 e.count) 5 0) 4 5 (λ x. omega arith) h in (k, p.0, (first (ltb 20 e.count) 5 0 5 (λ x. omega arith) p.1).0))
      (λ k h. absurd (not_insert 5 b (λ x. omega arith) (λ x. omega arith) h))
      (λ k h. absurd (not_lines 5 e b (λ x. omega arith) (λ x. omega arith) (λ x. omega arith) h)) (λ k h. absurd (omega arith))

  pub card_5 : e.kind ≡ 3 → b.has_barcode_reader ≡ true → ltb 20 e.count ≡ true → refusal_of e b ≡ 5
  card_5 k h d = of_card e b k ∙ rw (h, d) refl

  -- 6: clocks that would take a reader's clock past the limit
  pub only_6 : refusal_of e b ≡ 6 → (e.kind ≡ 2) × ((b.has_barcode_reader && passes_limit b.barcode_reader.master_clock e.count) ≡ true)
  only_6 =
      by_kind e b 6 _ (λ h. absurd (omega arith))
      (λ k h. (k, (first (b.has_barcode_reader && passes_limit b.barcode_reader.master_clock e.count) 6 0 6 (λ x. omega arith) h).0))
      (λ k h. absurd (not_card 6 e.count b (λ x. omega arith) (λ x. omega arith) (λ x. omega arith) h)) (λ k h. absurd (not_insert 6 b (λ x. omega arith) (λ x. omega arith) h))
      (λ k h. absurd (not_lines 6 e b (λ x. omega arith) (λ x. omega arith) (λ x. omega arith) h)) (λ k h. absurd (omega arith))

  pub clocks_6 : e.kind ≡ 2 → (b.has_barcode_reader && passes_limit b.barcode_reader.master_clock e.count) ≡ true → refusal_of e b ≡ 6
  clocks_6 k h = of_clocks e b k ∙ rw h refl

  -- 8: lines of a chip that is not fitted; 7: of a fitted one, a line above 1
  pub only_8 : refusal_of e b ≡ 8 → (e.kind ≡ 5) × (chip_fitted e.chip b.has_standard_eeprom b.has_extra_eeprom ≡ false)
  only_8 =
      by_kind e b 8 _ (λ h. absurd (omega arith)) (λ k h. absurd (not_clocks 8 e.count b (λ x. omega arith) (λ x. omega arith) h))
      (λ k h. absurd (not_card 8 e.count b (λ x. omega arith) (λ x. omega arith) (λ x. omega arith) h)) (λ k h. absurd (not_insert 8 b (λ x. omega arith) (λ x. omega arith) h))
      (λ k h. (k, (second (chip_fitted e.chip b.has_standard_eeprom b.has_extra_eeprom) _ 8 8 (neither (leb e.scl 1 && leb e.sda 1) 0 7 8 (λ x. omega arith) (λ x. omega arith)) h).0)) (λ k h. absurd (omega arith))

  pub lines_8 : e.kind ≡ 5 → chip_fitted e.chip b.has_standard_eeprom b.has_extra_eeprom ≡ false → refusal_of e b ≡ 8
  lines_8 k h = of_lines e b k ∙ rw h refl

  pub only_7 : refusal_of e b ≡ 7 → (e.kind ≡ 5) × (chip_fitted e.chip b.has_standard_eeprom b.has_extra_eeprom ≡ true) × ((leb e.scl 1 && leb e.sda 1) ≡ false)
  only_7 =
      by_kind e b 7 _ (λ h. absurd (omega arith)) (λ k h. absurd (not_clocks 7 e.count b (λ x. omega arith) (λ x. omega arith) h))
      (λ k h. absurd (not_card 7 e.count b (λ x. omega arith) (λ x. omega arith) (λ x. omega arith) h)) (λ k h. absurd (not_insert 7 b (λ x. omega arith) (λ x. omega arith) h))
      (λ k h. let p = first (chip_fitted e.chip b.has_standard_eeprom b.has_extra_eeprom) (pick (leb e.scl 1 && leb e.sda 1) 0 7) 8 7 (λ x. omega arith) h in (k, p.0, (second (leb e.scl 1 && leb e.sda 1) 0 7 7 (λ x. omega arith) p.1).0)) (λ k h. absurd (omega arith))

  pub lines_7 : e.kind ≡ 5 → chip_fitted e.chip b.has_standard_eeprom b.has_extra_eeprom ≡ true → (leb e.scl 1 && leb e.sda 1) ≡ false → refusal_of e b ≡ 7
  lines_7 k h l = of_lines e b k ∙ rw (h, l) refl

  -- 13: event kind above 5 (of-above), and nothing else
  pub only_13 : refusal_of e b ≡ 13 → 5 < e.kind
  only_13 =
      by_kind e b 13 _ (λ h. absurd (omega arith)) (λ k h. absurd (not_clocks 13 e.count b (λ x. omega arith) (λ x. omega arith) h))
      (λ k h. absurd (not_card 13 e.count b (λ x. omega arith) (λ x. omega arith) (λ x. omega arith) h)) (λ k h. absurd (not_insert 13 b (λ x. omega arith) (λ x. omega arith) h))
      (λ k h. absurd (not_lines 13 e b (λ x. omega arith) (λ x. omega arith) (λ x. omega arith) h)) (λ k h. k)
