-- Laws of event records: what an accepted record shows, that every record keeps a good board good, that a refused one changes
-- nothing, and how counted clocks and single ones agree.
-- Assumes nothing.
use Rattle.std.specs.Prelude.{◌≡◌, refl, Bool, true, false, ◌&&◌, ℕ, suc, ◌+◌, ◌-◌, ◌≤◌, eqb, leb, ltb}
use Rattle.std.proofs.Common.{sym, ◌∙◌, arith, lt-ltb, ltb-true, ltb-false, leb-true, eqb-true, ne_eqb, eq-eqb}
use Rattle.laws.specs.Choice.{pick}
use Rattle.laws.proofs.ChoiceLaws.{test_same, both_true, pick_all}
use Rattle.bandai_fcg.specs.declared.board.BandaiFCG.{BandaiFCG}
use Rattle.bandai_fcg.specs.declared.board.Board.{Board}
use Rattle.bandai_fcg.specs.BoardSet.{with_bandai}
use Rattle.bandai_fcg.specs.Board.{with_input}
use Rattle.bandai_fcg.proofs.TypedLaws.{write_typed, ticks_typed, input_typed, init_typed, standard_typed, extra_typed}
use Rattle.validity.specs.Valid.{clock_limit}
use Rattle.validity.specs.Good.{Good}
use Rattle.validity.specs.ValidLaws.{Valid, valid_parts}
use Rattle.validity.specs.GoodLaws.{parts_good}
use Rattle.validity.specs.KeptLaws.{keep_write, keep_ticks, keep_input, keep_init, keep_standard, keep_extra}
use Rattle.event.specs.declared.Event.{Event}
use Rattle.event.specs.Event.{passes_limit, clocks_refusal, card_refusal, insert_refusal, chip_fitted, lines_refusal, refusal_of, lines_applied, applied, after_of}
use Rattle.event.specs.EventWords.{TypedEvent}
use Rattle.event.proofs.RefusalLaws.{of_clocks, of_card, of_insert, of_lines}

-- whether a count passes the limit, by the last clock that it can be taken at
pub limit_before : (clock count : ℕ) → count ≤ clock_limit → ltb (clock_limit - count) clock ≡ passes_limit clock count
limit_before clock count h =
    test_same (ltb (clock_limit - count) clock) (passes_limit clock count)
    (λ t. lt-ltb clock_limit (clock + count) (omega (arith, ltb-true (clock_limit - count) clock t)))
    (λ t. lt-ltb (clock_limit - count) clock (omega (arith, ltb-true clock_limit (clock + count) t)))

-- WHAT AN ACCEPTED RECORD SHOWS. A choice that gives 0 where its number is not 0 was not made
not_refused : (t : Bool) (n m : ℕ) → ◌≡◌ {A = ℕ} (pick t (suc n) m) 0 → (t ≡ false) × (m ≡ 0)
not_refused true n m h = absurd (omega arith)
not_refused false n m h = (refl, h)

accepted_there : (t : Bool) (n m : ℕ) → ◌≡◌ {A = ℕ} (pick t m (suc n)) 0 → (t ≡ true) × (m ≡ 0)
accepted_there true n m h = (refl, h)
accepted_there false n m h = absurd (omega arith)

module _ (e : Event) (b : Board) (ok : refusal_of e b.bandai ≡ 0) where
  clocks_accepted : e.kind ≡ 2 → clocks_refusal b.bandai.has_barcode_reader b.bandai.barcode_reader.master_clock e.count ≡ 0
  clocks_accepted k = sym (of_clocks e b.bandai k) ∙ ok

  card_accepted : e.kind ≡ 3 → card_refusal b.bandai.has_barcode_reader e.count ≡ 0
  card_accepted k = sym (of_card e b.bandai k) ∙ ok

  insert_accepted : e.kind ≡ 4 → insert_refusal b.bandai.has_barcode_reader ≡ 0
  insert_accepted k = sym (of_insert e b.bandai k) ∙ ok

  lines_accepted : e.kind ≡ 5 → lines_refusal (chip_fitted e.chip b.bandai.has_standard_eeprom b.bandai.has_extra_eeprom) e.scl e.sda ≡ 0
  lines_accepted k = sym (of_lines e b.bandai k) ∙ ok

-- accepted clocks stay within the limit of the reader's clock
pub clocks_within : (count : ℕ) (b : BandaiFCG) → clocks_refusal b.has_barcode_reader b.barcode_reader.master_clock count ≡ 0 → b.has_barcode_reader ≡ true → b.barcode_reader.master_clock + count ≤ clock_limit
clocks_within count b h e =
    let f : (b.has_barcode_reader && passes_limit b.barcode_reader.master_clock count) ≡ false = (not_refused _ 5 0 h).0 in
    ltb-false clock_limit (b.barcode_reader.master_clock + count) (rw e at f)

-- EVERY RECORD, refused or not, keeps a good board good
module _ (e : Event) (b : Board) (t : TypedEvent e) (g : Good b) where
  abbrev parts : Valid b
  parts = valid_parts b g.valid

  card_good : card_refusal b.bandai.has_barcode_reader e.count ≡ 0 → Good (with_bandai (with_input e.number e.count b.bandai) b)
  card_good h =
      let p = accepted_there b.bandai.has_barcode_reader 3 _ h in
      let q = not_refused (ltb 20 e.count) 4 0 p.1 in
      parts_good _ (input_typed b _ _ t.1.1.1.1.0 t.1.1.1.0 g.typed) (keep_input b _ _ parts p.0 (ltb-false 20 e.count q.0))

  lines_good : lines_refusal (chip_fitted e.chip b.bandai.has_standard_eeprom b.bandai.has_extra_eeprom) e.scl e.sda ≡ 0 → Good (lines_applied e b)
  lines_good h =
      let p = accepted_there (chip_fitted e.chip b.bandai.has_standard_eeprom b.bandai.has_extra_eeprom) 7 _ h in
      let q = accepted_there (leb e.scl 1 && leb e.sda 1) 6 0 p.1 in
      let l = both_true (leb e.scl 1) (leb e.sda 1) q.0 in
      let hc = leb-true e.scl 1 l.0 in
      let hd = leb-true e.sda 1 l.1 in
      pick_all Good (eqb e.chip 0) _ _
      (λ _. parts_good _ (standard_typed b _ _ t.1.1.1.1.1.1.0 t.1.1.1.1.1.1.1.0 g.typed) (keep_standard b _ _ hc hd parts))
      (λ _. parts_good _ (extra_typed b _ _ t.1.1.1.1.1.1.0 t.1.1.1.1.1.1.1.0 g.typed) (keep_extra b _ _ hc hd parts))

  applied_good : refusal_of e b.bandai ≡ 0 → Good (applied e b)
  unfolding applied
  applied_good ok =
      pick_all Good (eqb e.kind 0) _ _ (λ _. parts_good _ (write_typed b _ _ t.1.1.0 g.typed) (keep_write b _ _ parts))
      (λ _. pick_all Good (eqb e.kind 2) _ _
      (λ k. parts_good _ (ticks_typed _ b g.typed) (keep_ticks b _ parts g.typed.reader.master_clock (clocks_within e.count b.bandai (clocks_accepted e b ok (eqb-true e.kind 2 k)))))
      (λ _. pick_all Good (eqb e.kind 3) _ _ (λ k. card_good (card_accepted e b ok (eqb-true e.kind 3 k)))
      (λ _. pick_all Good (eqb e.kind 4) _ _
      (λ k. parts_good _ (init_typed b g.typed) (keep_init b parts (accepted_there b.bandai.has_barcode_reader 3 0 (insert_accepted e b ok (eqb-true e.kind 4 k))).0))
      (λ _. pick_all Good (eqb e.kind 5) _ _ (λ k. lines_good (lines_accepted e b ok (eqb-true e.kind 5 k)))
      (λ _. g)))))

  pub after_good : Good (after_of e b)
  unfolding after_of
  after_good = pick_all Good (eqb (refusal_of e b.bandai) 0) _ _ (λ z. applied_good (eqb-true (refusal_of e b.bandai) 0 z)) (λ _. g)

-- A REFUSED RECORD CHANGES NOTHING
pub refused_keeps : (e : Event) (b : Board) → (refusal_of e b.bandai ≡ 0 → ⊥) → after_of e b ≡ b
unfolding after_of
refused_keeps e b h = rw (ne_eqb (refusal_of e b.bandai) 0 h) refl

pub accepted_applies : (e : Event) (b : Board) → refusal_of e b.bandai ≡ 0 → after_of e b ≡ applied e b
unfolding after_of
accepted_applies e b h = rw (eq-eqb (refusal_of e b.bandai) 0 h) refl
