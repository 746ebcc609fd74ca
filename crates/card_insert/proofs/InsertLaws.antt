-- On every board with a reader, valid or not, a card of a count of at most 20 yields just `modules_of` of its digits: `on_insert`. So the
-- theorem on equal modules and those of the check are about the board: `boards_alike`, `board_read`, `accepted_on_insert`,
-- `refused_on_insert`. Every fitted Datach board has a reader: `datach_reader`. Assumes nothing.
use Rattle.std.specs.Prelude.{◌≡◌, ◌↔◌, ◌⊎◌, true, List, ℕ, ◌-◌, ◌≤◌, length}
use Rattle.std.proofs.Math.Path.{refl}
use Rattle.std.proofs.Common.{sym, ap, ◌∙◌, inl, inr}
use borrow.Author.Tests.{eq-eqb, le-ltb}
use Rattle.laws.proofs.ListsLaws.{take_padded}
use Rattle.digits.specs.Digits.{digits_of}
use Rattle.barcode.specs.Barcode.{modules_of, modules_in}
use Rattle.gs1.specs.Gs1.{checked}
use Rattle.cart.specs.declared.Cart.{Cart}
use Rattle.bandai_fcg.specs.declared.board.Board.{Board}
use Rattle.bandai_fcg.specs.BoardSet.{with_bandai}
use Rattle.bandai_fcg.specs.Board.{fitted_state, fitted, with_input, init_of}
use Rattle.event.specs.Event.{card_event, insert_event, refusal_of, applied, after_of}
use Rattle.card_alike.specs.Alike.{Alike}
use Rattle.card_alike.proofs.AlikeLaws.{cards_alike}
use Rattle.card_decode.specs.Decode.{accept, decoded_of, YieldsBy, Yields}
use Rattle.card_decode.proofs.DecodeLaws.{not_refused, accepted_is, refused_is}
use Rattle.card_insert.specs.Insert.{inserted, reader_modules, YieldsOn}

pub datach_reader : (c : Cart) → c.mapper_num ≡ 157 → (fitted c).bandai.has_barcode_reader ≡ true
unfolding fitted fitted_state
datach_reader c e = eq-eqb c.mapper_num 157 e

module _ (b : Board) (r : b.bandai.has_barcode_reader ≡ true) where
  -- neither event is refused
  card_in_lem : (number count : ℕ) → count ≤ 20 → after_of (card_event number count) b ≡ with_bandai (with_input number count b.bandai) b
  unfolding after_of refusal_of applied
  card_in_lem number count h = rw (r, le-ltb 20 count h) refl

  insert_in : after_of insert_event b ≡ init_of b
  unfolding after_of refusal_of applied
  insert_in = rw r refl

module _ (b : Board) (number count : ℕ) where
  abbrev carded : Board
  carded = with_bandai (with_input number count b.bandai) b

  reader_kept : carded.bandai.has_barcode_reader ≡ b.bandai.has_barcode_reader
  unfolding with_input
  reader_kept = refl

  init_modules : reader_modules (init_of carded) ≡ modules_of (digits_of number count)
  unfolding init_of with_input modules_in
  init_modules = take_padded 160 (modules_of (digits_of number count))

-- THEOREM
pub on_insert : (b : Board) → b.bandai.has_barcode_reader ≡ true → (number count : ℕ) → count ≤ 20 →
    reader_modules (inserted number count b) ≡ modules_of (digits_of number count)
on_insert b r number count h =
    ap (λ (a : Board). reader_modules (after_of insert_event a)) (card_in_lem b r number count h) ∙
    ap reader_modules (insert_in (carded b number count) (reader_kept b number count ∙ r)) ∙ init_modules b number count

-- two cards, each on its board, give the same modules exactly if they are alike
pub boards_alike : (b c : Board) → b.bandai.has_barcode_reader ≡ true → c.bandai.has_barcode_reader ≡ true →
    (number count number' count' : ℕ) → count ≤ 20 → count' ≤ 20 →
    (reader_modules (inserted number count b) ≡ reader_modules (inserted number' count' c)) ↔ Alike (digits_of number count) (digits_of number' count')
boards_alike b c r s number count number' count' h k =
    let x = on_insert b r number count h in
    let y = on_insert c s number' count' k in
    let a = cards_alike number count number' count' h k in
    ((λ e. a.0 (sym x ∙ e ∙ y)), λ e. x ∙ a.1 e ∙ sym y)

-- the list of a card of 8 or 13 digits is accepted, with the right check digit
pub board_read : (b : Board) → b.bandai.has_barcode_reader ≡ true → (number count n : ℕ) → count ≤ 20 → (n ≡ 8) ⊎ (n ≡ 13) →
    length (digits_of number count) ≡ n → decoded_of (reader_modules (inserted number count b)) ≡ accept (checked (n - 1) (digits_of number count))
board_read b r number count n h s e = ap decoded_of (on_insert b r number count h) ∙ not_refused number count n h s e

-- what shows the same of every card of a count of at most 20 yields the same lists
yields_same : (f g : ℕ → ℕ → List ℕ) → ((number count : ℕ) → count ≤ 20 → g number count ≡ f number count) → (n : ℕ) (l : List ℕ) → YieldsBy f n l → YieldsBy g n l
yields_same f g e n l y =
    record {
      number = y.number;
      count = y.count;
      fits = y.fits;
      counted = y.counted;
      digits = y.digits;
      modules = e y.number y.count y.counted ∙ y.modules;
    }

-- THEOREM: a list is accepted exactly if a card of 8 or 13 digits yields it on insert, and refused with 16 exactly if none does
module _ (b : Board) (r : b.bandai.has_barcode_reader ≡ true) (l : List ℕ) where
  on_board : (n : ℕ) → Yields n l → YieldsOn b n l
  on_board n y = yields_same _ _ (on_insert b r) n l y

  off_board : (n : ℕ) → YieldsOn b n l → Yields n l
  off_board n y = yields_same _ _ (λ number count h. sym (on_insert b r number count h)) n l y

  either_on : Yields 8 l ⊎ Yields 13 l → YieldsOn b 8 l ⊎ YieldsOn b 13 l
  either_on (inl y) = inl (on_board 8 y)
  either_on (inr y) = inr (on_board 13 y)

  either_off : YieldsOn b 8 l ⊎ YieldsOn b 13 l → Yields 8 l ⊎ Yields 13 l
  either_off (inl y) = inl (off_board 8 y)
  either_off (inr y) = inr (off_board 13 y)

  pub accepted_on_insert : ((decoded_of l).refusal ≡ 0) ↔ (YieldsOn b 8 l ⊎ YieldsOn b 13 l)
  accepted_on_insert = ((λ z. either_on ((accepted_is l).0 z)), λ y. (accepted_is l).1 (either_off y))

  pub refused_on_insert : ((decoded_of l).refusal ≡ 16) ↔ (YieldsOn b 8 l ⊎ YieldsOn b 13 l → ⊥)
  refused_on_insert = ((λ z y. (refused_is l).0 z (either_off y)), λ none. (refused_is l).1 (λ y. none (either_on y)))
