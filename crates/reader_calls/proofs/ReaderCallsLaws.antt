-- Laws of the checked module read: it is refused where the board is not valid, and only there; on a valid board with a reader its two numbers
-- give back the reader's clock. Assumes nothing.
use Rattle.std.specs.Prelude.{◌≡◌, Bool, true, false, ◌+◌, ◌*◌, ◌≤◌, leb}
use Rattle.std.proofs.Math.Path.{refl}
use Rattle.std.proofs.Common.{arith, leb-true}
use Rattle.laws.proofs.ChoiceLaws.{both_true}
use Rattle.bandai_fcg.specs.declared.barcode_reader.BarcodeReader.{BarcodeReader}
use Rattle.bandai_fcg.specs.declared.board.Board.{Board}
use Rattle.bandai_fcg.proofs.ModuleReadLaws.{elapsed_exact}
use Rattle.validity.specs.Valid.{valid_reader, clock_limit, valid_board}
use Rattle.validity.specs.ValidLaws.{valid_parts, reader_on}
use Rattle.reader_calls.specs.ReaderCalls.{module_told_of}

module _ (b : Board) where
  -- 12 where the board is not valid
  pub refused_where : valid_board b ≡ false → (module_told_of b).refusal ≡ 12
  unfolding module_told_of
  refused_where e = rw e refl

  -- 0 where it is valid
  pub accepted_where : valid_board b ≡ true → (module_told_of b).refusal ≡ 0
  unfolding module_told_of
  accepted_where e = rw e refl

  -- so 12 is given to no valid board
  pub refused_only : (module_told_of b).refusal ≡ 12 → valid_board b ≡ false
  refused_only h = go (valid_board b) refl
    where
      go : (valid : Bool) → valid_board b ≡ valid → valid_board b ≡ false
      go true e = absurd (omega (arith, accepted_where e, h))
      go false e = e

  -- the insertion of a valid reader is not after its clock
  insert_before : (r : BarcodeReader) → valid_reader r ≡ true → r.insert_cycle ≤ r.master_clock
  insert_before r h =
      let d = both_true _ (leb r.module_count 160) h in
      let c = both_true _ (leb r.new_barcode_digit_count 20) d.0 in
      leb-true _ _ (both_true (leb r.insert_cycle r.master_clock) (leb r.master_clock clock_limit) c.0).0

  -- number times 1,000 plus spent, from the insert clock on, is the clock
  pub clock_exact : valid_board b ≡ true → b.bandai.has_barcode_reader ≡ true →
      (module_told_of b).number * 1000 + (module_told_of b).spent + b.bandai.barcode_reader.insert_cycle ≡ b.bandai.barcode_reader.master_clock
  unfolding module_told_of
  clock_exact v e =
      let r = b.bandai.barcode_reader in
      let l = insert_before r (reader_on b (valid_parts b v).reader e).valid in
      rw v (omega (arith, elapsed_exact b e, l))
