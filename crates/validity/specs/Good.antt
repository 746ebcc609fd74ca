-- A GOOD BOARD, hypothesis and conclusion of demand 3: its numbers fit their widths, and it is valid. By its parts it is in GoodLaws.
-- Assumes nothing.
use Rattle.std.specs.Prelude.{◌≡◌, true}
use Rattle.bandai_fcg.specs.declared.board.Board.{Board}
use Rattle.bandai_fcg.specs.Typed.{TypedBoard}
use Rattle.validity.specs.Valid.{valid_board}

pub record Good (b : Board) : Type 0 where
  pub typed : TypedBoard b
  pub valid : valid_board b ≡ true
