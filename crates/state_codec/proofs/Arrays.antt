-- The lengths of a board's arrays, field by field, from what is known of a function's parameter.
-- Assumes nothing.
use borrow.Author.Rules.{rules}
use borrow.Fn.Kinds.{GoodsP}
use Rattle.bandai_fcg.specs.declared.board.Board.{Board}
use Rattle.state_codec.specs.ValidLaws.{Sized}
use Rattle.state_codec.proofs.file_length.Kinds.{ps}

pub sized : (b : Board) → GoodsP {n = 0} tt ps (b, tt) → Sized b
sized b g =
    record {
      modules = search (rules, g.0.1.1.1.0);
      standard = search (rules, g.0.1.1.1.1.0);
      extra = search (rules, g.0.1.1.1.1.1.0);
    }
