-- `barcode::Modules::push_symbol` meets its contract: the parts one after the other, by `append_four`.
-- Assumes nothing.
use Rattle.std.proofs.Common.{sym}
use Rattle.laws.proofs.AppendLaws.{append_four}
use Rattle.barcode.specs.Barcode.{centre}
use Rattle.barcode.proofs.Modules.push_symbol.Goals as goal

pub returns : goal.returns
unfolding centre
returns c =
    rw (c.extend-2.ensures, c.pattern.ensures, c.check_digit.ensures, c.push_right.ensures, c.extend.ensures, c.push_left.ensures) (sym (append_four 160 _ _ _ _ _))
