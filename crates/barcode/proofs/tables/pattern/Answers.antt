-- `barcode::tables::pattern` meets its contract: past the thirty patterns there is none.
-- Assumes nothing.
use Rattle.std.proofs.Common.{refl, arith}
use Rattle.barcode.specs.Barcode.{patterns, pattern_of}
use Rattle.barcode.proofs.Steps.{part_lent}
use Rattle.barcode.proofs.tables.pattern.Goals as goal

pub returns : goal.returns
unfolding patterns pattern_of
returns c = rw (c.unwrap_or.ensures, ← c.from.ensures, ← c.from-2.ensures) (part_lent patterns _ 7 _ _ refl c.get.ensures.lookup (λ h. omega arith))
