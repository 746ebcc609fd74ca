-- `barcode::tables::parity` meets its contract: past the ten rows there is none.
-- Assumes nothing.
use Rattle.std.proofs.Common.{refl, arith}
use Rattle.barcode.specs.Barcode.{parities, parity_of}
use Rattle.barcode.proofs.Steps.{part_lent}
use Rattle.barcode.proofs.tables.parity.Goals as goal

pub returns : goal.returns
unfolding parities parity_of
returns c = rw (c.unwrap_or.ensures, ← c.from-at.ensures) (part_lent parities _ 6 _ _ refl c.get.ensures.lookup (λ h. omega arith))
