-- `card_decode::yields` meets its contract: what was encoded is compared, and the zeros past it are not.
-- Assumes nothing.
use Rattle.std.proofs.Common.{refl, ◌∙◌}
use Rattle.laws.proofs.ListsLaws.{take_padded}
use Rattle.barcode.specs.Barcode.{modules_in}
use Rattle.card_decode.proofs.Steps.{same_pointwise}
use Rattle.card_decode.proofs.yields.Goals as goal

pub returns : goal.returns
unfolding modules_in
returns c = c.eq.ensures ∙ rw (same_pointwise, c.as_slice-2.ensures, c.symbol_of-modules.ensures, take_padded, c.as_slice.ensures) refl
