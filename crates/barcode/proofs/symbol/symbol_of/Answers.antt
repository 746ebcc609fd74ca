-- `barcode::symbol::symbol_of` meets its contract: the parts one after the other, by `modules_parts`.
-- Assumes nothing.
use Rattle.std.proofs.Common.{refl, ◌∙◌}
use Rattle.laws.specs.Lists.{padded}
use Rattle.barcode.specs.Barcode.{lights, guard, modules_in}
use Rattle.barcode.proofs.Steps.{modules_parts}
use Rattle.barcode.proofs.symbol.symbol_of.Goals as goal

pub returns : goal.returns
unfolding lights guard modules_in padded
returns c =
    modules_parts _ _ (c.extend-4.ensures ∙ rw (c.extend-3.ensures, c.push_symbol.ensures, c.extend-2.ensures, c.extend.ensures, c.new-modules.ensures) refl)
