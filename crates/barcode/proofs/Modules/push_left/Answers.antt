-- `barcode::Modules::push_left` meets its contract: by the number of digits.
-- Assumes nothing.
use Rattle.std.proofs.Common.{refl}
use Rattle.std.proofs.lemmas.List.{take_rest}
use Rattle.barcode.specs.Barcode.{left_of}
use Rattle.barcode.proofs.Modules.push_left.Goals as goal

pub returns-then-is_ean13 : goal.returns-then-is_ean13
unfolding left_of
returns-then-is_ean13 c =
    rw (c.push_digits.ensures, c.parity.ensures, ← c.is_ean13.ensures, c.if-is_ean13.true, take_rest) refl

pub returns-else-is_ean13 : goal.returns-else-is_ean13
unfolding left_of
returns-else-is_ean13 c =
    rw (c.push_digits-else-is_ean13.ensures, ← c.is_ean13.ensures, c.if-is_ean13.false) refl
