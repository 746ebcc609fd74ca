-- `barcode::Modules::push_right` meets its contract: by the number of digits.
-- Assumes nothing.
use Rattle.std.proofs.Common.{◌≡◌, refl, drop}
use Rattle.std.proofs.lemmas.List.{take_rest}
use Rattle.barcode.specs.Barcode.{right_of}
use Rattle.barcode.proofs.Steps.{rest_lent}
use Rattle.barcode.proofs.Modules.push_right.Goals as goal

pub returns-then-is_ean13 : goal.returns-then-is_ean13
unfolding right_of
returns-then-is_ean13 c =
    rw (c.push_digits.ensures, ← c.is_ean13.ensures, c.if-is_ean13.true, take_rest) refl

pub returns-else-is_ean13 : goal.returns-else-is_ean13
unfolding right_of
returns-else-is_ean13 c =
    let e : c.unwrap_or.result.now ≡ drop 4 c.args.digits.now = rw c.unwrap_or.ensures (rest_lent _ 4 _ _ refl c.get.ensures.lookup) in
    rw (c.push_digits-else-is_ean13.ensures, e, ← c.is_ean13.ensures, c.if-is_ean13.false) refl
