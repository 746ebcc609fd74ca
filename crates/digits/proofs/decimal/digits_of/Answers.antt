-- `digits::decimal::digits_of` meets its contract: at least one digit is needed, and all fit.
-- Assumes nothing.
use Rattle.std.proofs.Common.{refl, ◌∙◌, arith}
use Rattle.laws.specs.Lists.{padded}
use Rattle.digits.specs.Digits.{digits_in}
use Rattle.digits.proofs.Steps.{digits_in_lem}
use Rattle.digits.proofs.decimal.digits_of.Goals as goal

pub returns : goal.returns
unfolding digits_in padded
returns c =
    let a = c.args in
    digits_in_lem a.number a.digit_count c.max.result _ (omega arith) (c.push_decimal.ensures ∙ rw c.new-digits.ensures refl)
