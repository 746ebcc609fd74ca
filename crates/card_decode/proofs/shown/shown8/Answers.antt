-- `card_decode::shown::shown8` meets its contract: two runs of digits, one after the other.
-- Assumes nothing.
use Rattle.std.proofs.Common.{refl, ◌∙◌}
use Rattle.laws.specs.Lists.{padded}
use Rattle.digits.specs.Digits.{digits_in}
use Rattle.card_decode.proofs.Steps.{added8}
use Rattle.card_decode.proofs.shown.shown8.Goals as goal

pub returns : goal.returns
unfolding digits_in padded
returns c = added8 _ c.args.list.now (c.read_in-2.ensures ∙ rw (c.read_in.ensures, c.new-digits.ensures) refl)
