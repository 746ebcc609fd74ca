-- `card_decode::shown::shown13` meets its contract: the leading digit and two runs of digits, one after the other.
-- Assumes nothing.
use Rattle.std.proofs.Common.{refl, ◌∙◌}
use Rattle.laws.specs.Lists.{padded}
use Rattle.digits.specs.Digits.{digits_in}
use Rattle.card_decode.proofs.Steps.{added13}
use Rattle.card_decode.proofs.shown.shown13.Goals as goal

pub returns : goal.returns
unfolding digits_in padded
returns c =
    added13 _ c.args.list.now (c.read_in-2.ensures ∙ rw (c.read_in.ensures, c.push.ensures, c.leading_of.ensures, c.sets_in-sets.ensures, c.new-digits.ensures) refl)
