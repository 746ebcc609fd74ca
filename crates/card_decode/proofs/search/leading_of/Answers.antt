-- `card_decode::search::leading_of` meets its contract: the entries are the rows.
-- Assumes nothing.
use Rattle.std.proofs.Common.{rules}
use Rattle.barcode.specs.Barcode.{parity_of}
use Rattle.card_decode.specs.Decode.{leading_of}
use Rattle.card_decode.proofs.search.leading_of.Goals as goal

pub returns : goal.returns
unfolding leading_of
returns c = c.found.ensures.entry parity_of (λ k r p. search rules)
