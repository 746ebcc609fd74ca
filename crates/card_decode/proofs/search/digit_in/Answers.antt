-- `card_decode::search::digit_in` meets its contract: the entries are the patterns of the set.
-- Assumes nothing.
use Rattle.std.proofs.Common.{rules}
use Rattle.barcode.specs.Barcode.{pattern_of}
use Rattle.card_decode.specs.Decode.{digit_in}
use Rattle.card_decode.proofs.search.digit_in.Goals as goal

pub returns : goal.returns
unfolding digit_in
returns c = (c.found.ensures.entry (pattern_of c.args.set) (λ k r p. search rules), c.found.ensures.digit)
