-- `card_decode::search::set_of` meets its contract: by the test of the left even set.
-- Assumes nothing.
use Rattle.card_decode.proofs.Steps.{same_entry, set_by}
use Rattle.card_decode.proofs.search.set_of.Goals as goal

pub returns-then-eq : goal.returns-then-eq
returns-then-eq c = set_by _ _ _ c.digit_in.ensures.0 (same_entry _ _ _ _ _ c.eq.ensures c.if-eq.true c.pattern.ensures)

pub returns-else-eq : goal.returns-else-eq
returns-else-eq c = set_by _ _ _ c.digit_in.ensures.0 (same_entry _ _ _ _ _ c.eq.ensures c.if-eq.false c.pattern.ensures)
