-- `card_decode::search::found` meets its contract: the invariant is that the search below the digits that are left is the search below 10.
-- Assumes nothing.
use Rattle.std.proofs.Common.{◌∙◌, arith}
use Rattle.laws.proofs.SearchLaws.{found_here, found_on, found_none}
use Rattle.card_decode.proofs.Steps.{same_entry}
use Rattle.card_decode.proofs.search.found.Goals as goal

pub returns-then-eq-clause-entry : goal.returns-then-eq-clause-entry
returns-then-eq-clause-entry g c =
    λ f told. found_here f _ _ (omega arith) (same_entry _ _ _ _ _ c.eq.ensures c.if-eq.true (told _ _ c.entry.ensures)) ∙ c.loop-digit.invariant.1 f told

pub loop-digit-preserved : goal.loop-digit-preserved
loop-digit-preserved g c =
    (omega arith, λ f told. found_on f _ _ (omega arith) (same_entry _ _ _ _ _ c.eq.ensures c.if-eq.false (told _ _ c.entry.ensures)) ∙ c.loop-digit.invariant.1 f told)

pub returns-clause-entry : goal.returns-clause-entry
returns-clause-entry g c = λ f told. found_none f _ _ (omega arith) ∙ c.loop-digit.invariant.1 f told
