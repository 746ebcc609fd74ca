-- `card_decode::decode` meets its contract: by the two tests of the definition.
-- Assumes nothing.
use Rattle.card_decode.proofs.Steps.{decoded8, decoded13, decoded_none}
use Rattle.card_decode.proofs.decode.Goals as goal

pub returns-then-yields : goal.returns-then-yields
returns-then-yields c = decoded8 _ _ _ c.shown8-eight.ensures c.yields.ensures c.if-yields.true

pub returns-then-yields-2 : goal.returns-then-yields-2
returns-then-yields-2 c =
    decoded13 _ _ _ c.shown8-eight.ensures c.yields.ensures _ _ c.shown13-thirteen.ensures c.yields-2.ensures c.if-yields.false c.if-yields-2.true

pub returns : goal.returns
returns c =
    decoded_none _ _ _ c.shown8-eight.ensures c.yields.ensures _ _ c.shown13-thirteen.ensures c.yields-2.ensures c.if-yields.false c.if-yields-2.false
