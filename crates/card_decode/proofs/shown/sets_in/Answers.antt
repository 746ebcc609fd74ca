-- `card_decode::shown::sets_in` meets its contract: six sets, one after the other.
-- Assumes nothing.
use Rattle.std.proofs.Common.{refl, ◌∙◌, rules, take, drop}
use Rattle.card_decode.specs.Decode.{set_of}
use Rattle.card_decode.proofs.Steps.{mapped, six_sets}
use Rattle.card_decode.proofs.shown.sets_in.Goals as goal

pub returns : goal.returns
returns c =
    let l = c.args.list.now in
    mapped _ (λ at. set_of (take 7 (drop at l))) _ _ _ _ c.map.ensures.items refl (λ x y q k. search rules) ∙ six_sets l
