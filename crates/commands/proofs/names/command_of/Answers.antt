-- `commands::names::command_of` meets its contract: the table has the words and their commands in order.
-- Assumes nothing.
use Rattle.std.proofs.Common.{rules, tests, refl}
use Rattle.std.proofs.lemmas.Iterator.{YieldsList-from_slice}
use Rattle.std.proofs.lemmas.Iterator.Search.{find_from_yields_List}
use Rattle.laws.specs.Lists.{same}
use Rattle.commands.specs.Commands.{names}
use Rattle.commands.proofs.Search.{named}
use Rattle.commands.proofs.names.command_of.Goals as goal

pub returns : goal.returns
unfolding names
returns c =
    let w = c.args.word.now in
    let f = find_from_yields_List (λ p. same w p.0.now) _ _ c.find.result c.find.ensures.ran (YieldsList-from_slice _ c.iter.ensures.rest) (λ x b q k. search (rules, tests)) in
    named w c.find.result c.map_or.result _ c.iter.ensures.rest refl refl f c.map_or.ensures (λ x h. search rules)
