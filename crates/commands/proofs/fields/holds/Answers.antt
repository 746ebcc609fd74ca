-- `commands::fields::holds` meets its contract: the widths and the numbers in pairs.
-- Assumes nothing.
use Rattle.std.proofs.Common.{◌≤◌, length, rules, tests, sym, ◌∙◌}
use Rattle.std.proofs.lemmas.Iterator.{YieldsList-from_slice, YieldsList-from_zip}
use Rattle.std.proofs.lemmas.Iterator.Search.{all_from_yields_List}
use Rattle.commands.specs.Commands.{widths_of}
use Rattle.commands.proofs.Search.{fitting, within_all}
use Rattle.commands.proofs.fields.holds.Goals as goal

pub returns : goal.returns
returns c =
    let ws = widths_of c.args.command in
    let v = c.args.v in
    let short : length ws ≤ length v = search rules in
    all_from_yields_List fitting c.all.new.self _ c.all.result c.all.ensures.ran (YieldsList-from_zip {s = c.zip.result} (YieldsList-from_slice ws (cc)) (YieldsList-from_slice v (cc))) (λ x b q k. search (rules, tests)) ∙ sym (within_all ws v short)
