-- `text::code_end` meets its contract: it counts the run that its chain takes. Assumes nothing.
use Rattle.std.proofs.Common.{rules, tests}
use Rattle.std.proofs.lemmas.Iterator.{YieldsList-from_slice}
use Rattle.std.proofs.lemmas.Iterator.Search.{YieldsList-from_take_while}
use Rattle.std.proofs.lemmas.Iterator.Consumers.{count_from_yields_List}
use Rattle.text.specs.Words.{in_code}
use Rattle.text.proofs.Turns.{run_counted}
use Rattle.text.proofs.code_end.Goals as goal

pub returns : goal.returns
returns c = run_counted in_code c.args.line.now _ (count_from_yields_List c.take_while.result _ c.count.ensures.ran (YieldsList-from_take_while _ in_code (YieldsList-from_slice c.args.line.now cc) c.take_while.ensures.closure c.take_while.ensures.done (λ x b q k. search (rules, tests))))
