-- `text::skip_spaces` meets its contract: it counts the run that its chain takes. Assumes nothing.
use Rattle.std.proofs.Common.{◌+◌, drop, ap, rules, tests}
use Rattle.std.proofs.lemmas.Iterator.{YieldsList-from_slice}
use Rattle.std.proofs.lemmas.Iterator.Search.{YieldsList-from_take_while}
use Rattle.std.proofs.lemmas.Iterator.Consumers.{count_from_yields_List}
use Rattle.text.specs.Words.{is_space}
use Rattle.text.proofs.Turns.{run_counted}
use Rattle.text.proofs.skip_spaces.Goals as goal

pub returns : goal.returns
returns c =
    ap (λ n. c.args.from + n) (run_counted is_space (drop c.args.from c.args.line.now) _ (count_from_yields_List c.take_while.result _ c.count.ensures.ran (YieldsList-from_take_while _ is_space (YieldsList-from_slice (drop c.args.from c.args.line.now) (cc c.rest.ensures)) c.take_while.ensures.closure c.take_while.ensures.done (λ x b q k. search (rules, tests)))))
