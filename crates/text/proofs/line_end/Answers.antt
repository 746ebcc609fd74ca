-- `text::line_end` meets its contract: it counts the run that its chain takes. Assumes nothing.
use Rattle.std.proofs.Common.{◌+◌, drop, ap, rules, tests}
use Rattle.std.proofs.lemmas.Iterator.{YieldsList-from_slice}
use Rattle.std.proofs.lemmas.Iterator.Search.{YieldsList-from_take_while}
use Rattle.std.proofs.lemmas.Iterator.Consumers.{count_from_yields_List}
use Rattle.text.specs.Words.{in_line}
use Rattle.text.proofs.Turns.{run_counted}
use Rattle.text.proofs.line_end.Goals as goal

pub returns : goal.returns
returns c =
    ap (λ n. c.args.from + n) (run_counted in_line (drop c.args.from c.args.text.now) _ (count_from_yields_List c.take_while.result _ c.count.ensures.ran (YieldsList-from_take_while _ in_line (YieldsList-from_slice (drop c.args.from c.args.text.now) (cc c.rest.ensures)) c.take_while.ensures.closure c.take_while.ensures.done (λ x b q k. search (rules, tests)))))
