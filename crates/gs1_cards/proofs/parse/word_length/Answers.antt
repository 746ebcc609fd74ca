-- `gs1_cards::parse::word_length` meets its contract: it counts the bytes that its chain takes. Assumes nothing.
use Rattle.std.proofs.Common.{◌≡◌, not, eqb, rules, tests}
use Rattle.std.proofs.lemmas.Iterator.{YieldsList-from_slice}
use Rattle.std.proofs.lemmas.Iterator.Search.{YieldsList-from_take_while}
use Rattle.std.proofs.lemmas.Iterator.Consumers.{count_from_yields_List}
use Rattle.gs1_cards.specs.Cards.{word_length}
use Rattle.gs1_cards.proofs.Words.{word_counted, word_within}
use Rattle.gs1_cards.proofs.parse.word_length.Goals as goal

pub returns : goal.returns
returns c =
    let line = c.args.line.now in
    let e : c.count.result ≡ word_length line = word_counted line _ (count_from_yields_List c.take_while.result _ c.count.ensures.ran (YieldsList-from_take_while _ (λ b. not (eqb b 32)) (YieldsList-from_slice line cc) c.take_while.ensures.closure c.take_while.ensures.done (λ x b q k. search (rules, tests)))) in
    (e, rw e (word_within line))
