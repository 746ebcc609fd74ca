-- `number::all_digits` meets its contract: the fold tests each byte. Assumes nothing.
use Rattle.std.proofs.Common.{◌&&◌, Bool, true, ◌∙◌, rules, tests}
use Rattle.std.proofs.lemmas.Iterator.{YieldsList-from_slice}
use Rattle.std.proofs.lemmas.Iterator.Consumers.{fold_from_yields_List}
use Rattle.laws.proofs.ChainLaws.{every_fold}
use Rattle.number.specs.Number.{is_digit_of}
use Rattle.number.proofs.all_digits.Goals as goal

pub returns : goal.returns
returns c =
    let f = is_digit_of c.args.hex in
    fold_from_yields_List _ (λ (all : Bool) x. all && f x) true c.fold.result c.fold.ensures.ran (YieldsList-from_slice c.args.word.now (cc)) (λ a x b q k. search (rules, tests))
    ∙ every_fold f c.args.word.now true
