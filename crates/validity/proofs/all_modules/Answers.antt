-- `validity::all_modules` meets its contract: the fold tests each byte. Assumes nothing.
use Rattle.std.proofs.Common.{◌&&◌, Bool, true, ◌∙◌, rules, tests}
use Rattle.std.proofs.lemmas.Iterator.{YieldsList-from_slice}
use Rattle.std.proofs.lemmas.Iterator.Consumers.{fold_from_yields_List}
use Rattle.barcode.specs.Barcode.{is_module}
use Rattle.laws.proofs.ChainLaws.{every_fold}
use Rattle.validity.proofs.all_modules.Goals as goal

pub returns : goal.returns
returns c =
    fold_from_yields_List _ (λ (all : Bool) x. all && is_module x) true c.fold.result c.fold.ensures.ran (YieldsList-from_slice c.args.bytes.now (cc)) (λ a x b q k. search (rules, tests))
    ∙ every_fold is_module c.args.bytes.now true
