-- `eeprom_valid::zeros_from` meets its contract: the fold tests each byte from the place on.
-- Assumes nothing.
use Rattle.std.proofs.Common.{◌≡◌, ◌&&◌, ◌-◌, Bool, true, List, ℕ, length, take, drop, min, ◌∙◌, arith, rules, tests}
use Rattle.std.proofs.lemmas.Iterator.{YieldsList-from_slice}
use Rattle.std.proofs.lemmas.Iterator.Consumers.{fold_from_yields_List}
use Rattle.std.proofs.lemmas.List.{drop_min, take_all, length-drop}
use Rattle.laws.specs.Lists.{is_zero}
use Rattle.laws.proofs.ChainLaws.{every_fold}
use Rattle.eeprom_valid.proofs.zeros_from.Goals as goal

-- the slice that starts at the smaller of a place and the length is the list from the place on
tail : (bytes : List ℕ) (from : ℕ) → take (length bytes - min from (length bytes)) (drop (min from (length bytes)) bytes) ≡ drop from bytes
tail bytes from = take_all _ _ (omega (arith, length-drop (min from (length bytes)) bytes)) ∙ drop_min from bytes

pub returns : goal.returns
returns c =
    fold_from_yields_List _ (λ (zeros : Bool) x. zeros && is_zero x) true c.fold.result c.fold.ensures.ran (YieldsList-from_slice (drop c.args.from c.args.bytes.now) (let e = tail c.args.bytes.now c.args.from in cc)) (λ a x b q k. search (rules, tests))
    ∙ every_fold is_zero (drop c.args.from c.args.bytes.now) true
