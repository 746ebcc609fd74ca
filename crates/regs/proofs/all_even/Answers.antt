-- `regs::all_even` meets its contract: what `all` answers is `every`. Assumes nothing.
use Rattle.std.proofs.Common.{◌≡◌, true, false, rules, tests}
use Rattle.std.proofs.lemmas.Iterator.{cases_from_all, YieldsList-from_slice}
use Rattle.laws.proofs.ChainLaws.{every_all}
use Rattle.regs.specs.Regs.{even}
use Rattle.regs.proofs.all_even.Goals as goal

pub returns : goal.returns
returns c = every_all even c.args.regs.now c.all.result (cases_from_all _ _ _ (λ x. even x ≡ true) (λ x. even x ≡ false) c.all.ensures.ran (YieldsList-from_slice c.args.regs.now cc) (λ x q k. search (rules, tests)) (λ x q k. search (rules, tests)))
