-- `barcode::Modules::extend` meets its contract: the invariant is what is left to add.
-- Assumes nothing.
use Rattle.std.proofs.Common.{sym, ◌∙◌, arith}
use Rattle.laws.proofs.AppendLaws.{append_more, append_end}
use Rattle.barcode.specs.Barcode.{stored}
use Rattle.barcode.proofs.Modules.extend.Goals as goal

pub loop-shade-preserved : goal.loop-shade-preserved
loop-shade-preserved c =
    let l = c.loop-shade in
    rw c.push.ensures (append_more 160 (stored l.self) c.args.part.now l.shade-index (omega arith) ∙ l.invariant)

pub returns : goal.returns
returns c =
    let l = c.loop-shade in
    sym (append_end 160 (stored l.self) c.args.part.now l.shade-index (omega arith)) ∙ l.invariant
