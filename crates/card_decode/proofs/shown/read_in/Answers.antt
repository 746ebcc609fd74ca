-- `card_decode::shown::read_in` meets its contract: the invariant is what is left to add.
-- Assumes nothing.
use Rattle.std.proofs.Common.{sym, ◌∙◌, arith}
use Rattle.digits.specs.Digits.{stored}
use Rattle.card_decode.proofs.Steps.{read_more, read_end}
use Rattle.card_decode.proofs.shown.read_in.Goals as goal

pub loop-i-preserved : goal.loop-i-preserved
loop-i-preserved c =
    let l = c.loop-i in
    let a = c.args in
    rw (c.push.ensures, c.digit_in.ensures.0, c.seven.ensures) (read_more (stored l.digits) a.sets.now a.list.now a.at l.i (omega arith) ∙ l.invariant)

pub returns : goal.returns
returns c =
    let l = c.loop-i in
    let a = c.args in
    sym (read_end (stored l.digits) a.sets.now a.list.now a.at l.i (omega arith)) ∙ l.invariant
