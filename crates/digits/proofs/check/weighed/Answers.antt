-- `digits::check::weighed` meets its contract: the invariant is what is left of the sum, modulo ten.
-- Assumes nothing.
use Rattle.std.proofs.Common.{◌∙◌, arith}
use Rattle.std.proofs.lemmas.Slice.Zip.{Zip-more, either_empty_from_Zip}
use Rattle.digits.proofs.Steps.{weighed_more, weighed_end}
use Rattle.digits.proofs.check.weighed.Goals as goal

pub loop-weight-preserved : goal.loop-weight-preserved
loop-weight-preserved c =
    let l = c.loop-weight in
    let m = Zip-more l.weight-iterator c.next.new.self c.next.result (c.in-Some.weight, c.in-Some.digit) c.in-Some.is c.next.ensures.steps in
    (omega arith, rw (c.from.ensures, c.from-in-loop-weight.ensures) (weighed_more l.sum _ _ _ _ _ _ m.0 m.1 ∙ l.invariant.1))

pub returns : goal.returns
returns c =
    let l = c.loop-weight in
    let e = weighed_end _ _ (either_empty_from_Zip l.weight-iterator c.next.new.self c.next.result c.in-None.is c.next.ensures.steps) in
    omega (arith, e, l.invariant.1, l.invariant.0)
