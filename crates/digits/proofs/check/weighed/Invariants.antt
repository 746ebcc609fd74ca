-- `digits::check::weighed` meets its contract: the invariant is what is left of the sum, modulo ten.
-- Assumes nothing.
use Rattle.std.proofs.Common.{◌≡◌, ◌+◌, ◌%◌, ◌<◌}
use Rattle.std.specs.Iterator.Adapters.{zip_first, zip_second}
use Rattle.std.specs.Slice.Iter.{iter_rest}
use Rattle.digits.specs.Digits.{weighed}
use Rattle.digits.proofs.check.weighed.Given as goal

abbrev pub invariant-loop-weight : goal.invariant-loop-weight
invariant-loop-weight l =
    let ws = iter_rest (zip_first l.weight-iterator) in
    let ds = iter_rest (zip_second l.weight-iterator) in
    (l.sum < 10) × ((l.sum + weighed ws ds) % 10 ≡ weighed l.weights l.digits % 10)
