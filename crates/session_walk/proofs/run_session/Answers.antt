-- `session_walk::run_session` meets its contract: the loop begins with all turns left, each turn is one of them, and at the end none is left.
-- Assumes nothing.
use Rattle.std.proofs.Common.{ap, refl}
use Rattle.session_walk.proofs.Invariant.{turns_within, begun, onward, done}
use Rattle.session_walk.proofs.run_session.Goals as goal

pub slice_bounds-turns-end : goal.slice_bounds-turns-end
slice_bounds-turns-end c = turns_within _ _ _ _ c.begin-run.ensures

pub loop-i-init : goal.loop-i-init
loop-i-init c = begun _ _ _ _ _ c.begin-run.ensures refl

pub loop-i-preserved : goal.loop-i-preserved
loop-i-preserved c = onward _ _ _ _ _ _ _ c.loop-i.invariant c.loop-i-test.true _ _ _ c.turn-run.ensures.0 c.turn-run.ensures.1 c.turn-run.auto.answers

pub returns : goal.returns
returns c = let e = done _ _ _ _ _ _ _ c.loop-i.invariant c.loop-i-test.false in (ap (λ p. p.0) e, ap (λ p. p.1) e)
