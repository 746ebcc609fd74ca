-- `session_walk::run_session`'s loop: the turns that are left lead to the session's end.
-- Assumes nothing.
use Rattle.session.specs.Session.{ended}
use Rattle.session_walk.proofs.Invariant.{At}
use Rattle.session_walk.proofs.run_session.Given as goal

abbrev pub invariant-loop-i : goal.invariant-loop-i
invariant-loop-i l = At l.fn.board l.events l.fn.answers l.turns (ended l.run) l.answers l.i
