-- `molbitak_step::clock::molbitak_clocks` meets its contract. Assumes nothing.
use Rattle.std.proofs.Common.{sym, arith}
use Rattle.event.specs.Event.{refusal_of}
use Rattle.molbitak_step.specs.PartsLaws.{clocks_taken}
use Rattle.molbitak_step.proofs.clock.molbitak_clocks.Goals as goal

pub returns-in-Ok : goal.returns-in-Ok
unfolding refusal_of
returns-in-Ok c =
    let a = c.args in
    let v = c.in-Ok.ensures in
    λ b. (v, rw (c.counter_clocks.ensures.0, c.counter_clocks.ensures.1, c.reader_clocks.ensures) (clocks_taken b a.clock.now a.counter.now a.count a.pending.now (omega arith) c.counter_clocks.ensures.2 a.fitted a.enabled (sym v)))
