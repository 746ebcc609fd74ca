-- Demand 3 on the small machine: the list of calls of ComputedExamples on both runs; a second way to the same events; and a third, whose
-- joined clocks differ in a field that clocks do not name.
-- Assumes nothing.
use Rattle.std.specs.Prelude.{◌≡◌, refl, ℕ, List, [], ◌∷◌, replicate}
use Rattle.std.proofs.Common.{arith}
use Rattle.std.proofs.lemmas.Bool.{false≢true}
use Rattle.laws.specs.Lists.{Each}
use Rattle.runs.specs.Batched.{Call, Session, Checkpoint, batched}
use Rattle.runs.specs.Stepwise.{stepwise}
use Rattle.runs.specs.Claim.{Orderly, TypedCall, NoClocksRefused, others, Agrees}
use Rattle.runs.specs.Ways.{SingleClocks, OneClock, none, kept, joined, records, ComesDownTo}
use Rattle.runs.proofs.Theorem.{equivalence, every_way, any_two_ways}
use Rattle.runs.specs.CounterMachine.{CounterEvent, ticks, apply, step, counter_machine}
use Rattle.runs.proofs.CounterMachineLaws.{Good, Typed, counter_laws}
use Rattle.runs.proofs.ComputedExamples.{event, start, calls, events, feed_is}

stepwise_passes : NoClocksRefused counter_machine (stepwise counter_machine start events).log
unfolding NoClocksRefused Each stepwise step apply ticks
stepwise_passes = (λ _. refl, (λ _. refl, (λ _. refl, (λ _. refl, (λ _. refl, (λ z. absurd (false≢true z), (λ _. refl, (λ _. refl, (λ _. refl, (λ _. refl, tt))))))))))

start_good : Good start
start_good = record { counter_byte = omega arith; register_byte = omega arith; clock_limit_lem = omega arith }

calls_typed : Each (TypedCall Typed) calls
unfolding Each TypedCall
calls_typed = ((omega arith, (omega arith, (omega arith, tt))), (tt, (tt, ((omega arith, tt), ((omega arith, (omega arith, (omega arith, (omega arith, tt)))), tt)))))

-- so the theorem speaks of this list
pub orderly : Each (Orderly Good) (batched counter_machine start calls).turns
orderly = (equivalence counter_machine Good Typed counter_laws start calls start_good calls_typed).orderly

pub agrees : Agrees counter_machine (batched counter_machine start calls).log (batched counter_machine start calls).end (stepwise counter_machine start events)
agrees = rw feed_is at ((equivalence counter_machine Good Typed counter_laws start calls start_good calls_typed).agrees (rw feed_is stepwise_passes))

-- from the events: their clocks are single; the calls above come down to them; and so does another way, cut after a joined pair with a checkpoint there
events_single : SingleClocks counter_machine events
unfolding Each
events_single = (λ _. omega arith, (λ _. omega arith, (λ _. omega arith, (λ _. omega arith, (λ _. omega arith, (λ _. omega arith, (λ _. omega arith, (λ _. omega arith, (λ _. omega arith, (λ _. omega arith, tt))))))))))

one_clock : (v : ℕ) → OneClock counter_machine (event 2 v 1)
one_clock v = record { clocks = refl; one = refl }

calls_way : ComesDownTo counter_machine events calls
unfolding records Each
calls_way = record {
  list = event 0 7 0 ∷ event 2 0 3 ∷ event 1 0 0 ∷ event 9 1 1 ∷ event 2 0 0 ∷ event 2 0 2 ∷ event 1 0 0 ∷ [];
  joins =
      kept _
      (joined (event 2 0 3) (replicate 3 (event 2 0 1)) refl (omega arith) refl (one_clock 0, (one_clock 0, (one_clock 0, tt)))
      (kept _ (kept _ (kept _ (joined (event 2 0 2) (replicate 2 (event 2 0 1)) refl (omega arith) refl (one_clock 0, (one_clock 0, tt)) (kept _ none))))));
  cuts = refl;
}

abbrev other_calls : List (Call CounterEvent)
other_calls =
    Session (event 0 7 0 ∷ event 2 0 2 ∷ []) (replicate 6 0)
    ∷ Checkpoint (replicate 5 0)
    ∷ Session (event 2 0 1 ∷ event 1 0 0 ∷ event 9 1 1 ∷ event 2 0 0 ∷ event 2 0 1 ∷ event 2 0 1 ∷ event 1 0 0 ∷ []) (replicate 21 0)
    ∷ []

other_calls_typed : Each (TypedCall Typed) other_calls
unfolding Each TypedCall
other_calls_typed = ((omega arith, (omega arith, tt)), (tt, ((omega arith, (omega arith, (omega arith, (omega arith, (omega arith, (omega arith, (omega arith, tt))))))), tt)))

other_calls_way : ComesDownTo counter_machine events other_calls
unfolding records Each
other_calls_way = record {
  list = event 0 7 0 ∷ event 2 0 2 ∷ event 2 0 1 ∷ event 1 0 0 ∷ event 9 1 1 ∷ event 2 0 0 ∷ event 2 0 1 ∷ event 2 0 1 ∷ event 1 0 0 ∷ [];
  joins =
      kept _
      (joined (event 2 0 2) (replicate 2 (event 2 0 1)) refl (omega arith) refl (one_clock 0, (one_clock 0, tt))
      (kept _ (kept _ (kept _ (kept _ (kept _ (kept _ (kept _ none))))))));
  cuts = refl;
}

pub two_ways : (others counter_machine (batched counter_machine start calls).log ≡ others counter_machine (batched counter_machine start other_calls).log)
    × ((batched counter_machine start calls).end ≡ (batched counter_machine start other_calls).end)
two_ways = any_two_ways counter_machine Good Typed counter_laws start events start_good events_single stepwise_passes calls other_calls calls_typed other_calls_typed calls_way other_calls_way

-- two clocks with other values, which clocks do not name, joined by a record with a third
abbrev mixed : List CounterEvent
mixed = event 2 5 1 ∷ event 2 6 1 ∷ event 1 0 0 ∷ []

abbrev mixed_calls : List (Call CounterEvent)
mixed_calls = Session (event 2 9 2 ∷ event 1 0 0 ∷ []) (replicate 6 0) ∷ []

mixed_way : ComesDownTo counter_machine mixed mixed_calls
unfolding records Each
mixed_way = record {
  list = event 2 9 2 ∷ event 1 0 0 ∷ [];
  joins = joined (event 2 9 2) (event 2 5 1 ∷ event 2 6 1 ∷ []) refl (omega arith) refl (one_clock 5, (one_clock 6, tt)) (kept _ none);
  cuts = refl;
}

mixed_passes : NoClocksRefused counter_machine (stepwise counter_machine start mixed).log
unfolding NoClocksRefused Each stepwise step apply ticks
mixed_passes = (λ _. refl, (λ _. refl, (λ _. refl, tt)))

mixed_single : SingleClocks counter_machine mixed
unfolding Each
mixed_single = (λ _. omega arith, (λ _. omega arith, (λ _. omega arith, tt)))

mixed_typed : Each (TypedCall Typed) mixed_calls
unfolding Each TypedCall
mixed_typed = ((omega arith, (omega arith, tt)), tt)

pub mixed_agrees : Agrees counter_machine (batched counter_machine start mixed_calls).log (batched counter_machine start mixed_calls).end (stepwise counter_machine start mixed)
mixed_agrees = (every_way counter_machine Good Typed counter_laws start mixed start_good mixed_single mixed_passes mixed_calls mixed_typed mixed_way).1
