-- Demand 3, proved once for every machine that has the laws. What is claimed is in Claim and Ways.
--     equivalence          demand 3: (a) and (b), for every good start state and every list of calls
--     every_way            the same from a list of events whose clocks are single: every way to join, cut and put checkpoints in between
--     any-two-ways         any two such ways agree
--     log-records          the records of the log are those that `records` reads off the calls: they do not depend on the run
--     down-to-feed         every list of calls is such a way, for the list that its records are fed as; feed-single of FeedLaws: whose clocks are single
--     as-one-session       every list has such a way: one session, say
use Rattle.std.specs.Prelude.{◌≡◌, ◌*◌, List, [], ◌∷◌}
use Rattle.std.proofs.Math.Path.{refl}
use Rattle.std.proofs.Common.{sym, ◌∙◌, arith, append-nil}
use Rattle.std.proofs.Math.Bool.{true}
use Rattle.std.proofs.Math.ListN.{length}
use borrow.Author.Tests.{le-leb}
use Rattle.laws.specs.Lists.{blank, Each}
use Rattle.laws.proofs.ListsLaws.{length_blank}
use Rattle.runs.specs.Machine.{Machine}
use Rattle.runs.proofs.Laws.{Laws}
use Rattle.runs.specs.Session.{has_room}
use Rattle.runs.specs.Log.{events_of}
use Rattle.runs.specs.Batched.{Call, Session, batched}
use Rattle.runs.specs.Stepwise.{feed}
use Rattle.runs.specs.Claim.{TypedCall, Equivalence}
use Rattle.runs.specs.Ways.{records, ComesDownTo, EveryWay, AnyTwoWays}
use Rattle.runs.proofs.BatchedLaws.{turns_orderly, batched_log, batched_end, batched_events, typed_records}
use Rattle.runs.proofs.FeedLaws.{feed_agrees}
use Rattle.runs.proofs.AlikeLaws.{joined_alike, joined_of_feed, joined_nowhere, alike_runs}

module _ {State Event : Type 0} (M : Machine State Event) (Good : State → Type 0) (Typed : Event → Type 0) (L : Laws M Good Typed) where
  pub equivalence : Equivalence M Good Typed
  equivalence s calls g t = record {
    orderly = turns_orderly M Good Typed L s calls g t;
    agrees = rw (batched_events M Good Typed L s calls g t, batched_log M Good Typed L s calls g t, batched_end M Good Typed L s calls g t)
        (feed_agrees M Good Typed L s (records M calls) g (typed_records M Good Typed L calls t));
  }

  pub log_records : (s : State) (calls : List (Call Event)) → Good s → Each (TypedCall Typed) calls → events_of (batched M s calls).log ≡ records M calls
  log_records s calls g t = batched_events M Good Typed L s calls g t

  pub every_way : EveryWay M Good Typed
  every_way s events g single passes calls t way =
      let all = equivalence s calls g t in
      let same : feed M (events_of (batched M s calls).log) ≡ feed M way.list = rw (log_records s calls g t, way.cuts) refl in
      let alike = alike_runs M Good Typed L (joined_alike M Good Typed L way.joins single) s in
      let a = rw same at (all.agrees (rw same (alike.refused_alike passes))) in
      (all.orderly, record { no_clocks_refused = a.no_clocks_refused; same_others = a.same_others ∙ sym alike.same_others; same_end = a.same_end ∙ sym alike.same_end })

  pub any_two_ways : AnyTwoWays M Good Typed
  any_two_ways s events g single passes cs ds t u way other =
      let a = (every_way s events g single passes cs t way).1 in
      let b = (every_way s events g single passes ds u other).1 in
      (a.same_others ∙ sym b.same_others, a.same_end ∙ sym b.same_end)

  pub down_to_feed : (calls : List (Call Event)) → ComesDownTo M (feed M (records M calls)) calls
  down_to_feed calls = record { list = records M calls; joins = joined_of_feed M Good Typed L (records M calls); cuts = refl }

module _ {State Event : Type 0} (M : Machine State Event) where
  pub as_one_session : (events : List Event) → ComesDownTo M events (Session events (blank (3 * length events)) ∷ [])
  unfolding records
  as_one_session events =
      let buffer = blank (3 * length events) in
      let room : has_room events buffer ≡ true = le-leb (3 * length events) (length buffer) (rw length_blank (omega arith)) in
      record { list = events; joins = joined_nowhere M events; cuts = rw (room, append-nil) refl }
