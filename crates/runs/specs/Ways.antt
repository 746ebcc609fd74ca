-- Demand 3 from a list of events in which clocks are single: every way to join neighbouring clocks, to cut the list into sessions and to put
-- checkpoints in between gives the other events the same answers and ends in the same state. Definitions; the proofs are in Theorem. Assumes nothing.
use Rattle.std.specs.Prelude.{◌≡◌, ◌≤◌, ◌<◌, true, List, [], ◌∷◌, ◌++◌, length}
use Rattle.laws.specs.Choice.{pick}
use Rattle.laws.specs.Lists.{Each}
use Rattle.runs.specs.Machine.{Machine}
use Rattle.runs.specs.Session.{has_room}
use Rattle.runs.specs.Batched.{Call, Session, Checkpoint, batched}
use Rattle.runs.specs.Stepwise.{stepwise}
use Rattle.runs.specs.Claim.{Orderly, TypedCall, NoClocksRefused, others, Agrees}

module _ {State Event : Type 0} (M : Machine State Event) where
  open M.rules use {is_clocks, count}

  -- a list in which clocks are single: of count 1, or of count 0, which does nothing
  abbrev pub SingleClocks : List Event → Type 0
  SingleClocks = Each (λ e. is_clocks e ≡ true → count e ≤ 1)

  -- one clock; the fields that clocks do not name may be any
  pub record OneClock (p : Event) : Type 0 where
    pub clocks : is_clocks p ≡ true
    pub one : count p ≡ 1

  -- a list, and the list with some of its neighbouring clocks joined: any n above 1 of them, one beside the other, are one record of count n
  pub data Joined : List Event → List Event → Type 0 where
    none : Joined [] []
    kept : (e : Event) {es fs : List Event} → Joined es fs → Joined (e ∷ es) (e ∷ fs)
    joined : (e : Event) (ps : List Event) {es fs : List Event} → is_clocks e ≡ true → 1 < count e → length ps ≡ count e → Each OneClock ps → Joined es fs → Joined (ps ++ es) (e ∷ fs)

  -- the records that a call takes: all of a session that has room
  abbrev pub taken : Call Event → List Event
  taken (Session es buffer) = pick (has_room es buffer) es []
  taken (Checkpoint buffer) = []

  -- the list that the calls cut: the records that they take, in order; checkpoints and sessions without room may stand anywhere
  unfoldable pub records : List (Call Event) → List Event
  records [] = []
  records (c ∷ cs) = taken c ++ records cs

  -- the calls are one of those ways for the list `events`
  pub record ComesDownTo (events : List Event) (calls : List (Call Event)) : Type 0 where
    pub list : List Event
    pub joins : Joined events list
    pub cuts : records calls ≡ list

  -- whichever way is taken, all other answers and the end state are those of the list stepwise
  abbrev pub EveryWay : (Good : State → Type 0) (Typed : Event → Type 0) → Type 0
  EveryWay Good Typed =
      (s : State) (events : List Event) → Good s → SingleClocks events → NoClocksRefused M (stepwise M s events).log →
      (calls : List (Call Event)) → Each (TypedCall Typed) calls → ComesDownTo events calls →
      let batch = batched M s calls in
      Each (Orderly Good) batch.turns × Agrees M batch.log batch.end (stepwise M s events)

  -- so any two ways agree
  abbrev pub AnyTwoWays : (Good : State → Type 0) (Typed : Event → Type 0) → Type 0
  AnyTwoWays Good Typed =
      (s : State) (events : List Event) → Good s → SingleClocks events → NoClocksRefused M (stepwise M s events).log →
      (cs ds : List (Call Event)) → Each (TypedCall Typed) cs → Each (TypedCall Typed) ds → ComesDownTo events cs → ComesDownTo events ds →
      (others M (batched M s cs).log ≡ others M (batched M s ds).log) × ((batched M s cs).end ≡ (batched M s ds).end)
