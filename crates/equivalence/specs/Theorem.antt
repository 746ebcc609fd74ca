-- DEMAND 3 OF THE BOARD. What is claimed is in crate runs: `Equivalence` (specs/Claim.antt) and, from a list of events, `EveryWay` and
-- `AnyTwoWays` (specs/Ways.antt), all over a machine. Here the machine is the board (BoardMachine). Its sessions and checkpoints are
-- `session board_rules` and `checkpoint valid_board board_file`, which the contracts of `run_session`, `run_words` and `checkpoint` cite. A
-- session has two forms: `run_session` walks a lent `&[Event]`; `run_words`, which the host runs, takes the same records lent as words
-- (WordCalls). A start state is any that is typed and valid (`Good`, validity/specs/Good.antt), an event any that is typed (`TypedEvent`,
-- event/specs/EventWords.antt); buffers are any at all.
-- Assumes nothing.
use Rattle.std.specs.Prelude.{◌≡◌, ◌+◌, ◌<◌, List, ◌∷◌, ◌++◌}
use Rattle.std.proofs.Common.{sym, ap, ◌∙◌, eq-eqb}
use Rattle.laws.specs.Lists.{Each}
use Rattle.runs.specs.Stepwise.{feed}
use Rattle.runs.specs.Claim.{Equivalent, Equivalence}
use Rattle.runs.specs.Ways.{EveryWay, AnyTwoWays}
use Rattle.runs.proofs.Theorem as Runs
use Rattle.runs.proofs.FeedLaws.{feed_two_clocks}
use Rattle.bandai_fcg.specs.declared.board.Board.{Board}
use Rattle.validity.specs.Good.{Good}
use Rattle.event.specs.declared.Event.{Event}
use Rattle.event.specs.EventWords.{TypedEvent}
use Rattle.session.specs.Session.{ElseAlike, board_rules}
use Rattle.session.proofs.SessionLaws.{single_own, single_same}
use Rattle.equivalence.specs.BoardMachine.{machine}
use Rattle.equivalence.specs.BoardLaws.{board_laws}
use Rattle.equivalence.specs.WordCalls.{WordCall, calls_of, LentWords}
use Rattle.equivalence.specs.WordCallsLaws.{calls_typed}

-- for every good board and every list of sessions and checkpoints: each call answers 0, or 10 and leaves the board as it got it, and leaves
-- a good board; and if the stepwise run refuses no clocks, the batched run refuses none, all other answers are equal, and so are the ends
pub demand_3 : Equivalence machine Good TypedEvent
demand_3 = Runs.equivalence machine Good TypedEvent board_laws

-- the same of the calls that the host makes, whose sessions are lent as words and run by `run_words`: nothing is asked of the events, since
-- words below 2^64 stand for typed ones. Every list of typed calls has its words (every-list, WordCallsLaws)
pub demand_3_words : (b : Board) (calls : List WordCall) → Good b → Each LentWords calls → Equivalent machine Good b (calls_of calls)
demand_3_words b calls g h = demand_3 b (calls_of calls) g (calls_typed calls h)

-- for every list of events in which clocks are single, and every way to join neighbouring clocks, cut the list into sessions and put
-- checkpoints in between, the answers to all other events and the end state are the same
pub every_way : EveryWay machine Good TypedEvent
every_way = Runs.every_way machine Good TypedEvent board_laws

pub any_two_ways : AnyTwoWays machine Good TypedEvent
any_two_ways = Runs.any_two_ways machine Good TypedEvent board_laws

-- "a clocks record of count n above 1 as n records of count 1, else alike": two neighbouring clocks records that are alike but for their counts,
-- n and m above 0, are fed as the record of count n + m, alike but for its count, is
pub two_clocks : (e f both : Event) (es fs : List Event) → e.kind ≡ 2 → 0 < e.count → 0 < f.count → both.count ≡ e.count + f.count → ElseAlike e both → ElseAlike f both →
    feed machine (es ++ e ∷ f ∷ fs) ≡ feed machine (es ++ both ∷ fs)
unfolding board_rules
two_clocks e f both es fs k n m sum a b =
    let ka : e.kind ≡ both.kind = ap (λ (x : Event). x.kind) a in
    let kf : f.kind ≡ both.kind = ap (λ (x : Event). x.kind) b in
    let kb = sym ka ∙ k in
    feed_two_clocks machine (λ x _. single_own x) e f both es fs (eq-eqb _ _ k) (eq-eqb _ _ (kf ∙ kb)) (eq-eqb _ _ kb) n m sum (single_same e both a) (single_same f both b)
