-- What `run_session`'s loop keeps, with no code in it: that the turns that are left lead to the session's end.
--     At               what holds where a turn may begin.        begun     where the first may.        onward     after a turn.        done     where no turn is left
-- Assumes nothing.
use Rattle.std.proofs.Common.{◌≡◌, refl, sym, ◌∙◌, ap, subst, arith, add-one, take, ℕ, ◌+◌, ◌*◌, ◌<◌, ◌≤◌, List, ◌∷◌, suc, length, get_or, drop, drop-cons, drop_of_length-le}
use Rattle.runs.specs.Session.{session}
use Rattle.bandai_fcg.specs.declared.board.Board.{Board}
use Rattle.event.specs.declared.Event.{Event}
use Rattle.session.specs.Session.{Ended, board_rules}
use Rattle.session.specs.Turns.{begin_of, turn_end, turn_buffer, turns_from, turns_taken, parts, CountsWithin}
use Rattle.session.proofs.TurnsLaws.{session_by_turns, turns_room, length_taken, records_taken, begin_counts, turn_counts}

module _ (st : Board) (ys : List Event) (out : List ℕ) where
  -- the events that have a turn
  abbrev pub taken : List Event
  taken = turns_taken st ys out

  -- where turn i may begin, of the turns ts
  pub record At (ts : List Event) (ran : Ended) (now : List ℕ) (i : ℕ) : Type 0 where
    pub turns : ts ≡ taken
    pub counts : CountsWithin ran i
    pub same : length now ≡ length out
    pub goes : turns_from ran i now (drop i taken) ≡ parts (session board_rules st ys out)

  pub begun : (r : Ended) (ts : List Event) → r ≡ begin_of st (length ys) (length out) → ts ≡ take r.records ys → At ts r out 0
  begun r ts e t = record {
    turns = t ∙ ap (λ (s : Ended). take s.records ys) e ∙ records_taken st ys out;
    counts = subst (λ (s : Ended). CountsWithin s 0) (sym e) (begin_counts st (length ys) (length out));
    same = refl;
    goes = ap (λ (s : Ended). turns_from s 0 out taken) e ∙ session_by_turns st ys out;
  }

  -- there are as many turns as the session's records say
  pub turns_within : (r : Ended) → r ≡ begin_of st (length ys) (length out) → r.records ≡ length (take r.records ys)
  turns_within r e = rw e (sym (ap length (records_taken st ys out) ∙ length_taken st ys out))

  module _ (ts : List Event) (ran : Ended) (now : List ℕ) (i : ℕ) (t : At ts ran now i) where
    pub in_room : i < length ts → 3 * i + 3 ≤ length now
    in_room h = omega (arith, ap length t.turns, t.same, length_taken st ys out, turns_room st (length ys) (length out))

    pub onward : i < length ts → (d : Event) (r : Ended) (ws : List ℕ) → r ≡ turn_end ran (get_or ts i d) → ws ≡ turn_buffer ran (get_or ts i d) i now → length ws ≡ length now → At ts r ws (i + 1)
    unfolding turns_from
    onward h d r ws er ew el =
        let inside : i < length taken = omega (arith, ap length t.turns) in
        let first : drop i taken ≡ get_or ts i d ∷ drop (suc i) taken = rw t.turns (drop-cons taken i d inside) in
        record {
          turns = t.turns;
          counts = subst (λ (s : Ended). CountsWithin s (i + 1)) (sym er) (turn_counts ran (get_or ts i d) i t.counts);
          same = el ∙ t.same;
          goes = rw (er, ew, add-one) (sym (ap (turns_from ran i now) first) ∙ t.goes);
        }

    pub done : length ts ≤ i → ◌≡◌ {A = Ended × List ℕ} (ran, now) (parts (session board_rules st ys out))
    unfolding turns_from
    done h = sym (ap (turns_from ran i now) (drop_of_length-le taken (omega (arith, ap length t.turns)))) ∙ t.goes
