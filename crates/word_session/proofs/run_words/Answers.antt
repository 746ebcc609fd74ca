-- `word_session::run_words` meets its contract. Assumes nothing.
use Rattle.std.proofs.Common.{◌≡◌, ◌∙◌, ap, arith, List, ℕ, ◌*◌, ◌/◌, ◌≤◌, length, take}
use Rattle.runs.specs.Session.{session}
use Rattle.bandai_fcg.specs.declared.board.Board.{Board}
use Rattle.event_step.specs.declared.Arrays.{Arrays}
use Rattle.session.specs.Session.{Ended, board_rules}
use Rattle.session.specs.Turns.{begin_of, turns_from, parts}
use Rattle.session.proofs.TurnsLaws.{turns_room}
use Rattle.word_session.specs.declared.Run.{Run}
use Rattle.event_words.specs.Words.{events_of}
use Rattle.word_session.specs.Apart.{end_of, RunWithin}
use Rattle.word_session.specs.WordsLaws.{begins_within, words_by_turns, begins_within_turns}
use Rattle.word_session.proofs.run_words.Goals as goal

records_of : (r : Run) (a : Arrays) (z : Ended) → end_of r a ≡ z → r.records ≡ z.records
unfolding end_of
records_of r a z k = ap (λ (w : Ended). w.records) k

module _ (b : Board) (ws buffer : List ℕ) (run : Run) (arrays : Arrays) (k : end_of run arrays ≡ begin_of b (length ws / 3) (length buffer)) where
  starts : (3 * run.records ≤ length buffer) × ((3 * run.records ≤ length ws) × RunWithin run 0)
  starts =
      let z = records_of run arrays _ k in
      let room = turns_room b (length ws / 3) (length buffer) in
      let within = begins_within b (length ws / 3) (length buffer) in
      (rw z room, (rw z (omega (arith, within)), begins_within_turns b (length ws / 3) (length buffer) run arrays k))

  finish : (run' : Run) (arrays' : Arrays) (buffer' : List ℕ) → ◌≡◌ {A = Ended × List ℕ} (end_of run' arrays', buffer') (turns_from (end_of run arrays) 0 buffer (take run.records (events_of ws))) →
      ◌≡◌ {A = Ended × List ℕ} (end_of run' arrays', buffer') (parts (session board_rules b (events_of ws) buffer))
  finish run' arrays' buffer' t = t ∙ rw (k, records_of run arrays _ k) (words_by_turns b ws buffer)

pub turns-run-requires : goal.turns-run-requires
turns-run-requires c =
    let a = c.args in
    starts a.board a.words.now a.answers.now _ _ (c.begin_apart-begun.ensures _ c.from-arrays.ensures)

pub returns : goal.returns
unfolding end_of
returns c =
    let f = finish _ _ _ _ _ (c.begin_apart-begun.ensures _ c.from-arrays.ensures) _ _ _ c.turns-run.ensures in
    (rw c.beside.ensures (ap (λ (z : Ended × List ℕ). z.0) f), ap (λ (z : Ended × List ℕ). z.1) f)
