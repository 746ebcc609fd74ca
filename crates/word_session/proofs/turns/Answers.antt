-- `word_session::turns` meets its contract: the records that are left lead to the end. Assumes nothing.
use Rattle.std.proofs.Common.{sym, ◌∙◌, ap, length}
use Rattle.word_session.specs.WordsLaws.{length_turn, went_on, turns_end, stays_within_turns}
use Rattle.word_session.proofs.turns.Goals as goal

pub loop-i-preserved : goal.loop-i-preserved
loop-i-preserved c =
    let t = c.turn-run.ensures in
    let before = c.loop-i.invariant in
    record {
      within = stays_within_turns _ _ _ _ _ _ t.0 before.within;
      same = ap length t.1 ∙ length_turn _ _ _ _ ∙ before.same;
      left = went_on _ _ _ _ _ _ _ _ t.0 t.1 c.event_at.ensures c.loop-i-test.true c.requires.1.0 ∙ before.left;
    }

pub returns : goal.returns
returns c = sym (turns_end _ _ _ _ _ c.loop-i-test.false) ∙ c.loop-i.invariant.left
