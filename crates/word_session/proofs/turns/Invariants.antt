-- `word_session::turns` meets its contract: the records that are left lead to the end. Assumes nothing.
use mathlib.Core.Path.{◌≡◌}
use lib.ListN.{length, take}
use Rattle.session.specs.Turns.{turns_from}
use Rattle.event_words.specs.Words.{events_of}
use Rattle.word_session.specs.Apart.{end_of, RunWithin}
use Rattle.word_session.specs.WordsLaws.{left_from}
use Rattle.word_session.proofs.turns.Given as goal

abbrev pub invariant-loop-i : goal.invariant-loop-i
invariant-loop-i l =
    record {
      within : RunWithin l.run l.i;
      same : length l.answers ≡ length l.initial.answers;
      left : turns_from (end_of l.run l.arrays) l.i l.answers (left_from l.words l.i-end l.i) ≡ turns_from (end_of l.initial.run l.initial.arrays) 0 l.initial.answers (take l.i-end (events_of l.words));
    }
