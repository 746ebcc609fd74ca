-- `script::numbers::read_words` meets its contract: the invariant is what is left to read.
-- Assumes nothing.
use Rattle.std.proofs.Common.{◌≡◌}
use Rattle.text.specs.Words.{words}
use Rattle.script.specs.Script.{as_numbers, read_words, numbers_of}
use Rattle.script.proofs.numbers.read_words.Given as goal

abbrev pub invariant-loop-word : goal.invariant-loop-word
invariant-loop-word l =
    (goal.iterator-loop-word).can_next l.word-iterator
    × (goal.iterator-loop-word).is_finite l.word-iterator
    × (read_words (as_numbers l.all) (words l.word-iterator.code.now) ≡ numbers_of (words l.fn.list.code.now))
