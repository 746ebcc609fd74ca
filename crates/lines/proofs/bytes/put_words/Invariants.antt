-- `lines::bytes::put_words` meets its contract: the invariant is what is left to put.
-- Assumes nothing.
use Rattle.std.proofs.Common.{◌≡◌, drop}
use Rattle.output.specs.Put.{put_all, placed_in}
use Rattle.lines.specs.Lines.{joined, spaced_word}
use Rattle.lines.proofs.bytes.put_words.Given as goal

abbrev pub invariant-loop-word : goal.invariant-loop-word
invariant-loop-word l =
    (put_all (placed_in l.out) (joined spaced_word (drop l.word-index l.words)) ≡ put_all (placed_in l.initial.out) (joined spaced_word l.words))
    × (l.out.bytes.ghost_name ≡ l.initial.out.bytes.ghost_name)
