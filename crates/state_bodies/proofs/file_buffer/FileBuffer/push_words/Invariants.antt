-- `FileBuffer::push_words` meets its contract: the invariant is what is left of the widths and the words.
-- Assumes nothing.
use mathlib.Core.Path.{◌≡◌}
use lib.ListN.{length, drop}
use Rattle.laws.specs.Words.{packed}
use Rattle.state_bodies.specs.FileBuffer.{appended}
use Rattle.state_bodies.proofs.file_buffer.FileBuffer.push_words.Given as goal

abbrev pub invariant-loop-width : goal.invariant-loop-width
invariant-loop-width l = appended l.self (packed (drop (length l.yielded) l.widths) (drop (length l.yielded) l.words)) ≡ appended l.initial.self (packed l.widths l.words)
