-- `FileBuffer::push_word` meets its contract: the invariant is what is left to push.
-- Assumes nothing.
use mathlib.Core.Path.{◌≡◌}
use Prim.Native.Nat.{◌-◌}
use Rattle.laws.specs.Words.{bytes_of}
use Rattle.state_bodies.specs.FileBuffer.{appended}
use Rattle.state_bodies.proofs.file_buffer.FileBuffer.push_word.Given as goal

abbrev pub invariant-loop : goal.invariant-loop
invariant-loop l = appended l.self (bytes_of (l.width - l.counter) l.rest) ≡ appended l.initial.self (bytes_of l.width l.word)
