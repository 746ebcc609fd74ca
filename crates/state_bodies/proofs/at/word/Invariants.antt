-- `state_bodies::at::word` meets its contract: the invariant is the word of the bytes from the last one read on.
-- Assumes nothing.
use mathlib.Core.Path.{◌≡◌}
use Prim.Native.Nat.{◌+◌, ◌-◌, ◌^◌, ◌<◌}
use Rattle.laws.specs.Words.{word_at}
use Rattle.state_bodies.proofs.at.word.Given as goal

abbrev pub invariant-loop-i : goal.invariant-loop-i
invariant-loop-i l = (l.above ≡ word_at l.f (l.at + l.i) (l.width - l.i)) × (l.above < 256 ^ (l.width - l.i))
