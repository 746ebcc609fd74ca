-- `state_bodies::at::bytes_at` meets its contract: after i turns the first i bytes are stored.
-- Assumes nothing.
use mathlib.Core.Path.{◌≡◌}
use Prim.Native.Nat.{◌+◌}
use lib.ListN.{length}
use Rattle.state_bodies.specs.Bodies.{read_into}
use Rattle.state_bodies.proofs.at.bytes_at.Given as goal

abbrev pub invariant-loop-i : goal.invariant-loop-i
invariant-loop-i g l = (l.bytes ≡ read_into l.initial.bytes l.f (l.at + l.k) l.i) × (length l.bytes ≡ length l.initial.bytes)
