-- `state_bodies::at::unpack` meets its contract: the invariant is what is left of the widths.
-- Assumes nothing.
use mathlib.Core.Path.{◌≡◌}
use Prim.Native.Nat.{◌+◌, ◌*◌, ◌≤◌}
use lib.ListN.{length, drop}
use lib.Seq.{sets}
use Rattle.laws.specs.Words.{unpacked}
use Rattle.state_bodies.proofs.at.unpack.Given as goal

abbrev pub invariant-loop-i : goal.invariant-loop-i
invariant-loop-i g l =
    (l.place ≤ l.at + 8 * l.i) × ((sets l.words l.i (unpacked (drop l.i l.widths) l.f l.place) ≡ sets l.initial.words 0 (unpacked l.widths l.f l.at)) × (length l.words ≡ length l.initial.words))
