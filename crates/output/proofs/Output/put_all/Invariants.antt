-- `output::Output::put_all` meets its contract: the invariant is what is left to put.
-- Assumes nothing.
use Rattle.std.proofs.Common.{◌≡◌, drop}
use Rattle.output.specs.Put.{put_all, placed_in}
use Rattle.output.proofs.Output.put_all.Given as goal

abbrev pub invariant-loop-byte : goal.invariant-loop-byte
invariant-loop-byte l =
    (put_all (placed_in l.self) (drop l.byte-index l.part) ≡ put_all (placed_in l.initial.self) l.part) × (l.self.bytes.ghost_name ≡ l.initial.self.bytes.ghost_name)
