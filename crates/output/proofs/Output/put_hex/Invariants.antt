-- `output::Output::put_hex` meets its contract: the invariant is what is left to put.
-- Assumes nothing.
use Rattle.std.proofs.Common.{◌≡◌, drop}
use Rattle.output.specs.Put.{put_all, placed_in, hex_of}
use Rattle.output.proofs.Output.put_hex.Given as goal

abbrev pub invariant-loop-byte : goal.invariant-loop-byte
invariant-loop-byte l =
    (put_all (placed_in l.self) (hex_of (drop l.byte-index l.bytes)) ≡ put_all (placed_in l.initial.self) (hex_of l.bytes)) × (l.self.bytes.ghost_name ≡ l.initial.self.bytes.ghost_name)
