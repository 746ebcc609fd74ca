-- `number::read_hex` meets its contract: the invariant is what is left to put.
-- Assumes nothing.
use Rattle.std.proofs.Common.{◌≡◌}
use Rattle.std.specs.Slice.Iter.{chunks_exact_rest, chunks_exact_size}
use Rattle.number.specs.Number.{bytes_of}
use Rattle.output.specs.Put.{put_all, placed_in}
use Rattle.number.proofs.read_hex.Given as goal

abbrev pub invariant-loop-pair : goal.invariant-loop-pair
invariant-loop-pair l =
    (chunks_exact_size l.pair-iterator ≡ 2)
    × (put_all (placed_in l.out) (bytes_of (chunks_exact_rest l.pair-iterator)) ≡ put_all (placed_in l.initial.out) (bytes_of l.word))
    × (l.out.bytes.ghost_name ≡ l.initial.out.bytes.ghost_name)
