-- `lines::pattern::put_pattern` meets its contract: the invariant is what is left to put.
-- Assumes nothing.
use Rattle.std.proofs.Common.{◌≡◌, drop}
use Rattle.std.specs.Slice.Iter.{iter_rest}
use Rattle.output.specs.Put.{put_all, placed_in}
use Rattle.lines.specs.Lines.{with_numbers}
use Rattle.lines.proofs.pattern.put_pattern.Given as goal

abbrev pub invariant-loop-b : goal.invariant-loop-b
invariant-loop-b l =
    (put_all (placed_in l.out) (with_numbers (drop l.b-index l.pattern) (iter_rest l.numbers)) ≡ put_all (placed_in l.initial.out) (with_numbers l.pattern l.fn.numbers))
    × (l.out.bytes.ghost_name ≡ l.initial.out.bytes.ghost_name)
