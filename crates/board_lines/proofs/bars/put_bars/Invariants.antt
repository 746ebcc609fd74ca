-- `board_lines::bars::put_bars` meets its contract: the invariant is what is left to put.
-- Assumes nothing.
use Rattle.std.proofs.Common.{◌≡◌, drop}
use Rattle.output.specs.Put.{put_all, placed_in}
use Rattle.lines.specs.Lines.{joined}
use Rattle.board_lines.specs.BoardLines.{bar_of}
use Rattle.board_lines.proofs.bars.put_bars.Given as goal

abbrev pub invariant-loop-module : goal.invariant-loop-module
invariant-loop-module l =
    (put_all (placed_in l.out) (joined bar_of (drop l.module-index l.modules)) ≡ put_all (placed_in l.initial.out) (joined bar_of l.modules))
    × (l.out.bytes.ghost_name ≡ l.initial.out.bytes.ghost_name)
