-- `lines::answers::refused_lines` meets its contract: the invariant is what is left to put.
-- Assumes nothing.
use Rattle.std.proofs.Common.{◌≡◌, ◌-◌}
use Rattle.output.specs.Put.{put_all, placed_in}
use Rattle.lines.specs.Lines.{refused_lines}
use Rattle.lines.proofs.answers.refused_lines.Given as goal

abbrev pub invariant-loop-line : goal.invariant-loop-line
invariant-loop-line l =
    (put_all (placed_in l.out) (refused_lines l.refusal (l.count - l._line)) ≡ put_all (placed_in l.initial.out) (refused_lines l.refusal l.count))
    × (l.out.bytes.ghost_name ≡ l.initial.out.bytes.ghost_name)
