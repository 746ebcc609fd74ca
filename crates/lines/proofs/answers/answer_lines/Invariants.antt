-- `lines::answers::answer_lines` meets its contract: the invariant is what is left to put.
-- Assumes nothing.
use Rattle.std.proofs.Common.{◌≡◌}
use Rattle.std.specs.Slice.Iter.{chunks_exact_rest, chunks_exact_size}
use Rattle.output.specs.Put.{put_all, placed_in}
use Rattle.lines.specs.Lines.{answer_lines}
use Rattle.lines.proofs.answers.answer_lines.Given as goal

abbrev pub invariant-loop-answer : goal.invariant-loop-answer
invariant-loop-answer l =
    (chunks_exact_size l.answer-iterator ≡ 3)
    × (put_all (placed_in l.out) (answer_lines (chunks_exact_rest l.answer-iterator)) ≡ put_all (placed_in l.initial.out) (answer_lines l.answers))
    × (l.out.bytes.ghost_name ≡ l.initial.out.bytes.ghost_name)
