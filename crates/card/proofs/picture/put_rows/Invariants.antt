-- `card::picture::put_rows` meets its contract: the invariant is what is left to put.
-- Assumes nothing.
use Rattle.std.proofs.Common.{◌≡◌, ◌-◌}
use Rattle.output.specs.Put.{put_all, placed_in}
use Rattle.card.specs.Picture.{row_of, rows}
use Rattle.card.proofs.picture.put_rows.Given as goal

abbrev pub invariant-loop-i : goal.invariant-loop-i
invariant-loop-i l =
    (put_all (placed_in l.out) (rows (l.count - l._i) (row_of l.modules)) ≡ put_all (placed_in l.initial.out) (rows l.count (row_of l.modules)))
    × (l.out.bytes.ghost_name ≡ l.initial.out.bytes.ghost_name)
