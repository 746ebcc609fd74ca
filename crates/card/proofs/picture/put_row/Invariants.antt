-- `card::picture::put_row` meets its contract: the invariant is what is left to put.
-- Assumes nothing.
use Rattle.std.proofs.Common.{◌≡◌, drop, map}
use Rattle.output.specs.Put.{put_all, placed_in}
use Rattle.card.specs.Picture.{ink}
use Rattle.card.proofs.picture.put_row.Given as goal

abbrev pub invariant-loop-m : goal.invariant-loop-m
invariant-loop-m l =
    (put_all (placed_in l.out) (map ink (drop l.m-index l.modules)) ≡ put_all (placed_in l.initial.out) (map ink l.modules))
    × (l.out.bytes.ghost_name ≡ l.initial.out.bytes.ghost_name)
