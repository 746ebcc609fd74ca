-- `gs1_cards::print::put_bars` meets its contract: the invariant is what is left to put.
-- Assumes nothing.
use Rattle.std.proofs.Common.{◌≡◌, drop, map}
use Rattle.output.specs.Put.{put_all, placed_in}
use Rattle.gs1_cards.specs.Cards.{bar}
use Rattle.gs1_cards.proofs.print.put_bars.Given as goal

abbrev pub invariant-loop-m : goal.invariant-loop-m
invariant-loop-m l =
    (put_all (placed_in l.out) (map bar (drop l.m-index l.modules)) ≡ put_all (placed_in l.initial.out) (map bar l.modules))
    × (l.out.bytes.ghost_name ≡ l.initial.out.bytes.ghost_name)
