-- `player_decode::put_all_digits` meets its contract: the invariant is what is left to put. Assumes nothing.
use Rattle.std.proofs.Common.{◌≡◌, drop}
use Rattle.output.specs.Put.{put_all, placed_in, decimal_of}
use Rattle.lines.specs.Lines.{joined}
use Rattle.player_decode.proofs.put_all_digits.Given as goal

abbrev pub invariant-loop-digit : goal.invariant-loop-digit
invariant-loop-digit l =
    (put_all (placed_in l.out) (joined decimal_of (drop l.digit-index l.digits)) ≡ put_all (placed_in l.initial.out) (joined decimal_of l.digits))
    × (l.out.bytes.ghost_name ≡ l.initial.out.bytes.ghost_name)
