-- `card_decode::shown::read_in` meets its contract: the invariant is what is left to add.
-- Assumes nothing.
use Rattle.std.proofs.Common.{◌≡◌, ◌+◌, ◌*◌, drop}
use Rattle.laws.specs.Append.{append_all}
use Rattle.digits.specs.Digits.{stored}
use Rattle.card_decode.specs.Decode.{read_in}
use Rattle.card_decode.proofs.shown.read_in.Given as goal

abbrev pub invariant-loop-i : goal.invariant-loop-i
invariant-loop-i l =
    append_all 20 (stored l.digits) (read_in (drop l.i l.sets) (drop (l.at + 7 * l.i) l.list)) ≡ append_all 20 (stored l.initial.digits) (read_in l.sets (drop l.at l.list))
