-- `digits::Digits::push_decimal` calls itself with less room: the measure is the room.
-- Assumes nothing.
use Rattle.digits.proofs.Digits.+push_decimal.Given as goal

abbrev pub decreases-push_decimal : goal.decreases-push_decimal
decreases-push_decimal l = l.room
