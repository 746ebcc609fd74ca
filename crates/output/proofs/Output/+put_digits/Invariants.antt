-- `output::Output::put_digits` calls itself with less room: the measure is the room.
-- Assumes nothing.
use Rattle.output.proofs.Output.+put_digits.Given as goal

abbrev pub decreases-put_digits : goal.decreases-put_digits
decreases-put_digits l = l.room
