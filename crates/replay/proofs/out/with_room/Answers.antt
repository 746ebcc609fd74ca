-- `replay::out::with_room` meets its contract.
-- Assumes nothing.
use Rattle.std.proofs.Common.{refl, le-ltb, lt-ltb}
use Rattle.replay.proofs.out.with_room.Goals as goal

pub returns-then-player-lt32768 : goal.returns-then-player-lt32768
returns-then-player-lt32768 c = rw (lt-ltb _ _ c.if-player-lt32768.true) refl

pub returns-else-player-lt32768 : goal.returns-else-player-lt32768
returns-else-player-lt32768 c = rw (c.flushed.ensures, le-ltb _ _ c.if-player-lt32768.false) refl
