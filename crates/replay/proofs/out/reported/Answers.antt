-- `replay::out::reported` meets its contract.
-- Assumes nothing.
use Rattle.std.proofs.Common.{refl, le-leb}
use borrow.Author.Tests.{lt-leb}
use Rattle.replay.proofs.out.reported.Goals as goal

pub returns-then-left-le-LONGEST : goal.returns-then-left-le-LONGEST
returns-then-left-le-LONGEST c = rw (le-leb _ _ c.if-left-le-LONGEST.true) refl

pub returns-else-left-le-LONGEST : goal.returns-else-left-le-LONGEST
returns-else-left-le-LONGEST c = rw (lt-leb _ _ c.if-left-le-LONGEST.false) c.too_long.ensures
