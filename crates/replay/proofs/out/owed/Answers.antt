-- `replay::out::owed` meets its contract: the report, then an empty output.
-- Assumes nothing.
use Rattle.std.proofs.Common.{◌≡◌, true, refl, ap, rules}
use Rattle.replay.specs.Replay.{flushed_of}
use Rattle.replay.proofs.out.owed.Goals as goal

pub returns-then-reads : goal.returns-then-reads
returns-then-reads c =
    let reads : c.args.reads ≡ true = search rules in
    rw (c.flushed.ensures, reads) (ap flushed_of c.reported.ensures)

pub returns-else-reads : goal.returns-else-reads
returns-else-reads c = rw c.if-reads.false refl
