-- `memory::banks::nametable_starts` meets its contract: each start is that of its nametable.
-- Assumes nothing.
use Rattle.std.proofs.Common.{rules}
use Rattle.memory.specs.Walked.{nametable_start, nametable_starts}
use Rattle.memory.proofs.Laws.{made}
use Rattle.memory.proofs.banks.nametable_starts.Goals as goal

pub returns : goal.returns
unfolding nametable_starts
returns c =
    let h = c.from_fn.ensures.items in
    made 4 c.from_fn.result (nametable_start c.args.ciram c.args.mirroring) h.long (λ i lt. let t = h.at i 0 lt in search rules)
