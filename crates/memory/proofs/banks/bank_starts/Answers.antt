-- `memory::banks::bank_starts` meets its contract: each start is that of its bank.
-- Assumes nothing.
use Rattle.std.proofs.Common.{rules}
use Rattle.memory.specs.Walked.{bank_start, bank_starts}
use Rattle.memory.proofs.Laws.{made}
use Rattle.memory.proofs.banks.bank_starts.Goals as goal

pub returns : goal.returns
unfolding bank_starts
returns c =
    let h = c.map.ensures.items in
    made 8 c.map.result (bank_start c.args.region c.args.banks) h.long (λ i lt. let t = h.at i 0 0 lt in search rules)
