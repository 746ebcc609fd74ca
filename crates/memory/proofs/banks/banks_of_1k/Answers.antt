-- `memory::banks::banks_of_1k` meets its contract: the shift is the division by the bank's size (`banks_shift`).
-- Assumes nothing.
use Rattle.memory.proofs.WalkedLaws.{banks_shift}
use Rattle.memory.proofs.banks.banks_of_1k.Goals as goal

pub returns : goal.returns
returns c = banks_shift c.args.region 10
