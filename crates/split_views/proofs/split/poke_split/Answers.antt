-- `split_views::split::poke_split` meets its contract: the store in the second buffer is the poke of the two joined (`store_joined`).
-- Assumes nothing.
use Rattle.split_views.proofs.Calls.{store_joined}
use Rattle.split_views.proofs.split.poke_split.Goals as goal

pub returns-clause-joined : goal.returns-clause-joined
returns-clause-joined c =
    let a = c.args in
    rw c.store_split.ensures.stored (store_joined a.table a.board a.rom.now a.ram.now a.addr a.value)
