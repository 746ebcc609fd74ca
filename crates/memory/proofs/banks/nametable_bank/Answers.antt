-- `memory::banks::nametable_bank` meets its contract: the mask is the remainder (`column_is`), and the row is that of the definition (`row_in`).
-- Assumes nothing.
use mathlib.Core.Path.{refl}
use native.Mathlib.Omega.{arith}
use Rattle.memory.specs.Memory.{nametable_bank}
use Rattle.memory.proofs.Laws.{column_is, row_in}
use Rattle.memory.proofs.banks.nametable_bank.Goals as goal

pub returns : goal.returns
unfolding nametable_bank
returns c = rw (column_is c.args.i, row_in c.args.mirroring c.from.result (omega (arith, c.from.ensures, c.min.ensures))) refl
