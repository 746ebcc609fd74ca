-- `molbitak_split::molbitak_ram_start` meets its contract. Assumes nothing.
use mathlib.Core.Path.{refl}
use Rattle.molbitak_split.proofs.molbitak_ram_start.Goals as goal

pub returns : goal.returns
returns c = rw c.layout-layout.ensures refl
