-- `entries::windows::with_high` meets its contract: by definition.
-- Assumes nothing.
use mathlib.Core.Path.{refl}
use Rattle.entries.specs.Entries.{with_high}
use Rattle.entries.proofs.windows.with_high.Goals as goal

pub returns : goal.returns
unfolding with_high
returns c = refl
