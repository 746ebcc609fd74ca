-- `pages::tables::update_banks` meets its contract: what it calls.
-- Assumes nothing.
use mathlib.Core.Path.{refl}
use Rattle.pages.specs.Pages.{tables_of}
use Rattle.pages.proofs.tables.update_banks.Goals as goal

pub returns : goal.returns
unfolding tables_of
returns c = rw (c.chr_table.ensures, c.prg_table.ensures) refl
