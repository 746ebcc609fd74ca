-- `pages::tables::page_tables` meets its contract: what it calls, then the tests on the way.
-- Assumes nothing.
use mathlib.Core.Path.{refl}
use Rattle.pages.specs.Pages.{page_tables}
use Rattle.pages.proofs.tables.page_tables.Goals as goal

pub returns-then-is_valid : goal.returns-then-is_valid
unfolding page_tables
returns-then-is_valid c = rw (← c.is_valid.ensures, c.if-is_valid.true) c.update_banks.ensures

pub returns-else-is_valid : goal.returns-else-is_valid
unfolding page_tables
returns-else-is_valid c = rw (← c.is_valid.ensures, c.if-is_valid.false) refl
