-- `entries::entry::chr_entry` meets its contract: what it calls, then the tests on the way.
-- Assumes nothing.
use mathlib.Core.Path.{refl}
use borrow.Author.Tests.{lt-ltb, le-ltb}
use Rattle.entries.specs.Entries.{chr_entry}
use Rattle.entries.proofs.entry.chr_entry.Goals as goal

pub returns-then-k-lt8 : goal.returns-then-k-lt8
unfolding chr_entry
returns-then-k-lt8 c = rw (c.chr_page.ensures, lt-ltb _ _ c.if-k-lt8.true) refl

pub returns-else-k-lt8 : goal.returns-else-k-lt8
unfolding chr_entry
returns-else-k-lt8 c = rw (c.nametable_entry.ensures, c.layout-layout.ensures, le-ltb _ _ c.if-k-lt8.false) refl
