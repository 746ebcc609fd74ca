-- `pages::tables::prg_table` meets its contract: the three windows one after the other are the table (`prg_whole`).
-- Assumes nothing.
use Rattle.laws.specs.Lists.{blank}
use Rattle.pages.proofs.Laws.{prg_whole}
use Rattle.pages.proofs.tables.prg_table.Goals as goal

pub returns : goal.returns
unfolding blank
returns c =
    let a = c.args in
    rw (c.map_pages-3.ensures, c.prg_rom-2.ensures, c.map_pages-2.ensures, c.prg_rom.ensures, c.map_pages.ensures, c.prg_ram.ensures, c.requires)
    (prg_whole a.cart a.regs)
