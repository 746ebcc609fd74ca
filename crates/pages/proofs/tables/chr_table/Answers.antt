-- `pages::tables::chr_table` meets its contract: CHR, the nametables and the nametables again are the table (`chr_whole`).
-- Assumes nothing.
use mathlib.Core.Path.{refl, ◌∙◌}
use Rattle.laws.specs.Lists.{blank}
use Rattle.pages.proofs.Laws.{chr_whole}
use Rattle.pages.proofs.tables.chr_table.Goals as goal

pub returns : goal.returns
unfolding blank
returns c =
    let a = c.args in
    c.repeat_nametables.ensures
    ∙ chr_whole a.cart a.regs _ (rw (c.set_mirroring.ensures, c.map_chr.ensures, c.requires) refl)
