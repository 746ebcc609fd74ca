-- `split_views::split::view_split` meets its contract: the page at the place that is found is the view of its table (`view_found`).
-- Assumes nothing.
use mathlib.Core.Path.{sym, ◌∙◌}
use Rattle.split_views.specs.declared.place.Place.TheVariants.{Rom, Ram}
use Rattle.split_views.proofs.Calls.{view_found}
use Rattle.split_views.proofs.split.view_split.Goals as goal

pub returns-in-Rom-clause-page : goal.returns-in-Rom-clause-page
returns-in-Rom-clause-page c =
    let a = c.args in
    let e = c.in_ok-offset.ensures in
    c.page_part.ensures ∙ view_found a.table a.board a.rom.now a.ram.now a.addr (Rom c.in-Rom.offset) e.number (sym c.in-Rom.is ∙ e.place)

pub returns-in-Ram-clause-page : goal.returns-in-Ram-clause-page
returns-in-Ram-clause-page c =
    let a = c.args in
    let e = c.in_ok-offset.ensures in
    c.page_part-in-Ram.ensures ∙ view_found a.table a.board a.rom.now a.ram.now a.addr (Ram c.in-Ram.offset) e.number (sym c.in-Ram.is ∙ e.place)
