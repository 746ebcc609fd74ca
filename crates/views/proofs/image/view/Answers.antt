-- `views::image::view` meets its contract: the page that is found is the view of its table (`view_found`).
-- Assumes nothing.
use mathlib.Core.Path.{ap, ◌∙◌}
use Rattle.image_page.specs.Page.{part_of}
use Rattle.views.proofs.Calls.{view_found}
use Rattle.views.proofs.image.view.Goals as goal

pub returns-clause-page : goal.returns-clause-page
returns-clause-page c =
    let a = c.args in
    let e = c.in_ok-page.ensures in
    c.page_part.ensures ∙ ap (part_of a.image.now) c.offset.ensures ∙ view_found a.table a.board a.image.now a.addr c.in_ok-page.page.0 e.number e.page
