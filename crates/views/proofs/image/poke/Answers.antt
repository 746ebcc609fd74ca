-- `views::image::poke` meets its contract: a poke on a page that may be written, on one that may not, and a refused one.
-- Assumes nothing.
use mathlib.Core.Path.{sym, ◌∙◌}
use Rattle.views.proofs.Calls.{poke_stored, poke_read_only, poke_refused}
use Rattle.views.proofs.image.poke.Goals as goal

pub returns-in_err-page-clause-stored : goal.returns-in_err-page-clause-stored
returns-in_err-page-clause-stored c =
    let a = c.args in
    poke_refused a.table a.board a.image.now a.addr _ a.value c.in_err-page.ensures.number

pub returns-then-is_writable-clause-stored : goal.returns-then-is_writable-clause-stored
returns-then-is_writable-clause-stored c =
    let a = c.args in
    let e = c.in_ok-page.ensures in
    rw (c.poke.ensures, c.offset.ensures, c.place.ensures) (poke_stored a.table a.board a.image.now a.addr c.in_ok-page.page.0 a.value e.number e.page (sym c.is_writable.ensures ∙ c.if-is_writable.true))

pub returns-else-is_writable-clause-stored : goal.returns-else-is_writable-clause-stored
returns-else-is_writable-clause-stored c =
    let a = c.args in
    poke_read_only a.table a.board a.image.now a.addr c.in_ok-page.page.0 a.value c.in_ok-page.ensures.page (sym c.is_writable.ensures ∙ c.if-is_writable.false)
