-- `molbitak_views::image::view_on` meets its contract: where the page that is found starts, or the refusal.
-- Assumes nothing.
use mathlib.Core.Path.{refl, ◌∙◌}
use borrow.Author.Tests.{ne_eqb}
use Rattle.views.proofs.Calls.{refusal_some}
use Rattle.molbitak_views.specs.Views.{view_on}
use Rattle.molbitak_views.proofs.image.view_on.Goals as goal

pub returns-in-Ok : goal.returns-in-Ok
unfolding view_on
returns-in-Ok c =
    let e = c.in-Ok.ensures in
    rw (c.offset.ensures, e.page, ← e.number) refl

pub returns-in-Err : goal.returns-in-Err
unfolding view_on
returns-in-Err c =
    let e = c.in-Err.ensures in
    rw (c.number.ensures, e.number, ne_eqb _ _ (λ z. refusal_some _ (e.number ∙ z))) refl
