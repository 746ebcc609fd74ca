-- `molbitak_views::image::molbitak_image_len` meets its contract. Assumes nothing.
use mathlib.Core.Path.{refl}
use Rattle.molbitak_views.proofs.image.molbitak_image_len.Goals as goal

pub returns : goal.returns
returns c = rw c.layout-layout.ensures refl
