-- `image_page::Page::is_writable` meets its contract: the test is that of the definition.
-- Assumes nothing.
use mathlib.Core.Path.{refl}
use Rattle.image_page.specs.Page.{writable_of}
use Rattle.image_page.proofs.Page.is_writable.Goals as goal

pub returns : goal.returns
unfolding writable_of
returns c = refl
