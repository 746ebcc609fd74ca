-- `image_page::image::store_byte` meets its contract: a store past the end changes nothing.
-- Assumes nothing.
use mathlib.Core.Path.{refl, sym}
use lib.Seq.{set_out}
use Rattle.image_page.proofs.image.store_byte.Goals as goal

pub returns-then-at-page : goal.returns-then-at-page
returns-then-at-page c = refl

pub returns-else-at-page : goal.returns-else-at-page
returns-else-at-page c = sym (set_out c.args.page.now c.args.at c.args.value c.if-at-page.false)
