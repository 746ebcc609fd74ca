-- `image::fill::fill_image` meets its contract: byte by byte.
-- Assumes nothing.
use Rattle.std.proofs.Common.{zero-add}
use Rattle.laws.proofs.TableLaws.{filled_more}
use Rattle.image.specs.Image.{image_byte}
use Rattle.image.proofs.fill.fill_image.Goals as goal

pub loop-i-preserved : goal.loop-i-preserved
loop-i-preserved c =
    let l = c.loop-i in
    rw (c.image_byte.ensures, l.invariant) (rw zero-add at (filled_more c.args.image.now 0 image_byte l.i))
