-- `image::fill::fill_image` meets its contract: byte by byte.
-- Assumes nothing.
use mathlib.Core.Path.{◌≡◌}
use Rattle.laws.specs.Table.{filled}
use Rattle.image.specs.Image.{image_byte}
use Rattle.image.proofs.fill.fill_image.Given as goal

abbrev pub invariant-loop-i : goal.invariant-loop-i
invariant-loop-i l = l.image ≡ filled l.initial.image 0 image_byte l.i
