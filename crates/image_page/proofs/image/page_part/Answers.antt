-- `image_page::image::page_part` meets its contract: a page that has an end lies within the image.
-- Assumes nothing.
use mathlib.Core.Path.{refl}
use native.Mathlib.Nat.{add-sub_cancel_left}
use lib.ListN.{length}
use borrow.Author.Tests.{le-leb}
use Rattle.image_page.specs.Page.{part_of}
use Rattle.image_page.proofs.Laws.{page_ends, page_has_no_end}
use Rattle.image_page.proofs.image.page_part.Goals as goal

pub returns-in-Some : goal.returns-in-Some
unfolding part_of
returns-in-Some c =
    let a = c.args in
    let p = page_ends (length a.image.now) a.offset c.in-Some.end c.in-Some.ensures in
    rw (p.0, add-sub_cancel_left, le-leb _ _ p.1) refl

pub returns-in-None : goal.returns-in-None
unfolding part_of
returns-in-None c = rw (page_has_no_end (length c.args.image.now) c.args.offset c.in-None.ensures) refl
