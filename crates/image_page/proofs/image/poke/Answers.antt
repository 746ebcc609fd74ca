-- `image_page::image::poke` meets its contract: the store in the lent page is a store in the image (`poke_part`).
-- Assumes nothing.
use mathlib.Core.Path.{refl}
use native.Mathlib.Nat.{add-sub_cancel_left}
use lib.ListN.{length}
use Rattle.std.proofs.Common.{sym, ◌∙◌}
use Rattle.image_page.specs.Page.{poke_of}
use Rattle.image_page.proofs.Laws.{page_ends, page_has_no_end, poke_part}
use Rattle.image_page.proofs.image.poke.Goals as goal

pub returns-in-Some : goal.returns-in-Some
returns-in-Some c =
    let a = c.args in
    let p = page_ends (length a.image.now) a.offset c.in-Some.end c.in-Some.ensures in
    rw (c.store_byte.ensures, p.0, add-sub_cancel_left) (poke_part a.image.now a.offset a.at a.value p.1)

pub returns-in_default : goal.returns-in_default
unfolding poke_of
returns-in_default c = rw (page_has_no_end (length c.args.image.now) c.args.offset (sym c.in_default.is ∙ c.page_end.ensures)) refl
