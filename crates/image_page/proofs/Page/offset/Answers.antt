-- `image_page::Page::offset` meets its contract: the remainder is that of the definition.
-- Assumes nothing.
use Rattle.image_page.specs.Page.{offset_of}
use borrow.Author.Rules.{rules}
use Rattle.image_page.proofs.Page.offset.Goals as goal

pub returns : goal.returns
unfolding offset_of
returns c = search rules
