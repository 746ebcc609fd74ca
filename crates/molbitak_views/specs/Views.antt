-- VIEWS ACROSS THE BOUNDARY: those of crate views, on `board_in`. Page tables and pokes cross as they are. Assumes nothing.
use Rattle.std.specs.Prelude.{ℕ, eqb}
use Rattle.laws.specs.Choice.{pick}
use Rattle.image_page.specs.Page.{offset_of}
use Rattle.bandai_fcg.specs.declared.board.Board.{Board}
use Rattle.views.specs.Views.{view_refusal, prg_at, chr_at}
use Rattle.board_codes.specs.declared.board.BoardC.{BoardC}
use Rattle.board_codes.specs.Codes.{board_in}
use Rattle.molbitak_views.specs.declared.image.ViewC.{ViewC}

-- where the page of an entry starts in an image of n bytes; 0 where the view is refused
unfoldable pub view_on : Board → ℕ → ℕ → ViewC
view_on b n entry = record { offset = pick (eqb (view_refusal b n) 0) (offset_of entry) 0; refusal = view_refusal b n }

unfoldable pub prg_view_on : BoardC → ℕ → ℕ → ViewC
prg_view_on b n addr = view_on (board_in b) n (prg_at (board_in b) addr)

unfoldable pub chr_view_on : BoardC → ℕ → ℕ → ViewC
chr_view_on b n addr = view_on (board_in b) n (chr_at (board_in b) addr)
