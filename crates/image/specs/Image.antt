-- THE IMAGE of views and pokes, and the lines of pages and views. Read downwards. Assumes nothing.
use Rattle.std.specs.Prelude.{Bool, List, [], ◌∷◌, ◌++◌, ℕ, ◌*◌, ◌/◌, ◌%◌, eqb, ltb, length}
use Rattle.laws.specs.Choice.{pick}
use Rattle.bandai_fcg.specs.declared.board.Board.{Board}
use Rattle.validity.specs.Valid.{valid_board}
use Rattle.entries.specs.Entries.{layout_for}
use Rattle.pages.specs.Pages.{page_tables}
use Rattle.views.specs.Views.{view_refusal, prg_view, chr_view}
use Rattle.laws.specs.Codes.{codes}
use Rattle.lines.specs.Lines.{with_numbers, words_line, bytes_line}

abbrev pub least : ℕ → ℕ → ℕ
least a b = pick (ltb a b) a b

-- the layout's length, at most 1 MiB; 0 where the board is not valid
unfoldable pub image_length : Board → ℕ
image_length b = pick (valid_board b) (least (layout_for b.bandai.cart).len 1048576) 0

-- the byte at an offset: 0 in page 0, then one that tells offsets apart
unfoldable pub image_byte : ℕ → ℕ
image_byte o = pick (ltb o 1024) 0 (o * 2654435761 / 8192 % 256)

-- PAGES: the 64 entries of PRG, the 16 of CHR
unfoldable pub page_lines : Board → List ℕ
page_lines b = words_line (codes "prg") (page_tables b).prg ++ words_line (codes "chr") (page_tables b).chr

-- VIEW: the page that the PPU or the CPU sees, or the refusal alone
abbrev pub view_of : Board → List ℕ → Bool → ℕ → List ℕ
view_of b image chr addr = pick chr (chr_view b image addr) (prg_view b image addr)

unfoldable pub view_line : Board → List ℕ → Bool → ℕ → List ℕ
view_line b image chr addr =
    pick (eqb (view_refusal b (length image)) 0) (bytes_line (codes "view 0") (view_of b image chr addr))
    (with_numbers (codes "view #\n") (view_refusal b (length image) ∷ []))
