-- VIEWS OF A LENT IMAGE AND POKES INTO IT: read `view_refusal`, `view_of` and `stored_in`, then the four calls. Entries of page tables are those
-- of crate entries, parts of an image and stores into it those of crate image_page. The laws are in ViewsLaws. Assumes nothing.
use Rattle.std.specs.Prelude.{List, [], Bool, true, false, ℕ, ◌/◌, ◌%◌, eqb, length}
use Rattle.laws.specs.Choice.{pick}
use Rattle.image_page.specs.Page.{offset_of, writable_of, part_of, poke_of}
use Rattle.bandai_fcg.specs.declared.board.Board.{Board}
use Rattle.validity.specs.Valid.{valid_board}
use Rattle.entries.specs.Entries.{layout_for, prg_entry, chr_entry}
use Rattle.views.specs.declared.table.Table.{Table}
use Rattle.views.specs.declared.table.Table.TheVariants.{Prg, Chr}

-- a view or a poke of an image of n bytes: 12, then 9 for a length that is not the layout's
unfoldable pub view_refusal : Board → ℕ → ℕ
view_refusal b n = pick (valid_board b) (pick (eqb n (layout_for b.bandai.cart).len) 0 9) 12

-- the entry of an address; CHR addresses count modulo 16,384
abbrev pub prg_at : Board → ℕ → ℕ
prg_at b addr = prg_entry b.bandai.cart b.bandai.regs (addr / 1024)

abbrev pub chr_at : Board → ℕ → ℕ
chr_at b addr = chr_entry b.bandai.cart b.bandai.regs (addr % 16384 / 1024)

-- the view of an entry's page; the empty part where it is refused
unfoldable pub view_of : Board → List ℕ → ℕ → List ℕ
view_of b image entry = pick (eqb (view_refusal b (length image)) 0) (part_of image (offset_of entry)) []

-- the image with a byte of that page stored; as it is where the page is read-only, and where the poke is refused
unfoldable pub stored_in : Board → List ℕ → ℕ → ℕ → ℕ → List ℕ
stored_in b image entry at v =
    pick (eqb (view_refusal b (length image)) 0) (pick (writable_of entry) (poke_of image (offset_of entry) at v) image) image

-- the four calls
abbrev pub prg_view : Board → List ℕ → ℕ → List ℕ
prg_view b image addr = view_of b image (prg_at b addr)

abbrev pub chr_view : Board → List ℕ → ℕ → List ℕ
chr_view b image addr = view_of b image (chr_at b addr)

abbrev pub prg_poke : Board → List ℕ → ℕ → ℕ → List ℕ
prg_poke b image addr v = stored_in b image (prg_at b addr) (addr % 1024) v

abbrev pub chr_poke : Board → List ℕ → ℕ → ℕ → List ℕ
chr_poke b image addr v = stored_in b image (chr_at b addr) (addr % 1024) v

-- the same by their table
abbrev pub table_of : Bool → Table
table_of true = Chr
table_of false = Prg

abbrev pub is_chr : Table → Bool
is_chr Prg = false
is_chr Chr = true

abbrev pub entry_at : Table → Board → ℕ → ℕ
entry_at Prg b addr = prg_at b addr
entry_at Chr b addr = chr_at b addr

abbrev pub view_in : Table → Board → List ℕ → ℕ → List ℕ
view_in Prg b image addr = prg_view b image addr
view_in Chr b image addr = chr_view b image addr

abbrev pub poke_in : Table → Board → List ℕ → ℕ → ℕ → List ℕ
poke_in Prg b image addr v = prg_poke b image addr v
poke_in Chr b image addr v = chr_poke b image addr v
