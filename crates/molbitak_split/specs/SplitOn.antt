-- VIEWS OF TWO BUFFERS ACROSS THE BOUNDARY: where they lie, on `board_in`. The pokes cross as stores in the second buffer, by the length of the
-- first. SplitOnLaws says that these are the views of crate split_views. Assumes nothing.
use Rattle.std.specs.Prelude.{true, false, ℕ, ◌-◌, eqb, ltb}
use Rattle.laws.specs.Choice.{pick}
use Rattle.image_page.specs.Page.{offset_of}
use Rattle.bandai_fcg.specs.declared.board.Board.{Board}
use Rattle.views.specs.Views.{prg_at, chr_at}
use Rattle.split_views.specs.SplitViews.{rom_len, split_refusal}
use Rattle.board_codes.specs.declared.board.BoardC.{BoardC}
use Rattle.board_codes.specs.Codes.{board_in}
use Rattle.molbitak_split.specs.declared.SplitViewC.{SplitViewC}

-- where the page of an entry starts: in the first buffer if its offset is below `ram_start`, else in the second
abbrev pub page_on : Board → ℕ → SplitViewC
page_on b entry =
    pick (ltb (offset_of entry) (rom_len b))
    (record { offset = offset_of entry; in_ram = false; refusal = 0 })
    (record { offset = offset_of entry - rom_len b; in_ram = true; refusal = 0 })

-- in buffers of n and of m bytes; 0 in the first where the view is refused
unfoldable pub split_on : Board → ℕ → ℕ → ℕ → SplitViewC
split_on b n m entry =
    pick (eqb (split_refusal b n m) 0) (page_on b entry) (record { offset = 0; in_ram = false; refusal = split_refusal b n m })

unfoldable pub prg_split_on : BoardC → ℕ → ℕ → ℕ → SplitViewC
prg_split_on b n m addr = split_on (board_in b) n m (prg_at (board_in b) addr)

unfoldable pub chr_split_on : BoardC → ℕ → ℕ → ℕ → SplitViewC
chr_split_on b n m addr = split_on (board_in b) n m (chr_at (board_in b) addr)
