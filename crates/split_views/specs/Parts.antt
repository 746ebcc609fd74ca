-- HOW THE CODE FINDS THEM: a part of the buffer that the entry's offset falls in, and a store in the second by the length of the first.
-- SplitViewsLaws says that they are the view and the poke of the two joined (`part_of_one`, `prg_stored_lem`, `chr_stored_lem`). Assumes nothing.
use Rattle.std.specs.Prelude.{List, [], ◌&&◌, ℕ, ◌-◌, ◌%◌, eqb, ltb, leb, length}
use Rattle.laws.specs.Choice.{pick}
use Rattle.image_page.specs.Page.{offset_of, writable_of, part_of, poke_of}
use Rattle.bandai_fcg.specs.declared.board.Board.{Board}
use Rattle.views.specs.declared.table.Table.{Table}
use Rattle.views.specs.declared.table.Table.TheVariants.{Prg, Chr}
use Rattle.views.specs.Views.{prg_at, chr_at}
use Rattle.split_views.specs.declared.place.Place.{Place}
use Rattle.split_views.specs.declared.place.Place.TheVariants.{Rom, Ram}
use Rattle.split_views.specs.SplitViews.{rom_len, split_refusal}

-- where the page of an entry starts: in the first buffer if its offset is below `ram_start`, else in the second
abbrev pub place_of : Board → ℕ → Place
place_of b entry = pick (ltb (offset_of entry) (rom_len b)) (Rom (offset_of entry)) (Ram (offset_of entry - rom_len b))

-- the page of an entry in the first buffer if its offset is below `ram_start`, else in the second
abbrev pub part_in : Board → List ℕ → List ℕ → ℕ → List ℕ
part_in b rom ram entry = pick (ltb (offset_of entry) (rom_len b)) (part_of rom (offset_of entry)) (part_of ram (offset_of entry - rom_len b))

unfoldable pub part_split : Board → List ℕ → List ℕ → ℕ → List ℕ
part_split b rom ram entry = pick (eqb (split_refusal b (length rom) (length ram)) 0) (part_in b rom ram entry) []

-- the second buffer with a byte of an entry's page stored, where the first has n bytes
unfoldable pub stored_split : Board → ℕ → List ℕ → ℕ → ℕ → ℕ → List ℕ
stored_split b n ram entry at v =
    pick (eqb (split_refusal b n (length ram)) 0)
    (pick (writable_of entry && leb (rom_len b) (offset_of entry)) (poke_of ram (offset_of entry - rom_len b) at v) ram)
    ram

abbrev pub prg_stored : Board → ℕ → List ℕ → ℕ → ℕ → List ℕ
prg_stored b n ram addr v = stored_split b n ram (prg_at b addr) (addr % 1024) v

abbrev pub chr_stored : Board → ℕ → List ℕ → ℕ → ℕ → List ℕ
chr_stored b n ram addr v = stored_split b n ram (chr_at b addr) (addr % 1024) v

abbrev pub split_store_in : Table → Board → ℕ → List ℕ → ℕ → ℕ → List ℕ
split_store_in Prg b n ram addr v = prg_stored b n ram addr v
split_store_in Chr b n ram addr v = chr_stored b n ram addr v
