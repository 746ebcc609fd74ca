-- VIEWS AND POKES OF AN IMAGE THAT IS LENT AS TWO BUFFERS: the first holds its bytes up to `ram_start`, the second the rest. Read
-- `lengths_fit`, `split_refusal`, `view_split` and `poke_split`, then the four calls. A view and a poke are those of the two joined, which crate views defines.
-- The laws are in SplitViewsLaws; how the code finds the part of one buffer is in Parts. Assumes nothing.
use Rattle.std.specs.Prelude.{List, [], ◌++◌, Bool, ◌&&◌, ℕ, ◌-◌, ◌%◌, eqb, length}
use Rattle.laws.specs.Choice.{pick}
use Rattle.bandai_fcg.specs.declared.board.Board.{Board}
use Rattle.validity.specs.Valid.{valid_board}
use Rattle.entries.specs.Entries.{layout_for}
use Rattle.views.specs.declared.table.Table.{Table}
use Rattle.views.specs.declared.table.Table.TheVariants.{Prg, Chr}
use Rattle.views.specs.Views.{prg_at, chr_at, view_of, stored_in}

-- the lengths of the two buffers
abbrev pub rom_len : Board → ℕ
rom_len b = (layout_for b.bandai.cart).ram_start

abbrev pub ram_len : Board → ℕ
ram_len b = (layout_for b.bandai.cart).len - (layout_for b.bandai.cart).ram_start

-- two buffers of n and of m bytes have these lengths: each is tested, not their sum
abbrev pub lengths_fit : Board → ℕ → ℕ → Bool
lengths_fit b n m = eqb n (rom_len b) && eqb m (ram_len b)

-- a view or a poke of two buffers: 12, then 9 where either length is wrong
unfoldable pub split_refusal : Board → ℕ → ℕ → ℕ
split_refusal b n m = pick (valid_board b) (pick (lengths_fit b n m) 0 9) 12

-- the view of an entry's page; the empty part where it is refused
unfoldable pub view_split : Board → List ℕ → List ℕ → ℕ → List ℕ
view_split b rom ram entry = pick (eqb (split_refusal b (length rom) (length ram)) 0) (view_of b (rom ++ ram) entry) []

-- the two joined after a poke; as they are where it is refused
unfoldable pub poke_split : Board → List ℕ → List ℕ → ℕ → ℕ → ℕ → List ℕ
poke_split b rom ram entry at v =
    pick (eqb (split_refusal b (length rom) (length ram)) 0) (stored_in b (rom ++ ram) entry at v) (rom ++ ram)

-- the four calls
abbrev pub prg_split : Board → List ℕ → List ℕ → ℕ → List ℕ
prg_split b rom ram addr = view_split b rom ram (prg_at b addr)

abbrev pub chr_split : Board → List ℕ → List ℕ → ℕ → List ℕ
chr_split b rom ram addr = view_split b rom ram (chr_at b addr)

abbrev pub prg_poke_split : Board → List ℕ → List ℕ → ℕ → ℕ → List ℕ
prg_poke_split b rom ram addr v = poke_split b rom ram (prg_at b addr) (addr % 1024) v

abbrev pub chr_poke_split : Board → List ℕ → List ℕ → ℕ → ℕ → List ℕ
chr_poke_split b rom ram addr v = poke_split b rom ram (chr_at b addr) (addr % 1024) v

-- the same by their table
abbrev pub split_in : Table → Board → List ℕ → List ℕ → ℕ → List ℕ
split_in Prg b rom ram addr = prg_split b rom ram addr
split_in Chr b rom ram addr = chr_split b rom ram addr

abbrev pub split_poke_in : Table → Board → List ℕ → List ℕ → ℕ → ℕ → List ℕ
split_poke_in Prg b rom ram addr v = prg_poke_split b rom ram addr v
split_poke_in Chr b rom ram addr v = chr_poke_split b rom ram addr v
