-- The entries of page tables: of windows on the regions of a memory image, and of nametables. THE DEFINITIONS TO READ, in this order:
-- `window_of` and `entry_of`, `nametable_of`. The laws are in MemoryLaws; Walked has the steps by which the code finds the same.
-- All are total: also for regions that no layout has.
-- Assumes nothing.
use Rattle.std.specs.Prelude.{List, [], ◌∷◌, Bool, true, ℕ, ◌+◌, ◌*◌, ◌/◌, ◌%◌, eqb, get_or}
use Rattle.laws.specs.Choice.{pick}
use Rattle.image_layout.specs.declared.Region.{Region}
use Rattle.image_page.specs.Page.{page_of}
use Rattle.memory.specs.declared.Window.{Window}

unfoldable pub at_least_one : ℕ → ℕ
at_least_one n = pick (eqb n 0) 1 n

-- the number of whole banks of a size in a region, and the same, at least 1
abbrev pub whole_banks : Region → ℕ → ℕ
whole_banks r size = r.len / at_least_one size

abbrev pub banks_of : Region → ℕ → ℕ
banks_of r size = at_least_one (whole_banks r size)

-- the window of a size on a bank of a region; the banks repeat, and a window of no bytes starts with its region
unfoldable pub window_of : Region → Bool → ℕ → ℕ → Window
window_of r writable size bank =
    record { start = r.start; len = r.len; base = bank % banks_of r size * size; writable = writable }

-- the entry of a window's page i: within the region, which repeats; 0 where it is empty
unfoldable pub entry_of : Window → ℕ → ℕ
entry_of w i = pick (eqb w.len 0) 0 (page_of (w.start + (w.base + i * 1024) % w.len) w.writable)

-- the CIRAM pages of the four nametables: vertical, horizontal, single screen A, single screen B
abbrev pub rows : List (List ℕ)
rows = (0 ∷ 1 ∷ 0 ∷ 1 ∷ []) ∷ (0 ∷ 0 ∷ 1 ∷ 1 ∷ []) ∷ (0 ∷ 0 ∷ 0 ∷ 0 ∷ []) ∷ (1 ∷ 1 ∷ 1 ∷ 1 ∷ []) ∷ []

-- four screens, and any other mirroring
abbrev pub four_screens : List ℕ
four_screens = 0 ∷ 1 ∷ 2 ∷ 3 ∷ []

abbrev pub row_of : ℕ → List ℕ
row_of m = get_or rows m four_screens

-- the bank of CIRAM that nametable i shows, counted by fours
unfoldable pub nametable_bank : ℕ → ℕ → ℕ
nametable_bank m i = get_or (row_of m) (i % 4) 0

-- the entry of nametable i: a writable window of one page on that bank
unfoldable pub nametable_of : Region → ℕ → ℕ → ℕ
nametable_of r m i = entry_of (window_of r true 1024 (nametable_bank m i)) 0
