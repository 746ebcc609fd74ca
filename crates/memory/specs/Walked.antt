-- How the code finds the entries of page tables: from a window's start a page further for each. What a table holds is defined in Memory
-- (`entry_of`, `nametable_of`); that the steps find the same is the law `walked` (WalkedLaws).
-- Assumes nothing.
use Rattle.std.specs.Prelude.{List, Bool, false, ℕ, zero, suc, ◌+◌, ◌-◌, ◌*◌, ◌%◌, eqb, leb, get_or}
use Rattle.laws.specs.Choice.{pick}
use Rattle.laws.specs.Lists.{blank}
use Rattle.laws.specs.Table.{filled}
use Rattle.image_layout.specs.declared.Region.{Region}
use Rattle.image_page.specs.Page.{page_of}
use Rattle.memory.specs.declared.Window.{Window}
use Rattle.memory.specs.Memory.{at_least_one, window_of, nametable_bank}

-- PAGES

-- a page further on in a region of `len` bytes: at its end, back to its beginning
unfoldable pub next_page : ℕ → ℕ → ℕ
next_page len at = pick (leb len (at + 1024)) (at + 1024 - len) (at + 1024)

-- how far page i of a window lies in its region
unfoldable pub walked_at : Window → ℕ → ℕ
walked_at w zero = w.base
walked_at w (suc i) = next_page w.len (walked_at w i)

-- the entry of the page `at` bytes into a window's region; 0 where that is empty
unfoldable pub page_at : Window → ℕ → ℕ
page_at w at = pick (eqb w.len 0) 0 (page_of (w.start + at) w.writable)

-- the entry of a window's page i
unfoldable pub walked_entry : Window → ℕ → ℕ
walked_entry w i = page_at w (walked_at w i)

-- the entry of the page at start i of a list
unfoldable pub start_entry : Window → List ℕ → ℕ → ℕ
start_entry w starts i = page_at w (get_or starts i 0)

-- the entry of nametable i in a table of CHR
abbrev pub nametable_in : List ℕ → ℕ → ℕ
nametable_in pages i = get_or pages (8 + i) 0

-- STARTS

-- a bank by the remainder of their number, at least 1
unfoldable pub wrapped_bank : ℕ → ℕ → ℕ
wrapped_bank bank banks = bank % at_least_one banks

-- the window of a size on a bank of a region, the number of banks given
unfoldable pub window_in : Region → Bool → ℕ → ℕ → ℕ → Window
window_in r writable size banks bank = record { start = r.start; len = r.len; base = wrapped_bank bank banks * size; writable = writable }

-- the window on a region from its beginning
unfoldable pub first_window : Region → Bool → Window
first_window r writable = record { start = r.start; len = r.len; base = 0; writable = writable }

-- where the page of a 1 KiB bank starts in a region
unfoldable pub page_start : Region → ℕ → ℕ
page_start r bank = (window_of r false 1024 bank).base

-- the starts of eight banks
abbrev pub bank_start : Region → List ℕ → ℕ → ℕ
bank_start r banks i = page_start r (get_or banks i 0)

unfoldable pub bank_starts : Region → List ℕ → List ℕ
bank_starts r banks = filled (blank 8) 0 (bank_start r banks) 8

-- the starts of the four nametables
abbrev pub nametable_start : Region → ℕ → ℕ → ℕ
nametable_start r m i = page_start r (nametable_bank m i)

unfoldable pub nametable_starts : Region → ℕ → List ℕ
nametable_starts r m = filled (blank 4) 0 (nametable_start r m) 4
