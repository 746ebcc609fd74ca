-- THE PAGE TABLES OF A BOARD: each entry is that of the entries crate. Read `page_tables`. The laws are in PagesLaws. Assumes nothing.
use Rattle.std.specs.Prelude.{List, ℕ, Result, Ok, Err}
use Rattle.laws.specs.Choice.{pick}
use Rattle.laws.specs.Lists.{blank}
use Rattle.laws.specs.Table.{filled}
use Rattle.refusals.specs.declared.Refusal.{Refusal}
use Rattle.refusals.specs.Refusals.{refusal_number}
use Rattle.cart.specs.declared.Cart.{Cart}
use Rattle.regs.specs.declared.Regs.{Regs}
use Rattle.bandai_fcg.specs.declared.board.Board.{Board}
use Rattle.validity.specs.Valid.{valid_board}
use Rattle.entries.specs.Entries.{prg_entry, chr_entry}
use Rattle.pages.specs.declared.tables.PageTables.{PageTables}

-- both tables
abbrev pub prg_table : Cart → Regs → List ℕ
prg_table c r = filled (blank 64) 0 (prg_entry c r) 64

abbrev pub chr_table : Cart → Regs → List ℕ
chr_table c r = filled (blank 16) 0 (chr_entry c r) 16

-- what a caller is told: the entries of both tables, and the refusal or 0; of a refused board zeros
pub record Told : Type 0 where
  pub prg : List ℕ
  pub chr : List ℕ
  pub refusal : ℕ

abbrev pub told : Result PageTables Refusal → Told
told (Ok t) = record { prg = t.prg; chr = t.chr; refusal = 0 }
told (Err e) = record { prg = blank 64; chr = blank 16; refusal = refusal_number e }

unfoldable pub tables_of : Cart → Regs → Told
tables_of c r = record { prg = prg_table c r; chr = chr_table c r; refusal = 0 }

-- 12 for a board that is not valid
unfoldable pub page_tables : Board → Told
page_tables b = pick (valid_board b) (tables_of b.bandai.cart b.bandai.regs) (record { prg = blank 64; chr = blank 16; refusal = 12 })
