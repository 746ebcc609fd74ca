-- Laws of the module read: number and clocks spent are the elapsed clocks, exactly; the light is the module's of that number, and 0 past the
-- end; without a reader all three are 0. Each holds on every board, valid or not. Assumes nothing.
use Rattle.std.specs.Prelude.{◌≡◌, ℕ, ◌+◌, ◌-◌, ◌*◌, ◌/◌, ◌<◌, ◌≤◌, Bool, true, false, nat_lt, slice_index}
use Rattle.std.proofs.Math.Path.{refl}
use Rattle.std.proofs.lemmas.Bool.{false≢true}
use native.Mathlib.Omega.{arith}
use Rattle.std.proofs.Common.{lt-ltb, le-ltb}
use Rattle.laws.specs.Choice.{pick}
use Rattle.bandai_fcg.specs.declared.board.Board.{Board}
use Rattle.bandai_fcg.specs.declared.module_read.ModuleRead.{ModuleRead}
use Rattle.bandai_fcg.specs.Reader.{elapsed, module_read_at}
use Rattle.bandai_fcg.specs.Board.{module_read_of}

module _ (b : Board) where
  abbrev has_reader_lem : Bool
  has_reader_lem = b.bandai.has_barcode_reader

  abbrev clock : ℕ
  clock = b.bandai.barcode_reader.master_clock

  abbrev insert : ℕ
  insert = b.bandai.barcode_reader.insert_cycle

  abbrev count : ℕ
  count = b.bandai.barcode_reader.module_count

  -- what the board's reader shows, if it is fitted
  abbrev shown : Bool → ModuleRead
  shown has = module_read_at has clock insert count b.modules

  -- without a reader all three are 0
  pub no_reader : has_reader_lem ≡ false → module_read_of b ≡ record { number = 0; spent = 0; light = 0 }
  unfolding module_read_of module_read_at
  no_reader e = rw e refl

  -- the clocks spent in a module are 0 to 999
  pub spent_below : (module_read_of b).spent < 1000
  unfolding module_read_of module_read_at
  spent_below = go has_reader_lem
    where
      go : (has : Bool) → (shown has).spent < 1000
      go true = omega arith
      go false = omega arith

  -- number times 1,000 plus spent is exactly the elapsed clocks, past the end of the card too
  pub elapsed_exact : has_reader_lem ≡ true → (module_read_of b).number * 1000 + (module_read_of b).spent ≡ elapsed clock insert
  unfolding module_read_of module_read_at
  elapsed_exact e = rw e (omega arith)

  -- past the end of the card the light is 0
  pub light_past : count ≤ (module_read_of b).number → (module_read_of b).light ≡ 0
  unfolding module_read_of module_read_at
  light_past h = go has_reader_lem h
    where
      go : (has : Bool) → count ≤ (shown has).number → (shown has).light ≡ 0
      go true l = rw (le-ltb _ _ l) refl
      go false l = refl

  -- before it the light is that of the module of this number
  pub light_shown : has_reader_lem ≡ true → (module_read_of b).number < count → (module_read_of b).light ≡ slice_index b.modules (module_read_of b).number
  unfolding module_read_of module_read_at
  light_shown e h = go has_reader_lem e h
    where
      go : (has : Bool) → has ≡ true → (shown has).number < count → (shown has).light ≡ slice_index b.modules (shown has).number
      go true e l = rw (lt-ltb _ _ l) refl
      go false e l = absurd (false≢true e)

  -- the light is document 01's stripe: that of number (clock - insert clock) / 1,000; past the end, 0; 0 without a reader
  pub light_as_before : (module_read_of b).light ≡ pick has_reader_lem (pick (nat_lt ((clock - insert) / 1000) count) (slice_index b.modules ((clock - insert) / 1000)) 0) 0
  unfolding module_read_of module_read_at
  light_as_before = go has_reader_lem
    where
      go : (has : Bool) → (shown has).light ≡ pick has (pick (nat_lt ((clock - insert) / 1000) count) (slice_index b.modules ((clock - insert) / 1000)) 0) 0
      go true = refl
      go false = refl
