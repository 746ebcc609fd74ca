-- Laws of the board: no module is shown past the end; n clocks one by one are n clocks at once; counts add up.
-- Assumes nothing.
use Rattle.std.specs.Prelude.{◌≡◌, ℕ, zero, suc, ◌+◌, ◌%◌, ◌^◌, ◌<◌, ◌≤◌, min, Bool, true, false, List, length, nat_lt, slice_index}
use Rattle.std.proofs.Math.Path.{refl}
use Rattle.std.proofs.Common.{sym, ◌∙◌, zero-add, suc-add, arith, ltb-true}
use Rattle.std.proofs.Math.ListN.{get_or-eq_default}
use Rattle.laws.specs.Choice.{pick}
use Rattle.bandai_fcg.specs.declared.barcode_reader.BarcodeReader.{BarcodeReader}
use Rattle.bandai_fcg.specs.declared.board.BandaiFCG.{BandaiFCG}
use Rattle.regs.specs.Regs.{tick_regs, ticks_regs}
use Rattle.bandai_fcg.specs.Reader.{tick_reader, counted_reader, light_at}
use Rattle.bandai_fcg.specs.BoardSet.{with_regs, with_reader}
use Rattle.bandai_fcg.specs.Board.{tick, ticks}

-- no module is shown past those that are counted, nor past the list
pub module_past : (modules : List ℕ) (count n : ℕ) → min count (length modules) ≤ n → light_at modules count n ≡ 0
module_past modules count n h = go (nat_lt n count) refl
  where
    go : (t : Bool) → nat_lt n count ≡ t → pick t (slice_index modules n) 0 ≡ 0
    go true e = get_or-eq_default {A = ℕ} modules 0 (omega (arith, ltb-true n count e))
    go false e = refl

-- n clocks at once
abbrev pub counted_ticks : ℕ → BandaiFCG → BandaiFCG
counted_ticks n b =
    pick b.has_barcode_reader (with_reader (counted_reader n b.barcode_reader) (with_regs (ticks_regs n b.regs) b)) (with_regs (ticks_regs n b.regs) b)

reader_none : (r : BarcodeReader) → r.master_clock < 2 ^ 64 → counted_reader 0 r ≡ r
reader_none r h =
    let e : (r.master_clock + 0) % 2 ^ 64 ≡ r.master_clock = omega arith in
    rw e refl

clock_more : (a n : ℕ) → (((a + 1) % 2 ^ 64) + n) % 2 ^ 64 ≡ (a + suc n) % 2 ^ 64
clock_more a n = omega arith

reader_more : (n : ℕ) (r : BarcodeReader) → counted_reader n (tick_reader r) ≡ counted_reader (suc n) r
reader_more n r = rw (clock_more r.master_clock n) refl

module _ (b : BandaiFCG) where
  counted_none : (has : Bool) → b.barcode_reader.master_clock < 2 ^ 64 → pick has (with_reader (counted_reader 0 b.barcode_reader) (with_regs b.regs b)) (with_regs b.regs b) ≡ b
  counted_none true h = rw (reader_none b.barcode_reader h) refl
  counted_none false h = refl

  counted_more : (n : ℕ) (has : Bool) → b.has_barcode_reader ≡ has → counted_ticks n (tick b) ≡ counted_ticks (suc n) b
  unfolding tick ticks_regs
  counted_more n true e = rw (e, reader_more n b.barcode_reader) refl
  counted_more n false e = rw e refl

tick_clock : (b : BandaiFCG) → b.barcode_reader.master_clock < 2 ^ 64 → (tick b).barcode_reader.master_clock < 2 ^ 64
unfolding tick
tick_clock b h = go b.has_barcode_reader
  where
    go : (has : Bool) → (pick has (with_reader (tick_reader b.barcode_reader) (with_regs (tick_regs b.regs) b)) (with_regs (tick_regs b.regs) b)).barcode_reader.master_clock < 2 ^ 64
    go true = omega arith
    go false = h

-- for a reader's clock of 64 bits
pub counted_ticks_lem : (n : ℕ) (b : BandaiFCG) → b.barcode_reader.master_clock < 2 ^ 64 → ticks n b ≡ counted_ticks n b
unfolding ticks ticks_regs
counted_ticks_lem zero b h = sym (counted_none b b.has_barcode_reader h)
counted_ticks_lem (suc n) b h = counted_ticks_lem n (tick b) (tick_clock b h) ∙ counted_more b n b.has_barcode_reader refl

-- n clocks and then m are n + m
pub ticks_add : (n m : ℕ) (b : BandaiFCG) → ticks (n + m) b ≡ ticks m (ticks n b)
unfolding ticks
ticks_add zero m b = rw zero-add refl
ticks_add (suc n) m b = rw (suc-add n m) (ticks_add n m (tick b))
