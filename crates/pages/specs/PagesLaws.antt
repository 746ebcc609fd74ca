-- Laws of page tables: a valid board's sizes are within the limit, and so each entry of its tables shows a page that lies wholly within an
-- image of the layout's length (`prg_table_shows`, `chr_table_shows`). Assumes nothing.
use Rattle.std.specs.Prelude.{◌≡◌, refl, ◌⊎◌, Bool, true, false, ◌||◌, ℕ, ◌+◌, ◌<◌, eqb, leb, get_or}
use Rattle.std.proofs.Common.{inl, inr, zero-add, arith, eqb-true, leb-true}
use Rattle.std.specs.Int.Bits.{bit_or, or_zero_r, or_shifted_r}
use Rattle.laws.proofs.ChoiceLaws.{both_true}
use Rattle.laws.specs.Lists.{blank}
use Rattle.laws.proofs.ListsLaws.{length_blank, get_d_blank}
use Rattle.laws.proofs.TableLaws.{filled_all, filled_in}
use Rattle.image_layout.specs.LayoutLaws.{Limited, Laid, laid}
use Rattle.memory.proofs.MemoryLaws.{Shows, unmapped_shows}
use Rattle.cart.specs.declared.Cart.{Cart}
use Rattle.regs.specs.declared.Regs.{Regs}
use Rattle.bandai_fcg.specs.declared.board.Board.{Board}
use Rattle.cart.specs.Cart.{sizes_within, cart_refusal}
use Rattle.validity.specs.Valid.{valid_board}
use Rattle.validity.specs.ValidLaws.{valid_parts, cart_listed}
use Rattle.entries.proofs.EntriesLaws.{prg_shows, chr_shows}
use Rattle.entries.specs.Entries.{sizes_of, layout_for, with_high, prg_entry, chr_entry}
use Rattle.pages.specs.Pages.{prg_table, chr_table}

-- A VALID BOARD. Its sizes are within the limit
pub sizes_within_lem : (c : Cart) → cart_refusal c ≡ 0 → sizes_within c ≡ true
sizes_within_lem c h = (cart_listed c h).sizes

pub limited : (c : Cart) → sizes_within c ≡ true → Limited (sizes_of c)
limited c h =
    let ex = both_true _ (leb c.ex_ram_size 16777216) h in
    let ci = both_true _ (leb c.ciram_size 16777216) ex.0 in
    let be = both_true _ (leb c.battery_ext_size 16777216) ci.0 in
    let pr = both_true _ (leb c.prg_ram_size 16777216) be.0 in
    let cr = both_true _ (leb c.chr_ram_size 16777216) pr.0 in
    let ro = both_true (leb c.prg_rom_size 16777216) (leb c.chr_rom_size 16777216) cr.0 in
    record {
      prg_rom = leb-true _ _ ro.0;
      chr_rom = leb-true _ _ ro.1;
      chr_ram = leb-true _ _ cr.1;
      prg_ram = leb-true _ _ pr.1;
      battery_ext = leb-true _ _ be.1;
      ciram = leb-true _ _ ci.1;
      ex_ram = leb-true _ _ ex.1;
    }

pub board_limited : (b : Board) → valid_board b ≡ true → Limited (sizes_of b.bandai.cart)
board_limited b v = limited b.bandai.cart (sizes_within_lem b.bandai.cart (valid_parts b v).cart)

pub board_laid : (b : Board) → valid_board b ≡ true → Laid (layout_for b.bandai.cart)
board_laid b v = laid (sizes_of b.bandai.cart) (board_limited b v)

-- the high bank is 0 or 16 and a PRG page below 16, so that to OR them is to add them
pub high_sum : (b : Board) → valid_board b ≡ true → (bank : ℕ) → bank < 16 → with_high b.bandai.regs bank ≡ bank + b.bandai.regs.prg_bank_select
unfolding with_high
high_sum b v bank h = go b.bandai.regs.prg_bank_select (either _ _ (both_true (leb b.bandai.regs.prg_page 15) _ (both_true _ _ (valid_parts b v).regs).0).1)
  where
    either : (p q : Bool) → (p || q) ≡ true → (p ≡ true) ⊎ (q ≡ true)
    either true q e = inl refl
    either false q e = inr e

    go : (s : ℕ) → (eqb s 0 ≡ true) ⊎ (eqb s 16 ≡ true) → bit_or bank s ≡ bank + s
    go s (inl e) = rw (eqb-true s 0 e, or_zero_r bank) (omega arith)
    go s (inr e) = rw (eqb-true s 16 e, or_shifted_r 1 4 bank h) (omega arith)

-- TABLES, of any cart whose sizes are within the limit

module _ (c : Cart) (r : Regs) (h : Limited (sizes_of c)) where
  pub prg_table_shows : (k : ℕ) → Shows (layout_for c) (get_or (prg_table c r) k 0)
  prg_table_shows k =
      filled_all (Shows (layout_for c)) (blank 64) 0 (prg_entry c r) 64 (rw length_blank (omega arith)) (λ i. rw get_d_blank (unmapped_shows (layout_for c) (laid (sizes_of c) h))) (λ i hi. prg_shows c r h i) k

  pub chr_table_shows : (k : ℕ) → Shows (layout_for c) (get_or (chr_table c r) k 0)
  chr_table_shows k =
      filled_all (Shows (layout_for c)) (blank 16) 0 (chr_entry c r) 16 (rw length_blank (omega arith)) (λ i. rw get_d_blank (unmapped_shows (layout_for c) (laid (sizes_of c) h))) (λ i hi. chr_shows c r h i) k

-- each entry of a table
pub prg_at_lem : (c : Cart) (r : Regs) (k : ℕ) → k < 64 → get_or (prg_table c r) k 0 ≡ prg_entry c r k
prg_at_lem c r k h = rw zero-add at (filled_in (blank 64) 0 (prg_entry c r) 64 k (rw length_blank (omega arith)) h)

pub chr_at_lem : (c : Cart) (r : Regs) (k : ℕ) → k < 16 → get_or (chr_table c r) k 0 ≡ chr_entry c r k
chr_at_lem c r k h = rw zero-add at (filled_in (blank 16) 0 (chr_entry c r) 16 k (rw length_blank (omega arith)) h)
