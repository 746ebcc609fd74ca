-- What the proofs of the tables need: the windows one after the other are the table.
-- Assumes nothing.
use mathlib.Core.Path.{◌≡◌, refl, sym, ap, ◌∙◌}
use mathlib.Core.List.{List}
use mathlib.Core.Bool.{true, false}
use Prim.Native.Nat.{ℕ, ◌+◌, ◌-◌, ◌<◌}
use native.Mathlib.Nat.{zero-add}
use native.Mathlib.Omega.{arith}
use lib.ListN.{get_or}
use borrow.Author.Tests.{lt-ltb, le-ltb}
use Rattle.laws.specs.Choice.{pick}
use Rattle.laws.specs.Lists.{blank}
use Rattle.laws.proofs.ListsLaws.{length_blank, get_d_blank}
use Rattle.laws.specs.Table.{filled}
use Rattle.laws.proofs.TableLaws.{filled_in, filled_join, filled_same, filled_kept}
use Rattle.memory.specs.Memory.{entry_of, nametable_of}
use Rattle.memory.proofs.MemoryLaws.{nametable_again}
use Rattle.memory.specs.Walked.{walked_entry, start_entry, nametable_in, bank_starts}
use Rattle.memory.proofs.WalkedLaws.{bank_entries, first_window_lem}
use Rattle.cart.specs.declared.Cart.{Cart}
use Rattle.regs.specs.declared.Regs.{Regs}
use Rattle.cart.specs.Cart.{banks_chr}
use Rattle.regs.specs.Regs.{ram_mapped}
use Rattle.entries.specs.Entries.{layout_for, ram_window, ram_shown, rom_window, prg_entry, chr_window, bank_entry, chr_page, chr_entry}
use Rattle.entries.proofs.EntriesLaws.{ram_walked_lem, rom_walked_lem, chr_walked}
use Rattle.pages.specs.Pages.{prg_table, chr_table}

module _ (c : Cart) (r : Regs) where
  prg_none : (k : ℕ) → k < 24 → prg_entry c r k ≡ 0
  unfolding prg_entry
  prg_none k h = rw (lt-ltb k 24 h) refl

  prg_ram_lem : (i : ℕ) → i < 8 → prg_entry c r (24 + i) ≡ pick (ram_mapped c r) (entry_of (ram_window (layout_for c)) i) 0
  unfolding prg_entry
  prg_ram_lem i h =
      let e : 24 + i - 24 ≡ i = omega arith in
      rw (le-ltb (24 + i) 24 (omega arith), lt-ltb (24 + i) 32 (omega arith), e) refl

  prg_low : (i : ℕ) → i < 16 → prg_entry c r (32 + i) ≡ entry_of (rom_window (layout_for c) r r.prg_page) i
  unfolding prg_entry
  prg_low i h =
      let e : 32 + i - 32 ≡ i = omega arith in
      rw (le-ltb (32 + i) 24 (omega arith), le-ltb (32 + i) 32 (omega arith), lt-ltb (32 + i) 48 (omega arith), e) refl

  prg_high : (i : ℕ) → i < 16 → prg_entry c r (48 + i) ≡ entry_of (rom_window (layout_for c) r 15) i
  unfolding prg_entry
  prg_high i h =
      let e : 48 + i - 48 ≡ i = omega arith in
      rw (le-ltb (48 + i) 24 (omega arith), le-ltb (48 + i) 32 (omega arith), le-ltb (48 + i) 48 (omega arith), lt-ltb (48 + i) 64 (omega arith), e) refl

  -- the entries that are walked to: PRG RAM's and those of a PRG bank
  abbrev pub ram_walked : ℕ → ℕ
  ram_walked = walked_entry (ram_shown (layout_for c) c r)

  abbrev pub rom_walked : ℕ → ℕ → ℕ
  rom_walked bank = walked_entry (rom_window (layout_for c) r bank)

  -- written one after the other they are the table
  pub prg_whole : filled (filled (filled (blank 64) 24 ram_walked 8) 32 (rom_walked r.prg_page) 16) 48 (rom_walked 15) 16 ≡ prg_table c r
  prg_whole =
      let none : blank 64 ≡ filled (blank 64) 0 (prg_entry c r) 24 = sym (filled_kept (blank 64) 0 (prg_entry c r) 24 (λ i k. prg_none i k ∙ sym (get_d_blank 64 (0 + i)))) in
      let ram-in = filled_join (blank 64) 0 (prg_entry c r) 24 24 ram_walked 8 refl (λ i k. ram_walked_lem c r i ∙ sym (prg_ram_lem i k)) in
      let low = filled_join (blank 64) 0 (prg_entry c r) 32 32 (rom_walked r.prg_page) 16 refl (λ i k. rom_walked_lem c r r.prg_page i ∙ sym (prg_low i k)) in
      let high = filled_join (blank 64) 0 (prg_entry c r) 48 48 (rom_walked 15) 16 refl (λ i k. rom_walked_lem c r 15 i ∙ sym (prg_high i k)) in
      ap (λ (l : List ℕ). filled (filled (filled l 24 ram_walked 8) 32 (rom_walked r.prg_page) 16) 48 (rom_walked 15) 16) none
      ∙ ap (λ (l : List ℕ). filled (filled l 32 (rom_walked r.prg_page) 16) 48 (rom_walked 15) 16) ram-in
      ∙ ap (λ (l : List ℕ). filled l 48 (rom_walked 15) 16) low
      ∙ high

  -- a page for each bank, and the first 8 KiB
  pub banks_page : banks_chr c ≡ true → (i : ℕ) → i < 8 → start_entry (chr_window (layout_for c) 8192 0) (bank_starts (layout_for c).chr r.chr_banks) i ≡ chr_page c r i
  unfolding chr_page bank_entry
  banks_page t i h =
      let l = layout_for c in
      rw (t, first_window_lem l.chr l.chr_writable 8192) (bank_entries l.chr l.chr_writable r.chr_banks i h)

  pub fixed_page : banks_chr c ≡ false → (i : ℕ) → walked_entry (chr_window (layout_for c) 8192 0) i ≡ chr_page c r i
  unfolding chr_page
  fixed_page t i = rw t (chr_walked c 8192 0 i)

  chr_low : (k : ℕ) → k < 8 → chr_entry c r k ≡ chr_page c r k
  unfolding chr_entry
  chr_low k h = rw (lt-ltb k 8 h) refl

  chr_high : (i : ℕ) → chr_entry c r (8 + i) ≡ nametable_of (layout_for c).ciram r.mirroring i
  unfolding chr_entry
  chr_high i =
      let e : 8 + i - 8 ≡ i = omega arith in
      rw (le-ltb (8 + i) 8 (omega arith), e) refl

  -- nametable i shows what nametable 4 + i does
  chr_again : (i : ℕ) → chr_entry c r (8 + i) ≡ chr_entry c r (12 + i)
  chr_again i =
      let e : 12 + i ≡ 8 + (i + 4) = omega arith in
      chr_high i ∙ sym (nametable_again (layout_for c).ciram r.mirroring i) ∙ sym (chr_high (i + 4)) ∙ ap (chr_entry c r) (sym e)

  in_table : (i : ℕ) → i < 4 → nametable_in (filled (blank 16) 0 (chr_entry c r) 12) i ≡ chr_entry c r (12 + i)
  in_table i h =
      let e : get_or (filled (blank 16) 0 (chr_entry c r) 12) (0 + (8 + i)) 0 ≡ chr_entry c r (8 + i) = filled_in (blank 16) 0 (chr_entry c r) 12 (8 + i) (rw length_blank (omega arith)) (omega arith) in
      (rw zero-add at e) ∙ chr_again i

  -- CHR, the nametables and the nametables again, written one after the other
  pub chr_whole : (t : List ℕ) → t ≡ filled (filled (blank 16) 0 (chr_page c r) 8) 8 (nametable_of (layout_for c).ciram r.mirroring) 4 → filled t 12 (nametable_in t) 4 ≡ chr_table c r
  chr_whole t e =
      let low = filled_same (blank 16) 0 (chr_page c r) (chr_entry c r) 8 (λ i k. sym (chr_low i k)) in
      let high = filled_join (blank 16) 0 (chr_entry c r) 8 8 (nametable_of (layout_for c).ciram r.mirroring) 4 refl (λ i k. sym (chr_high i)) in
      let so : t ≡ filled (blank 16) 0 (chr_entry c r) 12 = e ∙ ap (λ (l : List ℕ). filled l 8 (nametable_of (layout_for c).ciram r.mirroring) 4) low ∙ high in
      rw so (filled_join (blank 16) 0 (chr_entry c r) 12 12 (nametable_in (filled (blank 16) 0 (chr_entry c r) 12)) 4 refl in_table)
