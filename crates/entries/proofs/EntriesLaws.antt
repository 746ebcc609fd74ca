-- Laws of entries: each shows a page that lies wholly within an image of the layout's length, writable exactly from `ram_start` on
-- (`prg_shows`, `chr_shows`). The windows of every cart are walked to the entries that their definitions give (`ram_walked_lem`, `rom_walked_lem`,
-- `chr_walked`).
-- Assumes nothing.
use Rattle.std.specs.Prelude.{◌≡◌, Bool, ℕ, ltb}
use Rattle.std.proofs.Math.Path.{refl}
use Rattle.std.proofs.Math.Bool.{true, false}
use Rattle.laws.specs.Choice.{pick}
use Rattle.laws.proofs.ChoiceLaws.{pick_all}
use Rattle.image_layout.specs.LayoutLaws.{Limited, laid, whole_pages}
use Rattle.memory.specs.Memory.{entry_of}
use Rattle.memory.proofs.MemoryLaws.{Shows, unmapped_shows, window_shows, nametable_shows}
use Rattle.memory.specs.Walked.{walked_entry, page_at}
use Rattle.memory.proofs.WalkedLaws.{window_walked}
use Rattle.cart.specs.declared.Cart.{Cart}
use Rattle.regs.specs.declared.Regs.{Regs}
use Rattle.cart.specs.Cart.{banks_chr}
use Rattle.regs.specs.Regs.{ram_mapped}
use Rattle.entries.specs.Entries.{sizes_of, layout_for, ram_window, ram_shown, with_high, rom_window, prg_entry, chr_window, bank_entry, chr_page, chr_entry}

-- of any cart whose sizes are within the limit
module _ (c : Cart) (r : Regs) (h : Limited (sizes_of c)) where
  pub prg_shows : (k : ℕ) → Shows (layout_for c) (prg_entry c r k)
  unfolding prg_entry
  prg_shows k =
      let l = layout_for c in
      let m = laid (sizes_of c) h in
      pick_all (Shows l) (ltb k 24) 0 _ (λ e. unmapped_shows l m)
      (λ e. pick_all (Shows l) (ltb k 32) _ _ (λ e. pick_all (Shows l) (ram_mapped c r) _ 0 (λ e. window_shows l m true l.prg_ram m.prg_ram 8192 refl _ _) (λ e. unmapped_shows l m))
      (λ e. pick_all (Shows l) (ltb k 48) _ _ (λ e. window_shows l m false l.prg_rom m.prg_rom 16384 refl _ _)
      (λ e. pick_all (Shows l) (ltb k 64) _ 0 (λ e. window_shows l m false l.prg_rom m.prg_rom 16384 refl _ _) (λ e. unmapped_shows l m))))

  pub chr_shows : (k : ℕ) → Shows (layout_for c) (chr_entry c r k)
  unfolding chr_entry chr_page bank_entry
  chr_shows k =
      let l = layout_for c in
      let m = laid (sizes_of c) h in
      pick_all (Shows l) (ltb k 8) _ _
      (λ e. pick_all (Shows l) (banks_chr c) _ _ (λ e. window_shows l m l.chr_writable l.chr m.chr 1024 refl _ 0) (λ e. window_shows l m l.chr_writable l.chr m.chr 8192 refl 0 k))
      (λ e. nametable_shows l m r.mirroring _)

-- of any cart
module _ (c : Cart) (r : Regs) where
  pub ram_walked_lem : (i : ℕ) → walked_entry (ram_shown (layout_for c) c r) i ≡ pick (ram_mapped c r) (entry_of (ram_window (layout_for c)) i) 0
  unfolding ram_shown walked_entry page_at
  ram_walked_lem i = go (ram_mapped c r)
    where
      go : (t : Bool) → walked_entry (pick t (ram_window (layout_for c)) (record { start = 0; len = 0; base = 0; writable = false })) i ≡ pick t (entry_of (ram_window (layout_for c)) i) 0
      go true = window_walked (layout_for c).prg_ram (whole_pages (sizes_of c)).prg_ram true 8192 _ i
      go false = refl

  pub rom_walked_lem : (bank i : ℕ) → walked_entry (rom_window (layout_for c) r bank) i ≡ entry_of (rom_window (layout_for c) r bank) i
  rom_walked_lem bank i = window_walked (layout_for c).prg_rom (whole_pages (sizes_of c)).prg_rom false 16384 (with_high r bank) i

pub chr_walked : (c : Cart) (size bank i : ℕ) → walked_entry (chr_window (layout_for c) size bank) i ≡ entry_of (chr_window (layout_for c) size bank) i
chr_walked c size bank i = window_walked (layout_for c).chr (whole_pages (sizes_of c)).chr (layout_for c).chr_writable size bank i
