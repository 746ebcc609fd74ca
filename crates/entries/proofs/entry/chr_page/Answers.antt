-- `entries::entry::chr_page` meets its contract: by its bank or of the first 8 KiB, whose window is walked to the entry (`chr_walked`).
-- Assumes nothing.
use mathlib.Core.Path.{◌≡◌, refl, ap, ◌∙◌}
use mathlib.Core.Bool.{true, false}
use lib.ListN.{get_or}
use Rattle.image_layout.specs.declared.MemoryLayout.{MemoryLayout}
use Rattle.memory.specs.declared.Window.{Window}
use Rattle.memory.specs.Walked.{walked_entry}
use Rattle.cart.specs.Cart.{banks_chr}
use Rattle.entries.specs.Entries.{layout_for, chr_window, bank_entry, chr_page}
use Rattle.entries.proofs.EntriesLaws.{chr_walked}
use Rattle.entries.proofs.entry.chr_page.Goals as goal

pub returns-then-banks_chr : goal.returns-then-banks_chr
unfolding chr_page bank_entry
returns-then-banks_chr c =
    let a = c.args in
    let bank = get_or a.regs.chr_banks a.k 0 in
    let banked : banks_chr a.cart ≡ true = rw (← c.banks_chr.ensures) c.if-banks_chr.true in
    let w : c.chr_bank.result ≡ chr_window (layout_for a.cart) 1024 bank = rw (c.chr_bank.ensures, c.requires.0) refl in
    c.entry.ensures ∙ ap (λ (x : Window). walked_entry x 0) w ∙ chr_walked a.cart 1024 bank 0 ∙ rw banked refl

pub returns-else-banks_chr : goal.returns-else-banks_chr
unfolding chr_page
returns-else-banks_chr c =
    let a = c.args in
    let fixed : banks_chr a.cart ≡ false = rw (← c.banks_chr.ensures) c.if-banks_chr.false in
    let w : c.chr.result ≡ chr_window (layout_for a.cart) 8192 0 = c.chr.ensures ∙ ap (λ (l : MemoryLayout). chr_window l 8192 0) c.requires.0 in
    c.entry-else-banks_chr.ensures ∙ ap (λ (x : Window). walked_entry x a.k) w ∙ chr_walked a.cart 8192 0 a.k ∙ rw fixed refl
