-- `pages::tables::map_chr` meets its contract: a page for each bank (`banks_page`), or those of the first 8 KiB (`fixed_page`).
-- Assumes nothing.
use mathlib.Core.Path.{◌≡◌}
use mathlib.Core.Bool.{true, false}
use Rattle.laws.proofs.TableLaws.{filled_same}
use Rattle.memory.specs.Walked.{walked_entry, start_entry, bank_starts}
use Rattle.memory.proofs.WalkedLaws.{bank_starts_length}
use Rattle.cart.specs.Cart.{banks_chr}
use Rattle.entries.specs.Entries.{layout_for, chr_window, chr_page}
use Rattle.pages.proofs.Laws.{banks_page, fixed_page}
use Rattle.pages.proofs.tables.map_chr.Goals as goal

pub returns-then-banks_chr : goal.returns-then-banks_chr
returns-then-banks_chr c =
    let a = c.args in
    let l = layout_for a.cart in
    let banked : banks_chr a.cart ≡ true = rw (← c.banks_chr.ensures) c.if-banks_chr.true in
    rw (c.map_starts.ensures, c.chr.ensures, c.bank_starts-starts.ensures, c.requires, bank_starts_length l.chr a.regs.chr_banks)
    (filled_same a.pages.now 0 (start_entry (chr_window l 8192 0) (bank_starts l.chr a.regs.chr_banks)) (chr_page a.cart a.regs) 8 (banks_page a.cart a.regs banked))

pub returns-else-banks_chr : goal.returns-else-banks_chr
returns-else-banks_chr c =
    let a = c.args in
    let fixed : banks_chr a.cart ≡ false = rw (← c.banks_chr.ensures) c.if-banks_chr.false in
    rw (c.map_pages.ensures, c.chr-else-banks_chr.ensures, c.requires)
    (filled_same a.pages.now 0 (walked_entry (chr_window (layout_for a.cart) 8192 0)) (chr_page a.cart a.regs) 8 (λ i h. fixed_page a.cart a.regs fixed i))
