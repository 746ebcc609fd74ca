-- `split_views::split::store_split` meets its contract: a store in the second buffer, on a page that may not be written, on one of the first,
-- and a refused one. Assumes nothing.
use mathlib.Core.Path.{sym, ◌∙◌}
use Rattle.split_views.proofs.Calls.{store_stored, store_read_only, store_in_rom, store_refused}
use Rattle.split_views.proofs.split.store_split.Goals as goal

pub returns-in_err-check_split-clause-stored : goal.returns-in_err-check_split-clause-stored
returns-in_err-check_split-clause-stored c =
    let a = c.args in
    store_refused a.table a.board a.rom_len a.ram.now a.addr a.value _ c.in_err-check_split.ensures

pub returns-then-is_writable-clause-stored : goal.returns-then-is_writable-clause-stored
returns-then-is_writable-clause-stored c =
    let a = c.args in
    rw (c.poke.ensures, c.place.ensures)
    (store_stored a.table a.board a.rom_len a.ram.now a.addr a.value c.entry_at.result c.in-Ram.offset c.in_ok-check_split.ensures c.entry_at.ensures (sym c.in-Ram.is ∙ c.place_of.ensures) (sym c.is_writable.ensures ∙ c.if-is_writable.true))

pub returns-else-is_writable-clause-stored : goal.returns-else-is_writable-clause-stored
returns-else-is_writable-clause-stored c =
    let a = c.args in
    store_read_only a.table a.board a.rom_len a.ram.now a.addr a.value c.entry_at.result c.entry_at.ensures (sym c.is_writable.ensures ∙ c.if-is_writable.false)

pub returns-in_default-clause-stored : goal.returns-in_default-clause-stored
returns-in_default-clause-stored c =
    let a = c.args in
    store_in_rom a.table a.board a.rom_len a.ram.now a.addr a.value c.entry_at.result c.entry_at.ensures (λ o h. c.in_default.not-Ram o (c.place_of.ensures ∙ h))
