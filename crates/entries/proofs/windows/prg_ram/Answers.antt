-- `entries::windows::prg_ram` meets its contract: by whether RAM is mapped; bank 0 starts with its region (`first_window_lem`).
-- Assumes nothing.
use mathlib.Core.Path.{◌≡◌, refl, sym}
use mathlib.Core.Bool.{true, false}
use Rattle.memory.proofs.WalkedLaws.{first_window_lem}
use Rattle.regs.specs.Regs.{ram_mapped}
use Rattle.entries.specs.Entries.{ram_shown}
use Rattle.entries.proofs.windows.prg_ram.Goals as goal

pub returns-then-ram_mapped : goal.returns-then-ram_mapped
unfolding ram_shown
returns-then-ram_mapped c =
    let a = c.args in
    let mapped : ram_mapped a.cart a.regs ≡ true = rw (← c.ram_mapped.ensures) c.if-ram_mapped.true in
    rw (c.first.ensures, mapped) (sym (first_window_lem a.layout.prg_ram true 8192))

pub returns-else-ram_mapped : goal.returns-else-ram_mapped
unfolding ram_shown
returns-else-ram_mapped c =
    let a = c.args in
    let unmapped : ram_mapped a.cart a.regs ≡ false = rw (← c.ram_mapped.ensures) c.if-ram_mapped.false in
    rw unmapped refl
