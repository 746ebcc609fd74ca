-- `entries::windows::prg_rom` meets its contract: the bank with the high bank, by the number of banks of the region (`banks_given`).
-- Assumes nothing.
use mathlib.Core.Bool.{false}
use Rattle.memory.proofs.WalkedLaws.{banks_given}
use Rattle.entries.specs.Entries.{with_high}
use Rattle.entries.proofs.windows.prg_rom.Goals as goal

pub returns : goal.returns
returns c =
    let a = c.args in
    rw (c.new.ensures, c.with_high.ensures, c.banks_of_16k.ensures) (banks_given a.layout.prg_rom false 16384 (with_high a.regs a.bank))
