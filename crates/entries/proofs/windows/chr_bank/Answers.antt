-- `entries::windows::chr_bank` meets its contract: the number of banks is the region's (`banks_given`).
-- Assumes nothing.
use mathlib.Core.Path.{◌∙◌, ap}
use Prim.Native.Nat.{ℕ}
use Rattle.memory.specs.Walked.{window_in}
use Rattle.memory.proofs.WalkedLaws.{banks_given}
use Rattle.entries.proofs.windows.chr_bank.Goals as goal

pub returns : goal.returns
returns c =
    let a = c.args in
    let l = a.layout in
    c.new.ensures ∙ ap (λ (n : ℕ). window_in l.chr l.chr_writable 1024 n a.bank) c.banks_of_1k.ensures ∙ banks_given l.chr l.chr_writable 1024 a.bank
