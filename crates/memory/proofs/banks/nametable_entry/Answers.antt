-- `memory::banks::nametable_entry` meets its contract: it is the first entry of its window, which is the page at its start in every region
-- (`entry_at_start`).
-- Assumes nothing.
use mathlib.Core.Path.{◌≡◌, ap, ◌∙◌}
use mathlib.Core.Bool.{true}
use Rattle.memory.specs.declared.Window.{Window}
use Rattle.memory.specs.Memory.{window_of, nametable_bank, nametable_of}
use Rattle.memory.specs.Walked.{walked_entry}
use Rattle.memory.proofs.WalkedLaws.{entry_at_start, banks_given}
use Rattle.memory.proofs.banks.nametable_entry.Goals as goal

pub returns : goal.returns
unfolding nametable_of
returns c =
    let a = c.args in
    let b = nametable_bank a.mirroring a.i in
    let e : c.new-window.result ≡ window_of a.ciram true 1024 b = rw (c.new-window.ensures, c.banks_of_1k.ensures, c.nametable_bank-bank.ensures) (banks_given a.ciram true 1024 b) in
    c.entry.ensures ∙ ap (λ (w : Window). walked_entry w 0) e ∙ entry_at_start a.ciram true 1024 b
