-- `memory::banks::page_start` meets its contract: it is the base of the bank's window.
-- Assumes nothing.
use mathlib.Core.Path.{◌≡◌, ap, ◌∙◌}
use mathlib.Core.Bool.{false}
use Prim.Native.Nat.{ℕ}
use Rattle.memory.specs.declared.Window.{Window}
use Rattle.memory.specs.Memory.{window_of}
use Rattle.memory.specs.Walked.{window_in, page_start}
use Rattle.memory.proofs.WalkedLaws.{banks_given}
use Rattle.memory.proofs.banks.page_start.Goals as goal

pub returns : goal.returns
unfolding page_start
returns c =
    let a = c.args in
    let e : c.new-window.result ≡ window_of a.region false 1024 a.bank = c.new-window.ensures ∙ ap (λ (n : ℕ). window_in a.region false 1024 n a.bank) c.banks_of_1k.ensures ∙ banks_given a.region false 1024 a.bank in
    ap (λ (w : Window). w.base) e
