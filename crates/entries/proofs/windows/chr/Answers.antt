-- `entries::windows::chr` meets its contract: bank 0 starts with its region (`first_window_lem`).
-- Assumes nothing.
use mathlib.Core.Path.{sym, ◌∙◌}
use Rattle.memory.proofs.WalkedLaws.{first_window_lem}
use Rattle.entries.proofs.windows.chr.Goals as goal

pub returns : goal.returns
returns c =
    let l = c.args.layout in
    c.first.ensures ∙ sym (first_window_lem l.chr l.chr_writable 8192)
