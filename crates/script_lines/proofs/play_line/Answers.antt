-- `script_lines::play_line` meets its contract.
-- Assumes nothing.
use mathlib.Core.Path.{refl, ap}
use Rattle.script_lines.specs.ScriptLines.{line_played}
use Rattle.script_lines.proofs.Whole.{line_there, no_line, past}
use Rattle.script_lines.proofs.play_line.Goals as goal

pub returns-then-end-text : goal.returns-then-end-text
unfolding line_played
returns-then-end-text c =
    let a = c.args in
    let e = c.run_line.ensures in
    let n = c.line_end-end.ensures in
    let h = c.if-end-text.true in
    rw (ap (λ x. x.0) e, ap (λ x. x.1) e, ap (λ x. x.2) e, line_there a.text.now a.at _ n h, past a.text.now a.at _ n h) refl

pub returns-else-end-text : goal.returns-else-end-text
unfolding line_played
returns-else-end-text c =
    let a = c.args in
    rw (no_line a.text.now a.at _ c.line_end-end.ensures c.if-end-text.false) refl
