-- `board_lines::bars::put_bars` meets its contract: the invariant is what is left to put.
-- Assumes nothing.
use Rattle.std.proofs.Common.{sym, ◌∙◌, arith, rules}
use Rattle.output.specs.Put.{placed_in}
use Rattle.lines.proofs.Turns.{joined_more, joined_end}
use Rattle.board_lines.specs.BoardLines.{bar_of}
use Rattle.board_lines.proofs.bars.put_bars.Goals as goal

pub loop-module-preserved : goal.loop-module-preserved
loop-module-preserved c =
    let l = c.loop-module in
    (rw c.put_bar.ensures.0 (joined_more bar_of (placed_in l.out) c.args.modules.now l.module-index (omega arith) ∙ l.invariant.0), search rules)

pub returns : goal.returns
returns c =
    let l = c.loop-module in
    (sym (joined_end bar_of (placed_in l.out) c.args.modules.now l.module-index (omega arith)) ∙ l.invariant.0, search rules)
