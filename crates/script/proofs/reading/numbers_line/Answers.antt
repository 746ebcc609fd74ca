-- `script::reading::numbers_line` meets its contract: a word that is no number is the line's fault.
-- Assumes nothing.
use Rattle.text.specs.Words.{words}
use Rattle.script.proofs.Turns.{numbers_refused}
use Rattle.script.proofs.reading.numbers_line.Goals as goal

pub returns-in_err-n : goal.returns-in_err-n
returns-in_err-n c = numbers_refused c.args.command c.args.chr (words c.args.list.code.now) c.in_err-n.field-0.0 c.from_residual.result c.in_err-n.ensures.fault c.from_residual.ensures.1
