-- `script::words::Words::of_line` meets its contract: the code of the line.
-- Assumes nothing.
use Rattle.std.proofs.Common.{◌≤◌, length, rules}
use Rattle.text.specs.Words.{in_code}
use Rattle.text.proofs.WordsLaws.{run_le}
use Rattle.script.proofs.words.Words.of_line.Goals as goal

pub slice_bounds-result-end : goal.slice_bounds-result-end
slice_bounds-result-end c =
    let n : c.code_end.result ≤ length c.args.line.now = rw c.code_end.ensures (run_le in_code c.args.line.now) in
    search rules
