-- THE LINE OF A MODULE READ: the refusal or 0, the module's number, the clocks spent in it, and its light. Assumes nothing.
use Rattle.std.specs.Prelude.{List, [], ◌∷◌, ℕ}
use Rattle.laws.specs.Codes.{codes}
use Rattle.bandai_fcg.specs.declared.board.Board.{Board}
use Rattle.reader_calls.specs.ReaderCalls.{module_told_of}
use Rattle.lines.specs.Lines.{with_numbers}

unfoldable pub module_line : Board → List ℕ
module_line b =
    let told = module_told_of b in
    with_numbers (codes "module # # # #\n") (told.refusal ∷ told.number ∷ told.spent ∷ told.light ∷ [])
