-- `reader_calls::module_read` meets its contract. Assumes nothing.
use Rattle.std.proofs.Common.{◌≡◌, rules}
use Rattle.bandai_fcg.specs.Board.{module_read_of}
use Rattle.reader_calls.specs.ReaderCalls.{module_told_of}
use Rattle.reader_calls.proofs.module_read.Goals as goal

pub returns-then-is_valid : goal.returns-then-is_valid
unfolding module_told_of
returns-then-is_valid c =
    let b = c.args.board in
    let e : c.module_read.result ≡ module_read_of b = c.module_read.ensures b.standard_rom b.extra_rom in
    search (rules, e)
