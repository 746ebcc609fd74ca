-- `calls::device_read` meets its contract. Assumes nothing.
use Rattle.std.proofs.Common.{◌≡◌, rules}
use Rattle.bandai_fcg.specs.Board.{peeked, peek_of}
use Rattle.calls.specs.Calls.{read_of}
use Rattle.calls.proofs.device_read.Goals as goal

pub returns : goal.returns
unfolding read_of
returns c =
    let b = c.args.board in
    let e : peeked c.prg_peek.result ≡ peek_of c.args.address b = c.prg_peek.ensures b.standard_rom b.extra_rom in
    search (rules, e)
