-- `state_file::write` meets its contract: the file stands at the front of what was encoded, and the copy leaves the rest.
-- Assumes nothing.
use mathlib.Core.Path.{refl, sym, ◌∙◌}
use borrow.Author.Tests.{lt-leb}
use Rattle.runs.proofs.CheckpointLaws.{write_invalid, write_short}
use Rattle.validity.specs.Valid.{valid_board}
use Rattle.state_file.specs.StateFile.{board_file}
use Rattle.state_file.proofs.Built.{written_is}
use Rattle.state_file.proofs.write.Goals as goal

pub returns-then-not-is_valid : goal.returns-then-not-is_valid
returns-then-not-is_valid c =
    sym (write_invalid valid_board board_file c.args.board c.args.buffer.now (sym c.is_valid.ensures ∙ c.if-not-is_valid.true))

pub returns-then-buffer-length : goal.returns-then-buffer-length
unfolding board_file
returns-then-buffer-length c =
    let v = sym c.is_valid.ensures ∙ c.if-not-is_valid.false in
    let file = c.as_slice-bytes.ensures ∙ c.encode-file.ensures.1.front v in
    sym (write_short valid_board board_file c.args.board c.args.buffer.now v (lt-leb _ _ (rw file at c.if-buffer-length.true)))

pub returns : goal.returns
returns c =
    let v = sym c.is_valid.ensures ∙ c.if-not-is_valid.false in
    let file = c.as_slice-bytes.ensures ∙ c.encode-file.ensures.1.front v in
    written_is c.args.board c.args.buffer.now _ _ _ v file (rw file at c.if-buffer-length.false) refl (rw c.copy_from_slice.ensures.after refl)
