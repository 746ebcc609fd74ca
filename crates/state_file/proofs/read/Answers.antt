-- `state_file::read` meets its contract: each way out is a case of `read_of`.
-- Assumes nothing.
use mathlib.Core.Path.{sym, ap, ◌∙◌}
use Rattle.std.specs.Cmp.Lexicographic.{same_text, other_text}
use Rattle.state_bodies.specs.declared.cart_body.FileForm.{FileForm}
use Rattle.state_codec.specs.Encode.{encode_as}
use Rattle.state_file.proofs.Built.{read_same, read_other, read_invalid}
use Rattle.state_file.proofs.read.Goals as goal
use Rattle.state_file.proofs.read.Goals.{else-is_valid-via-then-is_valid+else-eq, else-is_valid-via-else-is_valid}

pub returns-then-eq : goal.returns-then-eq
returns-then-eq c =
    let v = sym c.is_valid.ensures ∙ c.if-is_valid.true in
    let form = ap (λ (form : FileForm). encode_as form c.decode-board.result) c.file_form.ensures in
    read_same c.args.file.now c.decode-board.result c.decode-board.ensures v
    (sym (same_text _ _ (sym c.if-eq.true ∙ c.eq.ensures)) ∙ c.as_slice.ensures ∙ c.encode.ensures.1.front v ∙ form)

pub returns-else-is_valid : goal.returns-else-is_valid
returns-else-is_valid c =
    elim c.else-is_valid.branch [
      | else-is_valid-via-then-is_valid+else-eq w ↦
          let v = sym c.is_valid.ensures ∙ w.if-is_valid.true in
          let form = ap (λ (form : FileForm). encode_as form c.decode-board.result) w.file_form.ensures in
          read_other c.args.file.now c.decode-board.result c.decode-board.ensures v
          (λ e. other_text _ _ (sym w.if-eq.false ∙ w.eq.ensures) (w.as_slice.ensures ∙ w.encode.ensures.1.front v ∙ form ∙ sym e))
      | else-is_valid-via-else-is_valid w ↦ read_invalid c.args.file.now c.decode-board.result c.decode-board.ensures (sym c.is_valid.ensures ∙ w.if-is_valid.false)
    ]
