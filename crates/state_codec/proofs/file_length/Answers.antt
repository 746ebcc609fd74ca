-- `state_codec::file_length` meets its contract: the lengths added up.
-- Assumes nothing.
use mathlib.Core.Path.{refl, sym, ◌∙◌}
use Rattle.state_bodies.specs.declared.cart_body.FileForm.TheVariants.{Current}
use Rattle.state_codec.specs.Encode.{file_length}
use Rattle.state_codec.specs.StepsLaws.{length_file}
use Rattle.state_codec.proofs.Arrays.{sized}
use Rattle.state_codec.proofs.file_length.Goals as goal

pub returns-then-is_valid : goal.returns-then-is_valid
unfolding file_length
returns-then-is_valid c =
    let v = sym c.is_valid.ensures ∙ c.if-is_valid.true in
    rw (c.encoded_length.ensures, v, length_file Current c.args.board (sized c.args.board c.well_formed) v) refl

pub returns-else-is_valid : goal.returns-else-is_valid
unfolding file_length
returns-else-is_valid c = let v = sym c.is_valid.ensures ∙ c.if-is_valid.false in rw v refl
