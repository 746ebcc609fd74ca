-- What the code's file holds, for a valid board: the file stands at its front.
-- Assumes nothing.
use mathlib.Core.Path.{◌≡◌, ap, ◌∙◌}
use mathlib.Core.Bool.{true}
use mathlib.Core.List.{List}
use Prim.Native.Nat.{ℕ}
use Rattle.laws.specs.Append.{append_all}
use Rattle.laws.specs.Lists.{blank}
use Rattle.bandai_fcg.specs.declared.board.Board.{Board}
use Rattle.validity.specs.Valid.{valid_board}
use Rattle.state_bodies.specs.declared.file_buffer.FileBuffer.{FileBuffer}
use Rattle.state_bodies.specs.FileBuffer.{capacity, buffer_of}
use Rattle.state_bodies.specs.FileBufferLaws as buffer
use Rattle.state_bodies.specs.declared.cart_body.FileForm.{FileForm}
use Rattle.state_codec.specs.Encode.{encode_as}
use Rattle.state_codec.specs.Steps.{encoded_of, Encoded}
use Rattle.state_codec.specs.ValidLaws.{Sized}
use Rattle.state_codec.specs.StepsLaws.{stored_is, file_room}

module _ (form : FileForm) (b : Board) (z : Sized b) (file : FileBuffer) (e : file ≡ encoded_of form b) where
  built : valid_board b ≡ true → file ≡ buffer_of (append_all capacity (blank capacity, 0) (encode_as form b))
  unfolding encoded_of
  built v = e ∙ ap (λ (l : List ℕ). buffer_of (append_all capacity (blank capacity, 0) l)) (stored_is form b z v)

  pub encoded : Encoded form b file
  encoded =
      record {
        front = λ v. buffer.file_front file (encode_as form b) (file_room form b z v) (built v);
        size = λ v. buffer.file_length_lem file (encode_as form b) (file_room form b z v) (built v);
        room = λ v. rw (buffer.file_long file (encode_as form b) (file_room form b z v) (built v), buffer.file_length_lem file (encode_as form b) (file_room form b z v) (built v)) (file_room form b z v);
      }
