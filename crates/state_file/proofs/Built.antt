-- The ways out of the writer and of the reader.
-- Assumes nothing.
use mathlib.Core.Path.{◌≡◌, refl, ap, ◌∙◌}
use mathlib.Core.Bool.{Bool, true, false, ◌&&◌}
use mathlib.Core.List.{List, ◌++◌}
use Prim.Native.Nat.{ℕ, ◌≤◌}
use lib.ListN.{length, drop}
use Rattle.std.proofs.Common.{Ok}
use borrow.Author.Tests.{le-leb}
use Rattle.laws.specs.Choice.{pick}
use Rattle.laws.specs.Lists.{same}
use Rattle.laws.proofs.ListsLaws.{same_refl, same_true}
use Rattle.runs.specs.Checkpoint.{write}
use Rattle.runs.proofs.CheckpointLaws.{write_runs}
use Rattle.bandai_fcg.specs.declared.board.Board.{Board}
use Rattle.validity.specs.Valid.{valid_board}
use Rattle.state_codec.specs.Encode.{encode_as, encode}
use Rattle.state_codec.specs.Decode.{file_form, decode}
use Rattle.state_file.specs.StateFile.{ReadBack, board_file, write_answer, refused_file, read_of}

-- the copy is what the writer leaves
pub written_is : (b : Board) (buffer src out : List ℕ) (n : ℕ) → valid_board b ≡ true → src ≡ encode b → length (encode b) ≤ length buffer → n ≡ length src → out ≡ src ++ drop (length src) buffer →
    write_answer (Ok n) out ≡ write valid_board board_file b buffer
unfolding board_file
written_is b buffer src out n v e room en eo =
    rw (write_runs valid_board board_file b buffer v (le-leb (length (encode b)) (length buffer) room), en, eo, e) refl

-- a choice by two tests of which one is false
off_first : {A : Type 0} (t u : Bool) (x y : A) → t ≡ false → y ≡ pick (t && u) x y
off_first t u x y h = rw h refl

off_second : {A : Type 0} (t u : Bool) (x y : A) → u ≡ false → y ≡ pick (t && u) x y
off_second true u x y h = rw h refl
off_second false u x y h = refl

-- the three ways out of the reader
module _ (f : List ℕ) (b : Board) (e : b ≡ decode f) where
  pub read_invalid : valid_board b ≡ false → refused_file ≡ read_of f
  unfolding read_of
  read_invalid v = rw (← e) (off_first (valid_board b) _ _ _ v)

  pub read_other : valid_board b ≡ true → (f ≡ encode_as (file_form f) b → ⊥) → refused_file ≡ read_of f
  unfolding read_of
  read_other v w = rw (← e) (off_second (valid_board b) (same f (encode_as (file_form f) b)) _ _ (go (same f (encode_as (file_form f) b)) refl))
    where
      go : (t : Bool) → same f (encode_as (file_form f) b) ≡ t → same f (encode_as (file_form f) b) ≡ false
      go true h = absurd (w (same_true f (encode_as (file_form f) b) h))
      go false h = h

  pub read_same : valid_board b ≡ true → f ≡ encode_as (file_form f) b → ◌≡◌ {A = ReadBack} (record { refusal = 0; board = b }) (read_of f)
  unfolding read_of
  read_same v w =
      let t : same f (encode_as (file_form f) b) ≡ true = ap (λ (l : List ℕ). same l (encode_as (file_form f) b)) w ∙ same_refl (encode_as (file_form f) b) in
      rw (← e, v, t) refl
