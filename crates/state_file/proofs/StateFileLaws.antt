-- THE LAWS OF THE STATE FILE. What is written of a valid board is read back as that board in every field (`read_back_lem`), and so is its file of the
-- old form where the chip rule is 0 (`old_read_back`). A file that is accepted is one of these two of the board that it gives, which is valid
-- (`accepted`); with a 35-byte body 1 it is what is written (`accepted_35`). So the reader takes just these files (`read_written`,
-- `written_read`, `unwritten_refused`); in each form no two boards have one file, and no two files give one board.
-- That the entries of the file are bytes is asked where the board is to fit the machine's types, and nowhere else. Assumes nothing.
use Rattle.std.specs.Prelude.{◌≡◌, refl, ◌⊎◌, Bool, true, false, ◌&&◌, List, ℕ, ◌≤◌, ◌<◌, eqb, length, take, drop}
use Rattle.std.proofs.Common.{sym, ap, ◌∙◌, inl, inr, arith, le-leb}
use Rattle.std.proofs.Math.Seq.{take-append_seam}
use Rattle.laws.specs.Choice.{pick}
use Rattle.laws.proofs.ChoiceLaws.{both_true}
use Rattle.laws.specs.Lists.{same, Each}
use Rattle.laws.proofs.ListsLaws.{same_refl, same_true}
use Rattle.runs.specs.Checkpoint.{write}
use Rattle.runs.proofs.CheckpointLaws.{write_runs}
use Rattle.bandai_fcg.specs.declared.board.Board.{Board}
use Rattle.bandai_fcg.specs.Typed.{TypedBoard}
use Rattle.validity.specs.Valid.{valid_board}
use Rattle.state_bodies.specs.declared.cart_body.FileForm.{FileForm}
use Rattle.state_bodies.specs.declared.cart_body.FileForm.TheVariants.{Old, Current}
use Rattle.state_bodies.specs.Bodies.{cart_length}
use Rattle.state_bodies.specs.BodiesLaws.{Carries, old_rule}
use Rattle.state_codec.specs.Encode.{encode_as, encode}
use Rattle.state_file.specs.StateFile.{ReadBack, board_file, refused_file, read_of}
use Rattle.state_codec.specs.Decode.{length_word, file_form, decode}
use Rattle.state_codec.specs.ValidLaws.{typed_sized}
use Rattle.state_codec.specs.StepsLaws.{file_within}
use Rattle.state_codec.specs.DecodeLaws.{length_word_lem, form_is, decode_encode, decode_typed}

-- a file that is read, and the board that it gives
abbrev pub read_as : Board → ReadBack
read_as b = record { refusal = 0; board = b }

abbrev pub rule_zero : Board → Type 0
rule_zero b = b.bandai.cart.eeprom_rule ≡ 0

-- WHAT IS WRITTEN IS READ BACK, in each form that carries the board's rule
either_back : (form : FileForm) (b : Board) → TypedBoard b → valid_board b ≡ true → Carries form b.bandai.cart → read_of (encode_as form b) ≡ read_as b
unfolding read_of
either_back form b t v e = rw (form_is form b t v e, decode_encode form b t v e, v, same_refl (encode_as form b)) refl

pub read_back_lem : (b : Board) → TypedBoard b → valid_board b ≡ true → read_of (encode b) ≡ read_as b
read_back_lem b t v = either_back Current b t v tt

pub old_read_back : (b : Board) → TypedBoard b → valid_board b ≡ true → rule_zero b → read_of (encode_as Old b) ≡ read_as b
old_read_back b t v e = either_back Old b t v e

-- A FILE OF A BOARD: what is written of it, or, where its rule is 0, its file of the old form
abbrev pub IsFile : List ℕ → Board → Type 0
IsFile f b = (f ≡ encode b) ⊎ ((rule_zero b) × (f ≡ encode_as Old b))

-- the two answers: the board decoded, valid and with this very file; or 11 and the empty board
pub record Accepted (f : List ℕ) (b : Board) : Type 0 where
  pub bytes : IsFile f b
  pub valid : valid_board b ≡ true
  pub decoded : decode f ≡ b
  pub again : f ≡ encode_as (file_form f) b

-- what is decoded from the old form has rule 0
decoded_rule : (f : List ℕ) → file_form f ≡ Old → rule_zero (decode f)
unfolding decode
decoded_rule f e = rw e (old_rule f _)

is_file : (f : List ℕ) → f ≡ encode_as (file_form f) (decode f) → IsFile f (decode f)
is_file f h = go (file_form f) refl
  where
    go : (form : FileForm) → file_form f ≡ form → IsFile f (decode f)
    go Old e = inr (decoded_rule f e, h ∙ ap (λ (form : FileForm). encode_as form (decode f)) e)
    go Current e = inl (h ∙ ap (λ (form : FileForm). encode_as form (decode f)) e)

pub read_cases : (f : List ℕ) → ((read_of f ≡ read_as (decode f)) × Accepted f (decode f)) ⊎ (read_of f ≡ refused_file)
unfolding read_of
read_cases f = go (valid_board (decode f) && same f (encode_as (file_form f) (decode f))) refl
  where
    go : (t : Bool) → (valid_board (decode f) && same f (encode_as (file_form f) (decode f))) ≡ t → ((read_of f ≡ read_as (decode f)) × Accepted f (decode f)) ⊎ (read_of f ≡ refused_file)
    go true e =
        let p = both_true (valid_board (decode f)) (same f (encode_as (file_form f) (decode f))) e in
        let w : f ≡ encode_as (file_form f) (decode f) = same_true f (encode_as (file_form f) (decode f)) p.1 in
        inl (rw e refl, record { bytes = is_file f w; valid = p.0; decoded = refl; again = w })
    go false e = inr (rw e refl)

-- WHAT IS ACCEPTED IS A FILE OF THE BOARD THAT IT GIVES
pub accepted : (f : List ℕ) → (read_of f).refusal ≡ 0 → Accepted f (read_of f).board
accepted f h = go (read_cases f)
  where
    go : ((read_of f ≡ read_as (decode f)) × Accepted f (decode f)) ⊎ (read_of f ≡ refused_file) → Accepted f (read_of f).board
    go (inl p) = rw p.0 p.1
    go (inr e) = let z : (read_of f).refusal ≡ 11 = ap (λ (r : ReadBack). r.refusal) e in absurd (omega arith)

-- by the length of its body 1: 35 bytes, what is written; 34 bytes, the old form of a board with rule 0
pub accepted_35 : (f : List ℕ) → (read_of f).refusal ≡ 0 → length_word f ≡ 35 → f ≡ encode (read_of f).board
accepted_35 f h n = (accepted f h).again ∙ ap (λ (k : ℕ). encode_as (pick (eqb k (cart_length Old)) Old Current) (read_of f).board) n

pub accepted_34 : (f : List ℕ) → (read_of f).refusal ≡ 0 → length_word f ≡ 34 → (rule_zero (read_of f).board) × (f ≡ encode_as Old (read_of f).board)
accepted_34 f h n =
    let k = accepted f h in
    let e : file_form f ≡ Old = ap (λ (k : ℕ). pick (eqb k (cart_length Old)) Old Current) n in
    (rw (← k.decoded) (decoded_rule f e), k.again ∙ ap (λ (form : FileForm). encode_as form (read_of f).board) e)

-- THE OLD FORM IS NEVER WRITTEN: what is written of a board is the old form of none
pub never_old : (b c : Board) → encode b ≡ encode_as Old c → ⊥
never_old b c e =
    let n : ◌≡◌ {A = ℕ} 35 34 = sym (length_word_lem Current b) ∙ ap length_word e ∙ length_word_lem Old c in
    absurd (omega arith)

pub accepted_typed : (f : List ℕ) → Each (λ x. x < 256) f → (read_of f).refusal ≡ 0 → TypedBoard (read_of f).board
accepted_typed f small h = rw (← (accepted f h).decoded) (decode_typed f small)

-- each other file is refused with 11, and gives the empty board
pub refused : (f : List ℕ) → ((read_of f).refusal ≡ 0 → ⊥) → read_of f ≡ refused_file
refused f h = go (read_cases f)
  where
    go : ((read_of f ≡ read_as (decode f)) × Accepted f (decode f)) ⊎ (read_of f ≡ refused_file) → read_of f ≡ refused_file
    go (inl p) = absurd (h (ap (λ (r : ReadBack). r.refusal) p.0))
    go (inr e) = e

-- THE READER WITHOUT `decode`: f is a file of a board that a machine can hold and that is valid, or it is not
pub record FileOf (f : List ℕ) (b : Board) : Type 0 where
  pub typed : TypedBoard b
  pub valid : valid_board b ≡ true
  pub bytes : IsFile f b

pub read_written : (f : List ℕ) (b : Board) → FileOf f b → read_of f ≡ read_as b
read_written f b w = go w.bytes
  where
    go : IsFile f b → read_of f ≡ read_as b
    go (inl e) = rw e (read_back_lem b w.typed w.valid)
    go (inr p) = rw p.1 (old_read_back b w.typed w.valid p.0)

pub written_read : (f : List ℕ) → Each (λ x. x < 256) f → (read_of f).refusal ≡ 0 → FileOf f (read_of f).board
written_read f small h = record { typed = accepted_typed f small h; valid = (accepted f h).valid; bytes = (accepted f h).bytes }

pub unwritten_refused : (f : List ℕ) → Each (λ x. x < 256) f → ((b : Board) → FileOf f b → ⊥) → read_of f ≡ refused_file
unwritten_refused f small none = refused f (λ h. none (read_of f).board (written_read f small h))

-- in each form: two boards never have one file, nor does one board come from two
pub encode_injective : (form : FileForm) (a b : Board) → TypedBoard a → TypedBoard b → valid_board a ≡ true → valid_board b ≡ true → Carries form a.bandai.cart → Carries form b.bandai.cart → encode_as form a ≡ encode_as form b → a ≡ b
encode_injective form a b ta tb va vb ca cb e =
    let r : read_as a ≡ read_as b = sym (either_back form a ta va ca) ∙ rw e (either_back form b tb vb cb) in
    ap (λ (x : ReadBack). x.board) r

pub one_file : (f g : List ℕ) → (read_of f).refusal ≡ 0 → (read_of g).refusal ≡ 0 → length_word f ≡ length_word g → (read_of f).board ≡ (read_of g).board → f ≡ g
one_file f g hf hg n e =
    (accepted f hf).again
    ∙ ap (λ (k : ℕ). encode_as (pick (eqb k (cart_length Old)) Old Current) (read_of f).board) n
    ∙ ap (encode_as (file_form g)) e
    ∙ sym (accepted g hg).again

-- A FILE HAS AT MOST 682 BYTES, one of the old form at most 681
pub length_encode : (b : Board) → TypedBoard b → valid_board b ≡ true → length (encode b) ≤ 682
length_encode b t v = file_within Current b (typed_sized b t) v

pub length_old : (b : Board) → TypedBoard b → valid_board b ≡ true → length (encode_as Old b) ≤ 681
length_old b t v = file_within Old b (typed_sized b t) v

-- JUST THE BYTES WRITTEN: what stands behind them in a longer buffer plays no part
pub written_front : (b : Board) (buffer : List ℕ) → valid_board b ≡ true → length (encode b) ≤ length buffer →
    take (write valid_board board_file b buffer).size (write valid_board board_file b buffer).buffer ≡ encode b
unfolding board_file
written_front b buffer v room =
    rw (write_runs valid_board board_file b buffer v (le-leb (length (encode b)) (length buffer) room)) (take-append_seam (encode b) (drop (length (encode b)) buffer))

pub written_back : (b : Board) (buffer : List ℕ) → TypedBoard b → valid_board b ≡ true → length (encode b) ≤ length buffer →
    read_of (take (write valid_board board_file b buffer).size (write valid_board board_file b buffer).buffer) ≡ read_as b
written_back b buffer t v room = rw (written_front b buffer v room) (read_back_lem b t v)
