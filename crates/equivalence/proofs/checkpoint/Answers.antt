-- `equivalence::checkpoint` meets its contract: what `write` and `read` ensure, by whether the write was refused.
-- Assumes nothing.
use mathlib.Core.Path.{◌≡◌, refl}
use mathlib.Core.List.{List}
use Prim.Native.Nat.{ℕ}
use lib.ListN.{take}
use Rattle.std.proofs.Common.{Result, Ok, Err}
use Rattle.refusals.specs.declared.Refusal.{Refusal}
use Rattle.refusals.specs.Refusals.{refusal_number}
use Rattle.runs.specs.Checkpoint.{CheckpointOutcome, write, checkpoint}
use Rattle.bandai_fcg.specs.declared.board.Board.{Board}
use Rattle.validity.specs.Valid.{valid_board}
use Rattle.state_file.specs.StateFile.{board_file, write_answer, read_answer, read_of}
use Rattle.state_file.proofs.Numbers.{some_number}
use Rattle.equivalence.proofs.checkpoint.Goals as goal

module _ (b : Board) (buffer out : List ℕ) where
  refused : (e : Refusal) → write_answer (Err e) out ≡ write valid_board board_file b buffer → ◌≡◌ {A = CheckpointOutcome Board} (record { refusal = refusal_number e; state = b; buffer = out }) (checkpoint valid_board board_file b buffer)
  unfolding checkpoint
  refused e wrote = rw (← wrote, some_number e) refl

  written : (n : ℕ) (r : Result Board Refusal) → write_answer (Ok n) out ≡ write valid_board board_file b buffer → read_answer r ≡ read_of (take n out) →
      ◌≡◌ {A = CheckpointOutcome Board} (record { refusal = (read_answer r).refusal; state = (read_answer r).board; buffer = out }) (checkpoint valid_board board_file b buffer)
  unfolding checkpoint board_file
  written n r wrote back = rw (← wrote, ← back) refl

pub returns-in-Err : goal.returns-in-Err
returns-in-Err c =
    refused c.args.board c.args.buffer.now c.write.new.buffer c.in-Err.refusal (rw c.in-Err.is at c.write.ensures)

pub returns-in-Ok-read : goal.returns-in-Ok-read
returns-in-Ok-read c =
    written c.args.board c.args.buffer.now c.write.new.buffer c.in-Ok.length (Ok c.in-Ok-read.board) (rw c.in-Ok.is at c.write.ensures) (rw (c.in-Ok-read.is, c.first.ensures) at c.read.ensures)

pub returns-in-Err-read : goal.returns-in-Err-read
returns-in-Err-read c =
    rw c.empty.ensures
    (written c.args.board c.args.buffer.now c.write.new.buffer c.in-Ok.length (Err c.in-Err-read.refusal) (rw c.in-Ok.is at c.write.ensures) (rw (c.in-Err-read.is, c.first.ensures) at c.read.ensures))
