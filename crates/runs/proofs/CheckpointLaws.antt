-- Laws of the state file's writer and of a checkpoint: their three cases, and that just the bytes written are read. A reader may skip them.
-- Assumes nothing.
use Rattle.std.specs.Prelude.{◌≡◌, ℕ, Bool, true, false, List, ◌++◌, eqb, length, take, drop}
use Rattle.std.proofs.Math.Path.{refl}
use Rattle.std.proofs.Math.Seq.{take-append_seam}
use Rattle.runs.specs.Machine.{File}
use Rattle.runs.specs.Checkpoint.{file_fits, write, checkpoint}

module _ {State : Type 0} (valid : State → Bool) (file : File State) where
  open file use {encode, read}

  -- the writer's three cases: 12 before 10, whatever the buffer
  pub write_invalid : (s : State) (buffer : List ℕ) → valid s ≡ false → write valid file s buffer ≡ record { refusal = 12; size = 0; buffer = buffer }
  unfolding write
  write_invalid s buffer v = rw v refl

  pub write_short : (s : State) (buffer : List ℕ) → valid s ≡ true → file_fits (encode s) buffer ≡ false → write valid file s buffer ≡ record { refusal = 10; size = 0; buffer = buffer }
  unfolding write
  write_short s buffer v r = rw (v, r) refl

  pub write_runs : (s : State) (buffer : List ℕ) → valid s ≡ true → file_fits (encode s) buffer ≡ true →
      write valid file s buffer ≡ record { refusal = 0; size = length (encode s); buffer = encode s ++ drop (length (encode s)) buffer }
  unfolding write
  write_runs s buffer v r = rw (v, r) refl

  -- of an accepted write just the bytes written are read
  read_of_written : (s : State) (buffer : List ℕ) → eqb (write valid file s buffer).refusal 0 ≡ true →
      (checkpoint valid file s buffer).state ≡ (read (take (write valid file s buffer).size (write valid file s buffer).buffer)).1
  unfolding checkpoint
  read_of_written s buffer h = rw h refl

  -- the checkpoint's three cases: on any valid state whose file fits, it gives what the reader makes of the file
  pub checkpoint_invalid : (s : State) (buffer : List ℕ) → valid s ≡ false → checkpoint valid file s buffer ≡ record { refusal = 12; state = s; buffer = buffer }
  unfolding checkpoint
  checkpoint_invalid s buffer v = rw (write_invalid s buffer v) refl

  pub checkpoint_short : (s : State) (buffer : List ℕ) → valid s ≡ true → file_fits (encode s) buffer ≡ false → checkpoint valid file s buffer ≡ record { refusal = 10; state = s; buffer = buffer }
  unfolding checkpoint
  checkpoint_short s buffer v r = rw (write_short s buffer v r) refl

  pub checkpoint_reads : (s : State) (buffer : List ℕ) → valid s ≡ true → file_fits (encode s) buffer ≡ true →
      checkpoint valid file s buffer ≡ record { refusal = (read (encode s)).0; state = (read (encode s)).1; buffer = encode s ++ drop (length (encode s)) buffer }
  unfolding checkpoint
  checkpoint_reads s buffer v r = rw (write_runs s buffer v r, take-append_seam) refl
