-- The board as the machine of crate runs: the rules that the contracts of `run_session` and `run_words` cite, and the state file that those of
-- `write` and `checkpoint` cite. Assumes nothing.
use Rattle.std.specs.Prelude.{List, ℕ}
use Rattle.refusals.specs.Refusals.{number_of_refusal}
use Rattle.runs.specs.Machine.{Machine}
use Rattle.runs.specs.Checkpoint.{CheckpointOutcome}
use Rattle.bandai_fcg.specs.declared.board.Board.{Board}
use Rattle.event.specs.declared.Event.{Event}
use Rattle.session.specs.Session.{board_rules}
use Rattle.state_file.specs.StateFile.{board_file}
use Rattle.equivalence.specs.declared.CheckpointEnd.{CheckpointEnd}

abbrev pub machine : Machine Board Event
machine = record { rules = board_rules; file = board_file }

-- what `checkpoint` answers, as a checkpoint's outcome with the buffer that is left
abbrev pub checkpoint_answer : CheckpointEnd → List ℕ → CheckpointOutcome Board
checkpoint_answer c buffer = record { refusal = number_of_refusal c.refusal; state = c.board; buffer = buffer }
