-- THE CALLS AS THE HOST MAKES THEM: a session's records are lent as words, three for each (`run_words`, crate word_session), and a checkpoint
-- is as before. `run_session` (crate session_walk) has the same records lent as structs. The two contracts cite one definition,
-- `session board_rules`: of `events_of words` here and of the list itself there. Definitions. Assumes nothing.
use Rattle.std.specs.Prelude.{List, [], ◌∷◌, ℕ}
use Rattle.runs.specs.Batched.{Call, Session, Checkpoint}
use Rattle.event.specs.declared.Event.{Event}
use Rattle.event_words.specs.Words.{Words, events_of}

-- the words, or none, and the buffer lent to the call, of any length and contents
pub data WordCall : Type 0 where
  WordSession : List ℕ → List ℕ → WordCall
  WordCheckpoint : List ℕ → WordCall

-- the same call, with the records that the words stand for
unfoldable pub call_of : WordCall → Call Event
call_of (WordSession words buffer) = Session (events_of words) buffer
call_of (WordCheckpoint buffer) = Checkpoint buffer

unfoldable pub calls_of : List WordCall → List (Call Event)
calls_of [] = []
calls_of (c ∷ cs) = call_of c ∷ calls_of cs

-- each word that is lent is below 2^64, as in every program's memory
unfoldable pub LentWords : WordCall → Type 0
LentWords (WordSession words buffer) = Words words
LentWords (WordCheckpoint buffer) = Unit {0}
