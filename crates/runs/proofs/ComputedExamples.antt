-- The small machine's rules, each computed, and runs of it, computed from the definitions alone: one list of calls, what it is fed as, the
-- writer and the checkpoint, a reader that gives another state, and a list on which the stepwise run refuses clocks and the two runs differ.
-- No law is used here, so a line that is changed in a definition shows as a value that differs.
-- Assumes nothing.
use Rattle.std.specs.Prelude.{◌≡◌, refl, ℕ, Bool, true, false, List, [], ◌∷◌, map, replicate}
use Rattle.runs.specs.Machine.{Machine}
use Rattle.runs.specs.Session.{end_state, answer_bytes, refused_count, session}
use Rattle.runs.specs.Checkpoint.{write, checkpoint}
use Rattle.runs.specs.Log.{Entry, events_of, read_answers}
use Rattle.runs.specs.Batched.{Call, Session, Checkpoint, call, batched}
use Rattle.runs.specs.Stepwise.{feed, stepwise}
use Rattle.runs.specs.Claim.{others}
use Rattle.runs.specs.CounterMachine.{Counter, CounterEvent, refusal, tick, ticks, apply, step, flags, value, valid, encode, decoded, read, counter_rules, counter_file, counter_machine}

abbrev pub event : ℕ → ℕ → ℕ → CounterEvent
event k v n = record { kind = k; value = v; count = n }

abbrev pub entry : CounterEvent → ℕ → ℕ → ℕ → Entry CounterEvent
entry e r f v = record { event = e; refusal = r; flags = f; value = v }

abbrev pub start : Counter
start = record { counter = 2; pending = false; clock = 0; register = 0 }

-- each rule of the machine. A tick, at 1, at 0 and after
abbrev pub counting : ℕ → Bool → ℕ → Counter
counting n p c = record { counter = n; pending = p; clock = c; register = 4 }

ticks_are : (tick (counting 1 false 7) ≡ counting 0 false 8) × ((tick (counting 0 false 7) ≡ counting 255 true 8) × (tick (counting 9 true 0) ≡ counting 8 true 1))
ticks_are = (refl, (refl, refl))

-- what is refused: clocks past 1,000, and kinds above 2
refused_are : map (refusal (counting 0 false 999)) (event 2 0 1 ∷ event 2 0 2 ∷ event 0 0 2 ∷ event 1 0 2 ∷ event 3 0 0 ∷ []) ≡ 0 ∷ 6 ∷ 0 ∷ 0 ∷ 13 ∷ []
refused_are = refl

-- a write sets the register and clears the flag; a read and what is refused leave all
steps_are : map (step (counting 3 true 999)) (event 0 9 5 ∷ event 1 9 5 ∷ event 2 9 2 ∷ event 3 9 0 ∷ []) ≡
    record { counter = 3; pending = false; clock = 999; register = 9 } ∷ counting 3 true 999 ∷ counting 3 true 999 ∷ counting 3 true 999 ∷ []
unfolding step apply
steps_are = refl

-- flags and values: with the flag up, with it down, and of clocks that are refused
flags_are : (map (flags (counting 0 true 0)) (event 0 9 0 ∷ event 1 9 0 ∷ event 2 9 0 ∷ []) ≡ 0 ∷ 3 ∷ 2 ∷ []) × ((map (flags (counting 0 false 0)) (event 0 9 0 ∷ event 1 9 0 ∷ event 2 9 1 ∷ []) ≡ 0 ∷ 1 ∷ 2 ∷ []) × (flags (counting 0 false 999) (event 2 9 2) ≡ 0))
unfolding step apply ticks
flags_are = (refl, (refl, refl))

values_are : map (value (counting 3 true 5)) (event 0 9 0 ∷ event 1 9 0 ∷ event 2 9 0 ∷ []) ≡ 0 ∷ 4 ∷ 0 ∷ []
values_are = refl

valid_is : (valid (counting 0 false 1000) ≡ true) × (valid (counting 0 false 1001) ≡ false)
valid_is = (refl, refl)

-- the file, each byte in its place and wrapped; the reader; and files that it refuses: of another length, a flag above 1, a clock past the limit
file_is : encode (record { counter = 257; pending = true; clock = 515; register = 260 }) ≡ 1 ∷ 1 ∷ 3 ∷ 2 ∷ 4 ∷ []
file_is = refl

-- bytes that are not there count as zeros
nothing_decoded : decoded [] ≡ record { counter = 0; pending = false; clock = 0; register = 0 }
nothing_decoded = refl

nothing_read : ℕ × Counter
nothing_read = (11, record { counter = 0; pending = false; clock = 0; register = 0 })

read_is : read (1 ∷ 1 ∷ 3 ∷ 2 ∷ 4 ∷ []) ≡ (0, record { counter = 1; pending = true; clock = 515; register = 4 })
read_is = refl

reads_refused : map read ((1 ∷ 1 ∷ 3 ∷ 2 ∷ []) ∷ (1 ∷ 1 ∷ 3 ∷ 2 ∷ 4 ∷ 0 ∷ []) ∷ (1 ∷ 2 ∷ 3 ∷ 2 ∷ 4 ∷ []) ∷ (1 ∷ 1 ∷ 233 ∷ 3 ∷ 4 ∷ []) ∷ []) ≡ replicate 4 nothing_read
unfolding nothing_read
reads_refused = refl

-- where the buffer ends early, the answers are zeros
early_end : read_answers (event 1 0 0 ∷ []) [] ≡ entry (event 1 0 0) 0 0 0 ∷ []
unfolding read_answers
early_end = refl

-- a session with a count over the counter's wrap, and a tail; a checkpoint without room; one with room to spare; a session without room;
-- a session with a refused record, a count of 0 and a count of 2
abbrev pub calls : List (Call CounterEvent)
calls =
    Session (event 0 7 0 ∷ event 2 0 3 ∷ event 1 0 0 ∷ []) (replicate 10 9)
    ∷ Checkpoint (1 ∷ 2 ∷ [])
    ∷ Checkpoint (replicate 8 4)
    ∷ Session (event 2 0 5 ∷ []) (0 ∷ 0 ∷ [])
    ∷ Session (event 9 1 1 ∷ event 2 0 0 ∷ event 2 0 2 ∷ event 1 0 0 ∷ []) (replicate 12 0)
    ∷ []

-- the answers of the five calls
refusals_are : map (λ t. t.refusal) (batched counter_machine start calls).turns ≡ 0 ∷ 10 ∷ 0 ∷ 10 ∷ 0 ∷ []
unfolding batched call session end_state answer_bytes refused_count checkpoint write step apply ticks read_answers
refusals_are = refl

-- the first session, its buffer's tail kept; and the last, in which one record is refused
first_is : session counter_rules start (event 0 7 0 ∷ event 2 0 3 ∷ event 1 0 0 ∷ []) (replicate 10 9) ≡
    record { refusal = 0; state = record { counter = 255; pending = true; clock = 3; register = 7 }; records = 3; refused = 0; answers = 0 ∷ 0 ∷ 0 ∷ 0 ∷ 2 ∷ 0 ∷ 0 ∷ 3 ∷ 7 ∷ 9 ∷ [] }
unfolding session end_state answer_bytes refused_count step apply ticks
first_is = refl

last_refused : (session counter_rules start (event 9 1 1 ∷ event 2 0 0 ∷ event 2 0 2 ∷ event 1 0 0 ∷ []) (replicate 12 0)).refused ≡ 1
unfolding session end_state answer_bytes refused_count step apply ticks
last_refused = refl

-- a state that is not valid is refused before a buffer that is too short by one byte; both leave the buffer
session_invalid : session counter_rules (record { counter = 0; pending = false; clock = 1001; register = 0 }) (event 1 0 0 ∷ []) (1 ∷ 2 ∷ []) ≡
    record { refusal = 12; state = record { counter = 0; pending = false; clock = 1001; register = 0 }; records = 0; refused = 0; answers = 1 ∷ 2 ∷ [] }
unfolding session
session_invalid = refl

session_short : session counter_rules start (event 1 0 0 ∷ []) (1 ∷ 2 ∷ []) ≡ record { refusal = 10; state = start; records = 0; refused = 0; answers = 1 ∷ 2 ∷ [] }
unfolding session
session_short = refl

-- the log, clocks and all
log_is : (batched counter_machine start calls).log ≡
    entry (event 0 7 0) 0 0 0 ∷ entry (event 2 0 3) 0 2 0 ∷ entry (event 1 0 0) 0 3 7
    ∷ entry (event 9 1 1) 13 2 0 ∷ entry (event 2 0 0) 0 2 0 ∷ entry (event 2 0 2) 0 2 0 ∷ entry (event 1 0 0) 0 3 7 ∷ []
unfolding batched call session end_state answer_bytes refused_count checkpoint write step apply ticks read_answers
log_is = refl

end_is : (batched counter_machine start calls).end ≡ record { counter = 253; pending = true; clock = 5; register = 7 }
unfolding batched call session end_state answer_bytes refused_count checkpoint write step apply ticks read_answers
end_is = refl

-- what the stepwise run is fed: three clocks for the count 3, the count 0 as it stands, and nothing of the session refused with 10
abbrev pub events : List CounterEvent
events = event 0 7 0 ∷ event 2 0 1 ∷ event 2 0 1 ∷ event 2 0 1 ∷ event 1 0 0 ∷ event 9 1 1 ∷ event 2 0 0 ∷ event 2 0 1 ∷ event 2 0 1 ∷ event 1 0 0 ∷ []

pub feed_is : feed counter_machine (events_of (batched counter_machine start calls).log) ≡ events
unfolding feed
feed_is = rw log_is refl

-- the stepwise run's four other records, computed on their own: the same bytes as in log_is
others_are : others counter_machine (stepwise counter_machine start events).log ≡
    entry (event 0 7 0) 0 0 0 ∷ entry (event 1 0 0) 0 3 7 ∷ entry (event 9 1 1) 13 2 0 ∷ entry (event 1 0 0) 0 3 7 ∷ []
unfolding others stepwise step apply ticks
others_are = refl

-- the writer: a file with room to spare; a buffer too short; a state that is not valid, which comes first
write_is : write valid counter_file start (replicate 7 4) ≡ record { refusal = 0; size = 5; buffer = 2 ∷ 0 ∷ 0 ∷ 0 ∷ 0 ∷ 4 ∷ 4 ∷ [] }
unfolding write
write_is = refl

write_short : write valid counter_file start (1 ∷ 2 ∷ []) ≡ record { refusal = 10; size = 0; buffer = 1 ∷ 2 ∷ [] }
unfolding write
write_short = refl

write_invalid : write valid counter_file (record { counter = 0; pending = false; clock = 1001; register = 0 }) (1 ∷ 2 ∷ []) ≡ record { refusal = 12; size = 0; buffer = 1 ∷ 2 ∷ [] }
unfolding write
write_invalid = refl

-- a checkpoint reads: of a state that fits no byte it leaves what the reader made of the file
checkpoint_wraps : (checkpoint valid counter_file (record { counter = 258; pending = false; clock = 0; register = 0 }) (replicate 5 0)).state.counter ≡ 2
unfolding checkpoint write
checkpoint_wraps = refl

-- and so does the call: on a machine whose reader answers every file with 7 and another state, the call has that refusal and leaves that state, and the next call gets it
abbrev pub another : Counter
another = record { counter = 77; pending = true; clock = 5; register = 6 }

abbrev pub strange_reader : Machine Counter CounterEvent
strange_reader = record { rules = counter_rules; file = record { encode = encode; read = λ file. (7, another) } }

strange_turns : (batched strange_reader start (Checkpoint (replicate 5 0) ∷ Checkpoint [] ∷ [])).turns ≡
    record { before = start; refusal = 7; after = another } ∷ record { before = another; refusal = 10; after = another } ∷ []
unfolding batched call checkpoint write
strange_turns = refl

-- Where the stepwise run refuses clocks nothing is claimed, and rightly: at the clock 999 three clocks at once are refused whole, one by one the first passes.
abbrev pub late : Counter
late = record { counter = 2; pending = false; clock = 999; register = 0 }

batched_stays : (batched counter_machine late (Session (event 2 0 3 ∷ []) (replicate 3 0) ∷ [])).end.clock ≡ 999
unfolding batched call session end_state answer_bytes refused_count step apply ticks read_answers
batched_stays = refl

stepwise_moves : (stepwise counter_machine late (feed counter_machine (event 2 0 3 ∷ []))).end.clock ≡ 1000
unfolding feed stepwise step apply ticks
stepwise_moves = refl
