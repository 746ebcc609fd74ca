-- Laws of calls with words: the records are typed, and every list of typed calls has its words. Assumes nothing.
use Rattle.std.specs.Prelude.{◌≡◌, refl, List, [], ◌∷◌}
use Rattle.laws.specs.Lists.{Each}
use Rattle.runs.specs.Batched.{Call, Session, Checkpoint}
use Rattle.runs.specs.Claim.{TypedCall}
use Rattle.event.specs.declared.Event.{Event}
use Rattle.event.specs.EventWords.{TypedEvent}
use Rattle.event_words.specs.Words.{all_words}
use Rattle.event_words.proofs.RecordLaws.{events_typed, words_back, all_words_lem}
use Rattle.equivalence.specs.WordCalls.{WordCall, WordSession, WordCheckpoint, call_of, calls_of, LentWords}

call_typed : (c : WordCall) → LentWords c → TypedCall TypedEvent (call_of c)
unfolding LentWords TypedCall call_of
call_typed (WordSession words buffer) h = events_typed words
call_typed (WordCheckpoint buffer) h = tt

pub calls_typed : (cs : List WordCall) → Each LentWords cs → Each (TypedCall TypedEvent) (calls_of cs)
unfolding Each calls_of
calls_typed [] h = tt
calls_typed (c ∷ cs) h = (call_typed c h.0, calls_typed cs h.1)

-- a call's words, and those of a list of calls
abbrev pub word_call : Call Event → WordCall
word_call (Session es buffer) = WordSession (all_words es) buffer
word_call (Checkpoint buffer) = WordCheckpoint buffer

abbrev pub word_calls : List (Call Event) → List WordCall
word_calls [] = []
word_calls (c ∷ cs) = word_call c ∷ word_calls cs

every_call : (c : Call Event) → TypedCall TypedEvent c → LentWords (word_call c) × (call_of (word_call c) ≡ c)
unfolding LentWords TypedCall call_of
every_call (Session es buffer) t = (all_words_lem es t, rw (words_back es t) refl)
every_call (Checkpoint buffer) t = (tt, refl)

pub every_list : (cs : List (Call Event)) → Each (TypedCall TypedEvent) cs → Each LentWords (word_calls cs) × (calls_of (word_calls cs) ≡ cs)
unfolding Each calls_of
every_list [] t = (tt, refl)
every_list (c ∷ cs) t =
    let p = every_call c t.0 in
    let q = every_list cs t.1 in
    ((p.0, q.0), rw (p.1, q.1) refl)
