-- EVENT RECORDS AS WORDS: three for each, as a record of the C layout lies in a memory whose low byte comes first. Assumes nothing.
use Rattle.std.specs.Prelude.{List, [], ◌∷◌, ◌++◌, ℕ, ◌+◌, ◌*◌, ◌/◌, ◌^◌, ◌<◌, get_or}
use Rattle.laws.specs.Lists.{Each}
use Rattle.event.specs.declared.Event.{Event}
use Rattle.event.specs.EventWords.{event_of}

-- the number; the count, the address, the kind and the value from the low end up; the chip and its lines, and padding that says nothing. Each
-- field is the low part of what stands from its place on, cut to its width; they are in the order of an event's words
unfoldable pub record_of : ℕ → ℕ → ℕ → Event
record_of a b c = event_of (b / 2 ^ 48 ∷ b / 2 ^ 32 ∷ b / 2 ^ 56 ∷ b ∷ a ∷ c ∷ c / 2 ^ 8 ∷ c / 2 ^ 16 ∷ [])

-- record i
abbrev pub event_at : List ℕ → ℕ → Event
event_at ws i = record_of (get_or ws (3 * i) 0) (get_or ws (3 * i + 1) 0) (get_or ws (3 * i + 2) 0)

-- all records; a rest of fewer than three words is ignored
unfoldable pub events_of : List ℕ → List Event
events_of [] = []
events_of (a ∷ []) = []
events_of (a ∷ b ∷ []) = []
events_of (a ∷ b ∷ c ∷ ws) = record_of a b c ∷ events_of ws

-- each number below 2^64: what a lent `&[u64]` holds
abbrev pub Words : List ℕ → Type 0
Words = Each (λ w. w < 2 ^ 64)

-- the words of a record, and of a list of records
abbrev pub words_of : Event → List ℕ
words_of e =
    e.number ∷ (e.count + 2 ^ 32 * e.address + 2 ^ 48 * e.kind + 2 ^ 56 * e.value) ∷ (e.chip + 2 ^ 8 * e.scl + 2 ^ 16 * e.sda) ∷ []

unfoldable pub all_words : List Event → List ℕ
all_words [] = []
all_words (e ∷ es) = words_of e ++ all_words es
