-- THE FIELDS OF AN EVENT RECORD, listed once: as words with widths in bytes, in the order of a script's `event` command. Assumes nothing.
use Rattle.std.specs.Prelude.{List, [], ◌∷◌, ℕ, get_or, set}
use Rattle.laws.specs.Words.{Fit, cut}
use Rattle.event.specs.declared.Event.{Event}

-- kind, address (u16), value, count (u32), number (u64), chip, SCL, SDA
abbrev pub event_widths : List ℕ
event_widths = 1 ∷ 2 ∷ 1 ∷ 4 ∷ 8 ∷ 1 ∷ 1 ∷ 1 ∷ []

abbrev pub event_words : Event → List ℕ
event_words e = e.kind ∷ e.address ∷ e.value ∷ e.count ∷ e.number ∷ e.chip ∷ e.scl ∷ e.sda ∷ []

-- the record with these words, 0 past the end of the list
abbrev pub event_from : List ℕ → Event
event_from xs =
    record {
      kind = get_or xs 0 0;
      address = get_or xs 1 0;
      value = get_or xs 2 0;
      count = get_or xs 3 0;
      number = get_or xs 4 0;
      chip = get_or xs 5 0;
      scl = get_or xs 6 0;
      sda = get_or xs 7 0;
    }

-- .. each cut to its width
unfoldable pub event_of : List ℕ → Event
event_of xs = event_from (cut event_widths xs)

-- what the machine's types hold of a record: each word fits its width
abbrev pub TypedEvent : Event → Type 0
TypedEvent e = Fit event_widths (event_words e)

-- a record with another count
abbrev pub with_count : ℕ → Event → Event
with_count n e = event_from (set (event_words e) 3 n)
