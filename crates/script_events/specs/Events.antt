-- The event that a line asks for: its numbers at the width of their fields. Read downwards. Assumes nothing.
use Rattle.std.specs.Prelude.{List, [], ◌∷◌, Bool, true, false, ℕ, get_or}
use Rattle.event.specs.declared.Event.{Event as Record}
use Rattle.event.specs.EventWords.{event_of}
use Rattle.commands.specs.declared.Command.{Command}
use Rattle.commands.specs.declared.Command.TheVariants.{Nothing, Fit, Write, Read, Clocks, Card, Insert, Lines, Event, Counts, Stop, File, Resume, Pages, State, Bars, Image, View, Poke, Module, View2, Poke2, Decode, Unknown}
use Rattle.script.specs.declared.Line.{Line}

abbrev pub is_event : Command → Bool
is_event Nothing = false
is_event Fit = false
is_event Write = true
is_event Read = true
is_event Clocks = true
is_event Card = true
is_event Insert = true
is_event Lines = true
is_event Event = true
is_event Counts = false
is_event Stop = false
is_event File = false
is_event Resume = false
is_event Pages = false
is_event State = false
is_event Bars = false
is_event Image = false
is_event View = false
is_event Poke = false
is_event Module = false
is_event View2 = false
is_event Poke2 = false
is_event Decode = false
is_event Unknown = false

-- where a command is none of the others: insert
abbrev pub insert_fields : List ℕ
insert_fields = 4 ∷ []

-- the fields of the event, in the order of an event's words, which is that of `event KIND ADDRESS VALUE COUNT NUMBER CHIP SCL SDA`; those that
-- are missing are 0
abbrev pub fields_in : Command → List ℕ → List ℕ
fields_in Nothing v = insert_fields
fields_in Fit v = insert_fields
fields_in Write v = 0 ∷ get_or v 0 0 ∷ get_or v 1 0 ∷ []
fields_in Read v = 1 ∷ get_or v 0 0 ∷ []
fields_in Clocks v = 2 ∷ 0 ∷ 0 ∷ get_or v 0 0 ∷ []
fields_in Card v = 3 ∷ 0 ∷ 0 ∷ get_or v 1 0 ∷ get_or v 0 0 ∷ []
fields_in Insert v = insert_fields
fields_in Lines v = 5 ∷ 0 ∷ 0 ∷ 0 ∷ 0 ∷ get_or v 0 0 ∷ get_or v 1 0 ∷ get_or v 2 0 ∷ []
fields_in Event v = v
fields_in Counts v = insert_fields
fields_in Stop v = insert_fields
fields_in File v = insert_fields
fields_in Resume v = insert_fields
fields_in Pages v = insert_fields
fields_in State v = insert_fields
fields_in Bars v = insert_fields
fields_in Image v = insert_fields
fields_in View v = insert_fields
fields_in Poke v = insert_fields
fields_in Module v = insert_fields
fields_in View2 v = insert_fields
fields_in Poke2 v = insert_fields
fields_in Decode v = insert_fields
fields_in Unknown v = insert_fields

-- each at the width of its field
unfoldable pub line_event : Line → Record
line_event l = event_of (fields_in l.command l.value)
