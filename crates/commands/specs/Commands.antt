-- The commands of a replay script: the words that name them, and the numbers that each takes.
-- Read downwards. Assumes nothing.
use Rattle.std.specs.Prelude.{List, [], ◌∷◌, Bool, true, ◌&&◌, ℕ, suc, ◌+◌, ◌^◌, ltb, length, get_or}
use Rattle.laws.specs.Choice.{pick}
use Rattle.laws.specs.Codes.{codes}
use Rattle.laws.specs.Lists.{same}
use Rattle.cart.specs.CartWords.{cart_widths}
use Rattle.event.specs.EventWords.{event_widths}
use Rattle.commands.specs.declared.Command.{Command}
use Rattle.commands.specs.declared.Command.TheVariants.{Nothing, Fit, Write, Read, Clocks, Card, Insert, Lines, Event, Counts, Stop, File, Resume, Pages, State, Bars, Image, View, Poke, Module, View2, Poke2, Decode, Unknown}
use Rattle.commands.specs.declared.Form.{Form}
use Rattle.commands.specs.declared.Form.TheVariants.{Numbers, MemoryAndNumbers, Bytes, NoCommand}

-- the words that name the commands
unfoldable pub names : List (List ℕ)
names =
    codes "fit" ∷
    codes "write" ∷
    codes "read" ∷
    codes "clocks" ∷
    codes "card" ∷
    codes "insert" ∷
    codes "lines" ∷
    codes "event" ∷
    codes "counts" ∷
    codes "stop" ∷
    codes "file" ∷
    codes "resume" ∷
    codes "pages" ∷
    codes "state" ∷
    codes "bars" ∷
    codes "image" ∷
    codes "view" ∷
    codes "poke" ∷
    codes "module" ∷
    codes "view2" ∷
    codes "poke2" ∷
    codes "decode" ∷
    []

abbrev pub word_count : ℕ
word_count = 22

-- the place of a word among others; how many they are, where it is none of them
unfoldable pub place_of : List ℕ → List (List ℕ) → ℕ
place_of w [] = 0
place_of w (n ∷ ns) = pick (same w n) 0 (suc (place_of w ns))

-- the commands in the order of their words; the last is of every other word
abbrev pub kinds : List Command
kinds = Fit ∷ Write ∷ Read ∷ Clocks ∷ Card ∷ Insert ∷ Lines ∷ Event ∷ Counts ∷ Stop ∷ File ∷ Resume ∷ Pages ∷ State ∷ Bars ∷ Image ∷ View ∷ Poke ∷ Module ∷ View2 ∷ Poke2 ∷ Decode ∷ Unknown ∷ []

unfoldable pub command_of : List ℕ → Command
command_of w = get_or kinds (place_of w names) Unknown

-- what follows a command: 0 numbers, 1 a memory and numbers, 2 bytes; 3: it is none
abbrev pub form_of : Command → ℕ
form_of Nothing = 3
form_of Fit = 0
form_of Write = 0
form_of Read = 0
form_of Clocks = 0
form_of Card = 0
form_of Insert = 0
form_of Lines = 0
form_of Event = 0
form_of Counts = 0
form_of Stop = 0
form_of File = 0
form_of Resume = 2
form_of Pages = 0
form_of State = 0
form_of Bars = 0
form_of Image = 0
form_of View = 1
form_of Poke = 1
form_of Module = 0
form_of View2 = 1
form_of Poke2 = 1
form_of Decode = 2
form_of Unknown = 3

-- the number of a form
abbrev pub form_number : Form → ℕ
form_number Numbers = 0
form_number MemoryAndNumbers = 1
form_number Bytes = 2
form_number NoCommand = 3

-- how many numbers a line has room for; no command takes more
abbrev pub numbers_room : ℕ
numbers_room = 16

-- the numbers that a command takes, by the width of each in bytes: fit the fields of a cart, event those of an event record;
-- write ADDRESS VALUE; read ADDRESS; clocks COUNT; card NUMBER DIGITS; lines CHIP SCL SDA; view .. ADDRESS; poke .. ADDRESS VALUE;
-- view2 .. ADDRESS CUT; poke2 .. ADDRESS VALUE CUT
abbrev pub widths_of : Command → List ℕ
widths_of Nothing = []
widths_of Fit = cart_widths
widths_of Write = 2 ∷ 1 ∷ []
widths_of Read = 2 ∷ []
widths_of Clocks = 4 ∷ []
widths_of Card = 8 ∷ 4 ∷ []
widths_of Insert = []
widths_of Lines = 1 ∷ 1 ∷ 1 ∷ []
widths_of Event = event_widths
widths_of Counts = []
widths_of Stop = []
widths_of File = []
widths_of Resume = []
widths_of Pages = []
widths_of State = []
widths_of Bars = []
widths_of Image = []
widths_of View = 2 ∷ []
widths_of Poke = 2 ∷ 1 ∷ []
widths_of Module = []
widths_of View2 = 2 ∷ 4 ∷ []
widths_of Poke2 = 2 ∷ 1 ∷ 4 ∷ []
widths_of Decode = []
widths_of Unknown = []

abbrev pub wanted_by : Command → ℕ
wanted_by c = length (widths_of c)

-- the numbers from place i on are below 256 to the power of their widths
abbrev pub within : Bool → ℕ → List ℕ → List ℕ → Bool
within so i [] v = so
within so i (w ∷ ws) v = within (so && ltb (get_or v i 0) (256 ^ w)) (i + 1) ws v

abbrev pub held_by : Command → List ℕ → Bool
held_by c v = within true 0 (widths_of c) v
