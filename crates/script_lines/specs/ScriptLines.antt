-- THE LINES OF A TEXT: neighbouring events are collected and run together, every other line by itself. Read downwards. Assumes nothing.
use Rattle.std.specs.Prelude.{◌≡◌, Bool, false, ◌||◌, ◌&&◌, List, [], ◌∷◌, ℕ, ◌+◌, ◌*◌, eqb, leb, length, take, drop}
use Rattle.laws.specs.Choice.{pick}
use Rattle.commands.specs.Commands.{form_of}
use Rattle.script.specs.Script.{Line, parsed, line_of}
use Rattle.event_words.specs.Words.{words_of}
use Rattle.script_events.specs.Events.{is_event, line_event}
use Rattle.records.specs.Records.{put_record, pending_of}
use Rattle.player.specs.declared.Player.{Player}
use Rattle.script_lines.specs.declared.LineKind.{LineKind}
use Rattle.script_lines.specs.declared.LineKind.TheVariants.{Blank, Event, Other}
use Rattle.script_lines.specs.declared.Taken.{Taken}
use Rattle.script_lines.specs.declared.Played.{Played}
use Rattle.play.specs.Play.{counted, line_run}

-- the whole lines of a text, without their ends; what follows the last end is no whole line
unfoldable pub before : ℕ → List (List ℕ) → List (List ℕ)
before b [] = []
before b (l ∷ ls) = (b ∷ l) ∷ ls

unfoldable pub whole_lines : List ℕ → List (List ℕ)
whole_lines [] = []
whole_lines (b ∷ t) = pick (eqb b 10) ([] ∷ whole_lines t) (before b (whole_lines t))

-- a blank line: no command, and no fault
abbrev pub is_blank : Line → Bool
is_blank l = eqb (form_of l.command) 3 && eqb l.fault 0

-- 0 a blank line, 1 an event, 2 any other
unfoldable pub kind_of : Line → ℕ
kind_of l = pick (is_event l.command) 1 (pick (is_blank l) 0 2)

-- n records wait; one more, where a line is an event
abbrev pub kept_by : ℕ → List ℕ → ℕ → Line → List ℕ
kept_by kind ws n l = pick (eqb kind 1) (put_record ws n (words_of (line_event (parsed l)))) ws

abbrev pub count_by : ℕ → ℕ → ℕ
count_by kind n = pick (eqb kind 1) (n + 1) n

-- the same by a line's kind
abbrev pub kind_number : LineKind → ℕ
kind_number Blank = 0
kind_number (Event l) = 1
kind_number Other = 2

abbrev pub IsKindOf : LineKind → Line → Type 0
IsKindOf Blank l = 0 ≡ kind_of l
IsKindOf (Event e) l = (1 ≡ kind_of l) × (e ≡ parsed l)
IsKindOf Other l = 2 ≡ kind_of l

abbrev pub kind_kept : LineKind → List ℕ → ℕ → List ℕ
kind_kept Blank ws n = ws
kind_kept (Event l) ws n = put_record ws n (words_of (line_event l))
kind_kept Other ws n = ws

abbrev pub kind_count : LineKind → ℕ → ℕ
kind_count Blank n = n
kind_count (Event l) n = n + 1
kind_count Other n = n

-- the events of lines, up to a line that is neither event nor blank, or to 64: the place past them, how many they are, the lines that they stood
-- on (blank ones too), and whether such a line stands there; and the words of their records
unfoldable pub taken_from : ℕ → ℕ → ℕ → List ℕ → List (List ℕ) → Taken × List ℕ
taken_from at n k ws [] = (record { at = at; count = n; lines = k; other = false }, ws)
taken_from at n k ws (l ∷ ls) =
    pick (eqb (kind_of (line_of l)) 2 || leb 64 n)
    (record { at = at; count = n; lines = k; other = eqb (kind_of (line_of l)) 2 }, ws)
    (taken_from (at + (length l + 1)) (count_by (kind_of (line_of l)) n) (k + 1) (kept_by (kind_of (line_of l)) ws n (line_of l)) ls)

unfoldable pub taken_of : List ℕ → ℕ → List ℕ → Taken × List ℕ
taken_of text from ws = taken_from from 0 0 ws (whole_lines (drop from text))

-- the first of the lines from a place on, where there is one
unfoldable pub line_played : Player → ℕ → List (List ℕ) → List ℕ → List ℕ → Played × List ℕ × List ℕ
line_played p at [] out image = (record { player = p; at = at }, out, image)
line_played p at (l ∷ ls) out image = (
  record { player = (line_run p l out image).0; at = at + (length l + 1) },
  (line_run p l out image).1,
  (line_run p l out image).2,
)

-- the records that wait run, and their lines counted
abbrev pub taken_run : Player → Taken × List ℕ → List ℕ → Player × List ℕ
taken_run p t out =
    (counted t.0.lines (pending_of p (take (3 * t.0.count) t.1) out).0, (pending_of p (take (3 * t.0.count) t.1) out).1)

-- then another line, where one stands there
abbrev pub after_taken : Player → List ℕ → Taken × List ℕ → List ℕ → List ℕ → Played × List ℕ × List ℕ
after_taken p text t out image =
    pick t.0.other
    (line_played (taken_run p t out).0 t.0.at (whole_lines (drop t.0.at text)) (taken_run p t out).1 image)
    (record { player = (taken_run p t out).0; at = t.0.at }, (taken_run p t out).1, image)

-- the part of a text from a place on that is played at once: where the player is then, the output and the image; and the words of the records
unfoldable pub part_played : Player → List ℕ → ℕ → List ℕ → List ℕ → List ℕ → (Played × List ℕ × List ℕ) × List ℕ
part_played p text from ws out image = (after_taken p text (taken_of text from ws) out image, (taken_of text from ws).1)
