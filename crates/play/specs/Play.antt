-- WHAT A LINE OF A SCRIPT DOES that is no event: the player, the output and the image after it. Read downwards. Assumes nothing.
use Rattle.std.specs.Prelude.{ℕ, ◌+◌, ◌%◌, List, [], take, ◌==◌, slice_index}
use Rattle.laws.specs.Choice.{pick}
use Rattle.commands.specs.declared.Command.{Command}
use Rattle.commands.specs.declared.Command.TheVariants.{Nothing, Fit, Write, Read, Clocks, Card, Insert, Lines, Event, Counts, Stop, File, Resume, Pages, State, Bars, Image, View, Poke, Module, View2, Poke2, Decode, Unknown}
use Rattle.script.specs.declared.Line.{Line}
use Rattle.script.specs.Script.{parsed, line_of}
use Rattle.board_lines.specs.BoardLines.{state_lines, bars_line}
use Rattle.reader_lines.specs.ReaderLines.{module_line}
use Rattle.image.specs.Image.{page_lines, view_line}
use Rattle.player.specs.declared.Player.{Player}
use Rattle.player.specs.Player.{placed, fit_of, counts_of, stop_of, file_line, resume_of, report_of}
use Rattle.player_image.specs.PlayerImage.{made_of, made_image, poke_of, poked_image}
use Rattle.player_split.specs.PlayerSplit.{view_split_of, poke_split_of, poked_split}
use Rattle.player_decode.specs.PlayerDecode.{decode_of}

-- a player and an output, and an image
abbrev pub with : Player × List ℕ → List ℕ → Player × List ℕ × List ℕ
with a image = (a.0, a.1, image)

-- the first number of a line as an address, the second as a byte
abbrev pub address_in : Line → ℕ
address_in l = slice_index l.value 0 % 65536

abbrev pub byte_in : Line → ℕ
byte_in l = slice_index l.value 1 % 256

-- where a view and a poke of two buffers cut the image: the last of their numbers
abbrev pub view_cut : Line → ℕ
view_cut l = slice_index l.value 1

abbrev pub poke_cut : Line → ℕ
poke_cut l = slice_index l.value 2

-- what the commands that only show write; the others nothing
abbrev pub shown_by : Command → Player → Line → List ℕ → List ℕ
shown_by Nothing p l image = []
shown_by Fit p l image = []
shown_by Write p l image = []
shown_by Read p l image = []
shown_by Clocks p l image = []
shown_by Card p l image = []
shown_by Insert p l image = []
shown_by Lines p l image = []
shown_by Event p l image = []
shown_by Counts p l image = []
shown_by Stop p l image = []
shown_by File p l image = file_line p.board
shown_by Resume p l image = []
shown_by Pages p l image = page_lines p.board
shown_by State p l image = state_lines p.board
shown_by Bars p l image = bars_line p.board
shown_by Image p l image = []
shown_by View p l image = view_line p.board (take p.image image) l.chr (address_in l)
shown_by Poke p l image = []
shown_by Module p l image = module_line p.board
shown_by View2 p l image = []
shown_by Poke2 p l image = []
shown_by Decode p l image = []
shown_by Unknown p l image = []

abbrev pub shows : Command → Player → Line → List ℕ → List ℕ → Player × List ℕ × List ℕ
shows c p l out image = with (placed p out (shown_by c p l image)) image

-- what the commands on two buffers and `decode` do; of the others, those that only show. An event does nothing here: it runs as a record
abbrev pub asked_by : Command → Player → List ℕ → Line → List ℕ → List ℕ → Player × List ℕ × List ℕ
asked_by Nothing p line l out image = shows Nothing p l out image
asked_by Fit p line l out image = shows Fit p l out image
asked_by Write p line l out image = shows Write p l out image
asked_by Read p line l out image = shows Read p l out image
asked_by Clocks p line l out image = shows Clocks p l out image
asked_by Card p line l out image = shows Card p l out image
asked_by Insert p line l out image = shows Insert p l out image
asked_by Lines p line l out image = shows Lines p l out image
asked_by Event p line l out image = shows Event p l out image
asked_by Counts p line l out image = shows Counts p l out image
asked_by Stop p line l out image = shows Stop p l out image
asked_by File p line l out image = shows File p l out image
asked_by Resume p line l out image = shows Resume p l out image
asked_by Pages p line l out image = shows Pages p l out image
asked_by State p line l out image = shows State p l out image
asked_by Bars p line l out image = shows Bars p l out image
asked_by Image p line l out image = shows Image p l out image
asked_by View p line l out image = shows View p l out image
asked_by Poke p line l out image = shows Poke p l out image
asked_by Module p line l out image = shows Module p l out image
asked_by View2 p line l out image = with (view_split_of p l.chr (address_in l) (view_cut l) image out) image
asked_by Poke2 p line l out image = with (poke_split_of p (poke_cut l) image out) (poked_split p l.chr (address_in l) (byte_in l) (poke_cut l) image)
asked_by Decode p line l out image = with (decode_of p line out) image
asked_by Unknown p line l out image = shows Unknown p l out image

-- what each command does
abbrev pub done_by : Command → Player → List ℕ → Line → List ℕ → List ℕ → Player × List ℕ × List ℕ
done_by Nothing p line l out image = asked_by Nothing p line l out image
done_by Fit p line l out image = with (fit_of p l.value out) image
done_by Write p line l out image = asked_by Write p line l out image
done_by Read p line l out image = asked_by Read p line l out image
done_by Clocks p line l out image = asked_by Clocks p line l out image
done_by Card p line l out image = asked_by Card p line l out image
done_by Insert p line l out image = asked_by Insert p line l out image
done_by Lines p line l out image = asked_by Lines p line l out image
done_by Event p line l out image = asked_by Event p line l out image
done_by Counts p line l out image = with (counts_of p out) image
done_by Stop p line l out image = with (stop_of p out) image
done_by File p line l out image = asked_by File p line l out image
done_by Resume p line l out image = with (resume_of p line out) image
done_by Pages p line l out image = asked_by Pages p line l out image
done_by State p line l out image = asked_by State p line l out image
done_by Bars p line l out image = asked_by Bars p line l out image
done_by Image p line l out image = with (made_of p out) (made_image p image)
done_by View p line l out image = asked_by View p line l out image
done_by Poke p line l out image = with (poke_of p image out) (poked_image p l.chr (address_in l) (byte_in l) image)
done_by Module p line l out image = asked_by Module p line l out image
done_by View2 p line l out image = asked_by View2 p line l out image
done_by Poke2 p line l out image = asked_by Poke2 p line l out image
done_by Decode p line l out image = asked_by Decode p line l out image
done_by Unknown p line l out image = asked_by Unknown p line l out image

-- n lines more that were read, modulo 2^64
abbrev pub counted : ℕ → Player → Player
counted n p =
    record { board = p.board; records = p.records; refused = p.refused; lines = (p.lines + n) % 18446744073709551616; place = p.place; image = p.image }

-- a line: it is counted; then its command, or the report of its fault
unfoldable pub line_run : Player → List ℕ → List ℕ → List ℕ → Player × List ℕ × List ℕ
line_run p line out image =
    pick ((line_of line).fault == 0)
    (done_by (line_of line).command (counted 1 p) line (parsed (line_of line)) out image)
    (with (report_of (counted 1 p) (line_of line).fault out) image)

-- a line of which only a part was read, since it is too long
unfoldable pub too_long : Player → List ℕ → Player × List ℕ
too_long p out = report_of (counted 1 p) 9 out
