-- The lines of a replay script: the command of a line, its numbers, or what is wrong with it. Words are defined in crate text, numbers in crate number.
-- Faults: 1 not a number, 2 a number above 64 bits, 3 a number is missing, 4 a number too many, 5 a value that its field cannot hold,
-- 6 not hexadecimal, 7 neither prg nor chr, 8 unknown word, 9 longer than 4,096 bytes. Read downwards; line_of is what a line says.
-- Assumes nothing.
use Rattle.std.specs.Prelude.{List, [], ◌∷◌, Bool, true, false, ◌&&◌, not, ℕ, ◌+◌, ◌%◌, eqb, ltb, leb, length, set, Result, Ok, Err}
use Rattle.laws.specs.Choice.{pick}
use Rattle.laws.specs.Lists.{blank, same, every}
use Rattle.text.specs.Words.{code_of, words, first, rest, none}
use Rattle.number.specs.Number.{is_digit_of, number_of, bytes_of}
use Rattle.commands.specs.declared.Command.{Command}
use Rattle.commands.specs.declared.Command.TheVariants.{Nothing}
use Rattle.script.specs.declared.Line.{Line as Parsed}
use Rattle.script.specs.declared.fault.LineFault.{LineFault}
use Rattle.script.specs.declared.numbers.Numbers.{Numbers as Read}
use Rattle.script.specs.Faults.{fault_number}
use Rattle.commands.specs.Commands.{command_of, form_of, numbers_room, wanted_by, held_by}

-- the numbers that were read, how many they are, and the fault of the first word that is none, or 0
pub record Numbers : Type 0 where
  pub value : List ℕ
  pub count : ℕ
  pub fault : ℕ

-- the same of numbers without a fault
abbrev pub as_numbers : Read → Numbers
as_numbers n = record { value = n.value; count = n.count; fault = 0 }

unfoldable pub no_numbers : Numbers
no_numbers = record { value = blank numbers_room; count = 0; fault = 0 }

-- one number more; one above the room stands for more than have room
unfoldable pub with_number : Numbers → ℕ → Numbers
with_number s v =
    pick (ltb s.count numbers_room)
    (record { value = set s.value s.count v; count = s.count + 1; fault = s.fault })
    (record { value = s.value; count = numbers_room + 1; fault = s.fault })

abbrev pub with_fault : Numbers → ℕ → Numbers
with_fault s n = record { value = s.value; count = s.count; fault = n }

-- words read as numbers, up to the first that is none
unfoldable pub read_words : Numbers → List (List ℕ) → Numbers
read_words s [] = s
read_words s (w ∷ ws) = pick (eqb (number_of w).fault 0) (read_words (with_number s (number_of w).value) ws) (with_fault s (number_of w).fault)

abbrev pub numbers_of : List (List ℕ) → Numbers
numbers_of ws = read_words no_numbers ws

-- what is wrong with the numbers of a command, or 0
unfoldable pub fault_of : Command → Numbers → ℕ
fault_of c n =
    pick (not (eqb n.fault 0)) n.fault
    (pick (ltb n.count (wanted_by c)) 3
    (pick (ltb (wanted_by c) n.count) 4
    (pick (held_by c n.value) 0
    5)))

-- what a line says: its numbers in order, 0 past them, its command, whether a view or a poke is of CHR, and its fault or 0
pub record Line : Type 0 where
  pub value : List ℕ
  pub command : Command
  pub chr : Bool
  pub fault : ℕ

-- a line with a fault; a blank line, where it is 0
unfoldable pub fault_line : ℕ → Line
fault_line n = record { value = blank numbers_room; command = Nothing; chr = false; fault = n }

-- a command without numbers
abbrev pub bare_line : Command → Parsed
bare_line c = record { value = blank numbers_room; command = c; chr = false }

-- what a result says of a line; and what is parsed of it
abbrev pub as_line : Result Parsed LineFault → Line
as_line (Ok l) = record { value = l.value; command = l.command; chr = l.chr; fault = 0 }
as_line (Err f) = fault_line (fault_number f)

abbrev pub parsed : Line → Parsed
parsed l = record { value = l.value; command = l.command; chr = l.chr }

-- a command and its numbers
unfoldable pub numbers_line : Command → Bool → List (List ℕ) → Line
numbers_line c chr ws =
    pick (eqb (fault_of c (numbers_of ws)) 0)
    (record { value = (numbers_of ws).value; command = c; chr = chr; fault = 0 })
    (fault_line (fault_of c (numbers_of ws)))

-- a view or a poke: prg or chr, then its numbers
unfoldable pub memory_line : Command → List (List ℕ) → Line
memory_line c ws =
    pick (same (first ws) (112 ∷ 114 ∷ 103 ∷ [])) (numbers_line c false (rest ws))
    (pick (same (first ws) (99 ∷ 104 ∷ 114 ∷ [])) (numbers_line c true (rest ws))
    (fault_line 7))

-- at most one word, of hexadecimal digits, two a byte
abbrev pub is_hexadecimal : List (List ℕ) → Bool
is_hexadecimal ws = none (rest ws) && (every (is_digit_of true) (first ws) && eqb (length (first ws) % 2) 0)

-- a command and bytes
unfoldable pub hexadecimal_line : Command → List (List ℕ) → Line
hexadecimal_line c ws = pick (is_hexadecimal ws) (record { value = blank numbers_room; command = c; chr = false; fault = 0 }) (fault_line 6)

unfoldable pub command_line : Command → List (List ℕ) → Line
command_line c ws =
    pick (eqb (form_of c) 0) (numbers_line c false ws)
    (pick (eqb (form_of c) 1) (memory_line c ws)
    (pick (eqb (form_of c) 2) (hexadecimal_line c ws)
    (fault_line 8)))

-- the words of a line
unfoldable pub words_line : List (List ℕ) → Line
words_line [] = fault_line 0
words_line (w ∷ ws) = command_line (command_of w) ws

-- what a line says
unfoldable pub line_of : List ℕ → Line
line_of l = pick (leb (length l) 4096) (words_line (words (code_of l))) (fault_line 9)

-- the bytes that follow a line's command: the state file of `resume`, the modules of `decode`
unfoldable pub bytes_in : List ℕ → List ℕ
bytes_in l = bytes_of (first (rest (words (code_of l))))
