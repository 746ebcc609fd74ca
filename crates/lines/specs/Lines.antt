-- THE LINES that a script's commands answer with, as bytes. Read downwards. Assumes nothing.
use Rattle.std.specs.Prelude.{List, [], ◌∷◌, ◌++◌, ℕ, zero, suc, eqb, length, get_or, drop}
use Rattle.laws.specs.Choice.{pick}
use Rattle.output.specs.Put.{decimal_of, hex_of, hex_word}
use Rattle.laws.specs.Codes.{codes}

-- EVENT ANSWERS: refusal, flags and value, in decimal, with a space between them
unfoldable pub answer_line : ℕ → ℕ → ℕ → List ℕ
answer_line refusal flags value = decimal_of refusal ++ (32 ∷ (decimal_of flags ++ (32 ∷ (decimal_of value ++ (10 ∷ [])))))

-- a line for each three bytes
unfoldable pub answer_lines : List ℕ → List ℕ
answer_lines [] = []
answer_lines (r ∷ []) = []
answer_lines (r ∷ f ∷ []) = []
answer_lines (r ∷ f ∷ v ∷ l) = answer_line r f v ++ answer_lines l

-- of n events that were refused as a whole: the refusal, for each
unfoldable pub refused_lines : ℕ → ℕ → List ℕ
refused_lines refusal zero = []
refused_lines refusal (suc n) = answer_line refusal 0 0 ++ refused_lines refusal n

-- PATTERNS: each `#` stands for the decimal digits of the next number; 0 where there is none
abbrev pub part_of : ℕ → ℕ → List ℕ
part_of b n = pick (eqb b 35) (decimal_of n) (b ∷ [])

abbrev pub taken_by : ℕ → ℕ
taken_by b = pick (eqb b 35) 1 0

unfoldable pub with_numbers : List ℕ → List ℕ → List ℕ
with_numbers [] ns = []
with_numbers (b ∷ p) ns = part_of b (get_or ns 0 0) ++ with_numbers p (drop (taken_by b) ns)

-- a pattern, bytes in hexadecimal, and the line's end
unfoldable pub hex_line : List ℕ → List ℕ → List ℕ → List ℕ
hex_line p ns bytes = with_numbers p ns ++ (hex_of bytes ++ (10 ∷ []))

-- LISTS: what is written of each entry, one after the other
unfoldable pub joined : (ℕ → List ℕ) → List ℕ → List ℕ
joined f [] = []
joined f (x ∷ l) = f x ++ joined f l

-- words of 32 bits in hexadecimal, with a space before each
abbrev pub spaced_word : ℕ → List ℕ
spaced_word w = 32 ∷ hex_word w

abbrev pub spaced_words : List ℕ → List ℕ
spaced_words l = joined spaced_word l

unfoldable pub words_line : List ℕ → List ℕ → List ℕ
words_line name words = name ++ (spaced_words words ++ (10 ∷ []))

-- a name and bytes in hexadecimal; the name alone where there is none
unfoldable pub bytes_line : List ℕ → List ℕ → List ℕ
bytes_line name bytes = name ++ pick (eqb (length bytes) 0) (10 ∷ []) (32 ∷ (hex_of bytes ++ (10 ∷ [])))

-- FAULTS: what is wrong with a line, by the number of its fault
unfoldable pub words_message : ℕ → List ℕ
words_message fault =
    pick (eqb fault 6) (codes "not hexadecimal")
    (pick (eqb fault 7) (codes "neither prg nor chr")
    (pick (eqb fault 8) (codes "unknown word")
    (codes "longer than 4096 bytes")))

unfoldable pub message_of : ℕ → List ℕ
message_of fault =
    pick (eqb fault 1) (codes "not a number")
    (pick (eqb fault 2) (codes "a number above 64 bits")
    (pick (eqb fault 3) (codes "a number is missing")
    (pick (eqb fault 4) (codes "a number too many")
    (pick (eqb fault 5) (codes "a value that its field cannot hold")
    (words_message fault)))))

unfoldable pub fault_line : ℕ → ℕ → List ℕ
fault_line line fault = with_numbers (codes "line #: ") (line ∷ []) ++ (message_of fault ++ (10 ∷ []))
