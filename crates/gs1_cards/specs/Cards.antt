-- What the program reads and writes. A line is a number, a space and a digit count; its answer is the number of modules, the check
-- digit and the modules, or why it names no card. Characters are their codes in ASCII. Assumes nothing.
use Rattle.std.specs.Prelude.{List, [], ◌∷◌, ◌++◌, map, ℕ, suc, ◌+◌, eqb, take, drop, Result, Ok, Err}
use Rattle.laws.specs.Choice.{pick}
use Rattle.barcode.specs.Barcode.{Coded, barcode_of}
use Rattle.output.specs.Put.{decimal_of}
use Rattle.card_words.specs.declared.Card.{Card}
use Rattle.card_words.specs.declared.CardError.{CardError}
use Rattle.card_words.specs.declared.CardError.TheVariants.{NumberNotDecimal, DigitsNotDecimal, NumberTooLarge, DigitsTooMany}
use Rattle.card_words.specs.Words.{card_of}
use Rattle.laws.specs.Codes.{codes}

-- how many bytes of a line stand before its first space
unfoldable pub word_length : List ℕ → ℕ
word_length [] = 0
word_length (b ∷ line) = pick (eqb b 32) 0 (suc (word_length line))

-- the card that a line names: the number stands before its first space, the digit count after it
unfoldable pub card_in : List ℕ → Result Card CardError
card_in line = card_of (take (word_length line) line) (drop (word_length line + 1) line)

-- a module: `.` light, `#` dark
abbrev pub bar : ℕ → ℕ
bar m = pick (eqb m 0) 35 46

-- the line of a card: the number of modules, the check digit, the modules
unfoldable pub card_text : Coded → List ℕ
card_text b = decimal_of b.modules.count ++ (32 ∷ (decimal_of b.check ++ (32 ∷ map bar (take b.modules.count b.modules.modules))))

-- why a line names no card
abbrev pub fault_text : CardError → List ℕ
fault_text NumberTooLarge = codes "no card: the number is above 18446744073709551615"
fault_text DigitsTooMany = codes "no card: refused with 5, the digit count is above 20"
fault_text NumberNotDecimal = codes "no card: not a number and a digit count"
fault_text DigitsNotDecimal = codes "no card: not a number and a digit count"

-- the line for what a line names
abbrev pub line_of : Result Card CardError → List ℕ
line_of (Ok card) = card_text (barcode_of card.number card.digits)
line_of (Err error) = fault_text error
