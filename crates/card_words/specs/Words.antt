-- A card in two words, its number and its digit count. Read downwards; card_of is the answer. Assumes nothing.
use Rattle.std.specs.Prelude.{List, false, ℕ, eqb, leb, Result, Ok, Err}
use Rattle.laws.specs.Choice.{pick}
use Rattle.number.specs.Number.{Number, number_in}
use Rattle.card_words.specs.declared.Card.{Card}
use Rattle.card_words.specs.declared.CardError.{CardError}
use Rattle.card_words.specs.declared.CardError.TheVariants.{NumberNotDecimal, DigitsNotDecimal, NumberTooLarge, DigitsTooMany}

-- no card, for this reason: the number is not decimal, the digit count is not, the number is above 64 bits, the digit count is above 20
abbrev pub no_card : CardError → Result Card CardError
no_card error = Err error

-- the card of two words, read as numbers. A word's faults: 1, it is not decimal; 2, its number is above 64 bits
unfoldable pub card_in : Number → Number → Result Card CardError
card_in n d =
    pick (eqb n.fault 1) (no_card NumberNotDecimal)
    (pick (eqb d.fault 1) (no_card DigitsNotDecimal)
    (pick (eqb n.fault 2) (no_card NumberTooLarge)
    (pick (eqb d.fault 2) (no_card DigitsTooMany)
    (pick (leb d.value 20) (Ok (record { number = n.value; digits = d.value }))
    (no_card DigitsTooMany)))))

-- the card that two words name, each read as decimal digits
unfoldable pub card_of : List ℕ → List ℕ → Result Card CardError
card_of number digits = card_in (number_in false number) (number_in false digits)
