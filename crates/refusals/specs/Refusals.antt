-- The numbers of refusals, and of outcomes. 0 is the number of no refusal. Assumes nothing.
use Rattle.std.specs.Prelude.{ℕ, Result, Ok, Err, Option, Some, None}
use Rattle.refusals.specs.declared.Refusal.{Refusal}
use Rattle.refusals.specs.declared.Refusal.TheVariants.{MapperUnknown, SizeTooLarge, CodeUnlisted, NoReader, DigitCount, ClockLimit, LineLevel, ChipNotFitted, ImageLength, BufferTooShort, NotAStateFile, BoardNotValid, KindUnknown, NoSuchCard, RuleUnlisted}

abbrev pub refusal_number : Refusal → ℕ
refusal_number MapperUnknown = 1
refusal_number SizeTooLarge = 2
refusal_number CodeUnlisted = 3
refusal_number NoReader = 4
refusal_number DigitCount = 5
refusal_number ClockLimit = 6
refusal_number LineLevel = 7
refusal_number ChipNotFitted = 8
refusal_number ImageLength = 9
refusal_number BufferTooShort = 10
refusal_number NotAStateFile = 11
refusal_number BoardNotValid = 12
refusal_number KindUnknown = 13
refusal_number NoSuchCard = 16
refusal_number RuleUnlisted = 17

-- the number of an outcome, 0 where it is no refusal
abbrev pub number_of : {T : Type 0} → Result T Refusal → ℕ
number_of (Ok x) = 0
number_of (Err e) = refusal_number e

-- the same of a refusal that may be none
abbrev pub number_of_refusal : Option Refusal → ℕ
number_of_refusal None = 0
number_of_refusal (Some e) = refusal_number e
