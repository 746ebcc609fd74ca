-- No refusal has the number 0.
-- Assumes nothing.
use mathlib.Core.Path.{◌≡◌, refl}
use mathlib.Core.Bool.{false}
use lib.Dec.{eqb}
use Rattle.refusals.specs.declared.Refusal.{Refusal}
use Rattle.refusals.specs.declared.Refusal.TheVariants.{MapperUnknown, SizeTooLarge, CodeUnlisted, NoReader, DigitCount, ClockLimit, LineLevel, ChipNotFitted, ImageLength, BufferTooShort, NotAStateFile, BoardNotValid, KindUnknown, NoSuchCard, RuleUnlisted}
use Rattle.refusals.specs.Refusals.{refusal_number}

pub some_number : (e : Refusal) → eqb (refusal_number e) 0 ≡ false
some_number MapperUnknown = refl
some_number SizeTooLarge = refl
some_number CodeUnlisted = refl
some_number NoReader = refl
some_number DigitCount = refl
some_number ClockLimit = refl
some_number LineLevel = refl
some_number ChipNotFitted = refl
some_number ImageLength = refl
some_number BufferTooShort = refl
some_number NotAStateFile = refl
some_number BoardNotValid = refl
some_number KindUnknown = refl
some_number NoSuchCard = refl
some_number RuleUnlisted = refl
