-- The numbers of faults; 0 is the number of none. Assumes nothing.
use Rattle.std.specs.Prelude.{◌≡◌, ℕ, Result, Ok, Err}
use Rattle.number.specs.declared.NumberError.{NumberError}
use Rattle.number.specs.declared.NumberError.TheVariants.{TooLarge}
use Rattle.script.specs.declared.fault.LineFault.{LineFault}
use Rattle.script.specs.declared.fault.LineFault.TheVariants.{NotANumber, Above64Bits, Missing, TooMany, CannotHold, NotHexadecimal, NoMemory, UnknownWord, TooLong}

abbrev pub fault_number : LineFault → ℕ
fault_number NotANumber = 1
fault_number Above64Bits = 2
fault_number Missing = 3
fault_number TooMany = 4
fault_number CannotHold = 5
fault_number NotHexadecimal = 6
fault_number NoMemory = 7
fault_number UnknownWord = 8
fault_number TooLong = 9

abbrev pub fault_in : {A : Type 0} → Result A LineFault → ℕ
fault_in (Ok x) = 0
fault_in (Err f) = fault_number f

-- the number of what is wrong with a word that is no number
abbrev pub error_number : NumberError → ℕ
error_number NumberError.NotANumber = 1
error_number TooLarge = 2

abbrev pub number_fault : {A : Type 0} → Result A NumberError → ℕ
number_fault (Ok x) = 0
number_fault (Err e) = error_number e

-- a line's fault has the number of its word's
abbrev pub IsFaultOf : NumberError → LineFault → Type 0
IsFaultOf e f = fault_number f ≡ error_number e
