-- What the two lines do, by their levels before and now.
-- Assumes nothing.
use Rattle.std.specs.Prelude.{ℕ, Bool, true, false, nat_lt}
use Rattle.eeprom.specs.declared.LineChange.{LineChange}
use Rattle.eeprom.specs.declared.LineChange.TheVariants.{Start, Stop, Rise, Fall, Nothing}

-- a line is high unless it is 0
abbrev pub high : ℕ → Bool
high line = nat_lt 0 line

-- SCL before and now, SDA before and now
abbrev pub change_of : Bool → Bool → Bool → Bool → LineChange
change_of true true true false = Start
change_of true true false true = Stop
change_of false true a b = Rise
change_of true false a b = Fall
change_of false false a b = Nothing
change_of true true false false = Nothing
change_of true true true true = Nothing
