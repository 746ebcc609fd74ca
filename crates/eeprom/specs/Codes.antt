-- The numbers that stand for the models and the modes outside this library: a model's is 1 or 2, a mode's its place in `EepromMode`.
-- Assumes nothing.
use Rattle.std.specs.Prelude.{Bool, ◌||◌, ℕ, eqb, leb, Result, Ok, Err}
use Rattle.laws.specs.Choice.{pick}
use Rattle.eeprom.specs.declared.EepromModel.{EepromModel}
use Rattle.eeprom.specs.declared.EepromModel.TheVariants.{X24C01, X24C02}
use Rattle.eeprom.specs.declared.EepromMode.{EepromMode}
use Rattle.eeprom.specs.declared.EepromMode.TheVariants.{Idle, Addr, Read, Write, SendAck, WaitAck, ChipAddr}

abbrev pub model_number : EepromModel → ℕ
model_number X24C01 = 1
model_number X24C02 = 2

abbrev pub mode_number : EepromMode → ℕ
mode_number Idle = 0
mode_number Addr = 1
mode_number Read = 2
mode_number Write = 3
mode_number SendAck = 4
mode_number WaitAck = 5
mode_number ChipAddr = 6

-- the model and the mode of a number; any other number stands for the first
abbrev pub model_of : ℕ → EepromModel
model_of n = pick (eqb n 2) X24C02 X24C01

abbrev pub mode_of : ℕ → EepromMode
mode_of n =
    pick (eqb n 1) Addr
    (pick (eqb n 2) Read
    (pick (eqb n 3) Write
    (pick (eqb n 4) SendAck
    (pick (eqb n 5) WaitAck
    (pick (eqb n 6) ChipAddr Idle)))))

-- which numbers are a model's or a mode's
abbrev pub known_model : ℕ → Bool
known_model n = eqb n 1 || eqb n 2

abbrev pub known_mode : ℕ → Bool
known_mode n = leb n 6

-- the model and the mode of a number that is one's; else the number
abbrev pub model_read : ℕ → Result EepromModel ℕ
model_read n = pick (known_model n) (Ok (model_of n)) (Err n)

abbrev pub mode_read : ℕ → Result EepromMode ℕ
mode_read n = pick (known_mode n) (Ok (mode_of n)) (Err n)
