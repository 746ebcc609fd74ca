-- The numbers of models and modes are read back as the models and the modes.
-- Assumes nothing.
use Rattle.std.specs.Prelude.{◌≡◌, refl}
use Rattle.eeprom.specs.declared.EepromModel.{EepromModel}
use Rattle.eeprom.specs.declared.EepromModel.TheVariants.{X24C01, X24C02}
use Rattle.eeprom.specs.declared.EepromMode.{EepromMode}
use Rattle.eeprom.specs.declared.EepromMode.TheVariants.{Idle, Addr, Read, Write, SendAck, WaitAck, ChipAddr}
use Rattle.eeprom_codes.specs.Codes.{model_number, mode_number, model_of, mode_of}

pub model_of_number : (m : EepromModel) → model_of (model_number m) ≡ m
model_of_number X24C01 = refl
model_of_number X24C02 = refl

pub mode_of_number : (k : EepromMode) → mode_of (mode_number k) ≡ k
mode_of_number Idle = refl
mode_of_number Addr = refl
mode_of_number Read = refl
mode_of_number Write = refl
mode_of_number SendAck = refl
mode_of_number WaitAck = refl
mode_of_number ChipAddr = refl
