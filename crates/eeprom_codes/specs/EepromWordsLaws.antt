-- A chip is read back from its words; any words give a chip that fits the machine's types.
-- Assumes nothing.
use Rattle.std.specs.Prelude.{◌≡◌, refl, List, ℕ, ◌<◌}
use Rattle.std.proofs.Common.{ap, ◌∙◌, arith}
use Rattle.laws.specs.Lists.{Bytes}
use Rattle.laws.specs.Words.{Fit}
use Rattle.laws.proofs.WordsLaws.{cut_same}
use Rattle.eeprom.specs.declared.EepromModel.{EepromModel}
use Rattle.eeprom.specs.declared.EepromModel.TheVariants.{X24C01, X24C02}
use Rattle.eeprom.specs.declared.EepromMode.{EepromMode}
use Rattle.eeprom.specs.declared.EepromMode.TheVariants.{Idle, Addr, Read, Write, SendAck, WaitAck, ChipAddr}
use Rattle.eeprom.specs.declared.Eeprom.{Eeprom}
use Rattle.eeprom.specs.Typed.{Typed}
use Rattle.eeprom_codes.specs.Codes.{model_number, mode_number}
use Rattle.eeprom_codes.specs.CodesLaws.{model_of_number, mode_of_number}
use Rattle.eeprom_codes.specs.EepromWords.{eeprom_widths, eeprom_words, eeprom_from, eeprom_of}

model_fits : (m : EepromModel) → model_number m < 256
model_fits X24C01 = omega arith
model_fits X24C02 = omega arith

mode_fits : (k : EepromMode) → mode_number k < 256
mode_fits Idle = omega arith
mode_fits Addr = omega arith
mode_fits Read = omega arith
mode_fits Write = omega arith
mode_fits SendAck = omega arith
mode_fits WaitAck = omega arith
mode_fits ChipAddr = omega arith

pub eeprom_fit : (s : Eeprom) (rom : List ℕ) → Typed s rom → Fit eeprom_widths (eeprom_words s)
eeprom_fit s rom t = (
  model_fits s.model,
  (
    mode_fits s.mode,
    (
      mode_fits s.next_mode,
      (t.chip_addr, (t.addr, (t.«data», (t.counter, (t.output, (t.prev_scl, (t.prev_sda, tt))))))),
    ),
  ),
)

pub eeprom_back : (s : Eeprom) (rom : List ℕ) → Typed s rom → eeprom_of (eeprom_words s) ≡ s
unfolding eeprom_of
eeprom_back s rom t =
    ap eeprom_from (cut_same eeprom_widths (eeprom_words s) (eeprom_fit s rom t))
    ∙ rw (model_of_number s.model, mode_of_number s.mode, mode_of_number s.next_mode) refl

pub eeprom_typed : (xs rom : List ℕ) → Bytes 256 rom → Typed (eeprom_of xs) rom
unfolding eeprom_of
eeprom_typed xs rom m =
    record { chip_addr = omega arith; addr = omega arith; «data» = omega arith; counter = omega arith; output = omega arith; prev_scl = omega arith; prev_sda = omega arith; memory = m }
