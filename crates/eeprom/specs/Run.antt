-- A CHIP WITH ITS MEMORY WHILE ITS LINES TAKE LEVELS one after the other, and the parts of a transaction that a master gives. The worked examples
-- and the laws of whole transactions are told in these terms. Assumes nothing.
use Rattle.std.specs.Prelude.{ℕ, not, ◌&&◌, List, [], ◌∷◌, ◌++◌}
use Rattle.laws.specs.Choice.{pick}
use Rattle.eeprom_bits.specs.declared.EepromRule.{EepromRule}
use Rattle.eeprom.specs.declared.Eeprom.{Eeprom}
use Rattle.eeprom.specs.Lines.{high}
use Rattle.eeprom.specs.Eeprom.{eeprom_after, rom_after}

pub record Device : Type 0 where
  pub chip : Eeprom
  pub rom : List ℕ

-- the levels that the lines take: SCL, then SDA
abbrev pub Levels : Type 0
Levels = ℕ × ℕ

-- ONE CHANGE OF THE LINES under a rule, and a list of them
unfoldable pub next : EepromRule → Device → Levels → Device
next r d l = record { chip = eeprom_after r d.chip d.rom l.0 l.1; rom = rom_after d.chip d.rom l.0 l.1 }

unfoldable pub after_levels : EepromRule → Device → List Levels → Device
after_levels r d [] = d
after_levels r d (l ∷ ls) = after_levels r (next r d l) ls

-- what the chip gives to the data line: its level after each rise of SCL
abbrev pub sent_at : EepromRule → Device → Levels → List ℕ
sent_at r d l = pick (not (high d.chip.prev_scl) && high l.0) ((next r d l).chip.output ∷ []) []

unfoldable pub sent : EepromRule → Device → List Levels → List ℕ
sent r d [] = []
sent r d (l ∷ ls) = sent_at r d l ++ sent r (next r d l) ls

-- START: both lines high, SDA falls, SCL falls
abbrev pub start_levels : List Levels
start_levels = (1, 1) ∷ (1, 0) ∷ (0, 0) ∷ []

-- STOP: both lines low, SCL rises, SDA rises
abbrev pub stop_levels : List Levels
stop_levels = (0, 0) ∷ (1, 0) ∷ (1, 1) ∷ []

-- a bit: SDA takes its level while SCL is low, SCL rises, SCL falls
abbrev pub line_clock : ℕ → List Levels
line_clock b = (0, b) ∷ (1, b) ∷ (0, b) ∷ []

abbrev pub line_clocks : List ℕ → List Levels
line_clocks [] = []
line_clocks (b ∷ bs) = line_clock b ++ line_clocks bs
