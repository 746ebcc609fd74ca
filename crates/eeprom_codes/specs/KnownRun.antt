-- A run of levels computed step by step: `known` hands on a chip whose fields are worked out. It is the run (`after_known_lem`).
-- Assumes nothing.
use Rattle.std.specs.Prelude.{ℕ, zero, suc, ◌≡◌, refl, List, [], ◌∷◌}
use Rattle.std.proofs.Common.{sym, ◌∙◌}
use Rattle.eeprom_bits.specs.declared.EepromRule.{EepromRule}
use Rattle.eeprom.specs.declared.EepromMode.{EepromMode}
use Rattle.eeprom.specs.declared.EepromMode.TheVariants.{Idle, Addr, Read, Write, SendAck, WaitAck, ChipAddr}
use Rattle.eeprom.specs.declared.Eeprom.{Eeprom}
use Rattle.eeprom.specs.Eeprom.{eeprom_after, rom_after}
use Rattle.eeprom.specs.Run.{Device, Levels, next, after_levels}

abbrev number : {A : Type 0} → ℕ → (ℕ → A) → A
number zero f = f zero
number (suc n) f = f (suc n)

number_same : {A : Type 0} (n : ℕ) (f : ℕ → A) → number n f ≡ f n
number_same zero f = refl
number_same (suc n) f = refl

abbrev kind : {A : Type 0} → EepromMode → (EepromMode → A) → A
kind Idle f = f Idle
kind Addr f = f Addr
kind Read f = f Read
kind Write f = f Write
kind SendAck f = f SendAck
kind WaitAck f = f WaitAck
kind ChipAddr f = f ChipAddr

kind_same : {A : Type 0} (k : EepromMode) (f : EepromMode → A) → kind k f ≡ f k
kind_same Idle f = refl
kind_same Addr f = refl
kind_same Read f = refl
kind_same Write f = refl
kind_same SendAck f = refl
kind_same WaitAck f = refl
kind_same ChipAddr f = refl

abbrev known : {A : Type 0} → Eeprom → (Eeprom → A) → A
known s f =
    kind s.mode (λ m. kind s.next_mode (λ n. number s.chip_addr (λ c. number s.addr (λ a. number s.«data» (λ d. number s.counter (λ k. number s.output (λ o.
    f (record { model = s.model; mode = m; next_mode = n; chip_addr = c; addr = a; «data» = d; counter = k; output = o; prev_scl = s.prev_scl; prev_sda = s.prev_sda }))))))))

known_same : {A : Type 0} (s : Eeprom) (f : Eeprom → A) → known s f ≡ f s
known_same s f = simp (kind_same, number_same)

-- a chip with its memory
abbrev pub device_of : List ℕ → Eeprom → Device
device_of rom s = record { chip = s; rom = rom }

abbrev pub after_known : EepromRule → Device → List Levels → Device
after_known r d [] = d
after_known r d (l ∷ ls) =
    known (eeprom_after r d.chip d.rom l.0 l.1) (λ t. after_known r (device_of (rom_after d.chip d.rom l.0 l.1) t) ls)

pub after_known_lem : (r : EepromRule) (d : Device) (ls : List Levels) → after_levels r d ls ≡ after_known r d ls
unfolding after_levels next
after_known_lem r d [] = refl
after_known_lem r d (l ∷ ls) =
    let s = eeprom_after r d.chip d.rom l.0 l.1 in
    let rom = rom_after d.chip d.rom l.0 l.1 in
    after_known_lem r (device_of rom s) ls ∙ sym (known_same s (λ t. after_known r (device_of rom t) ls))
