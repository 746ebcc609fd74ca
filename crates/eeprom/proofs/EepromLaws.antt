-- Laws of a step of chip and memory, for the crates above: what it keeps, what it stores and when, and that it keeps widths.
-- Assumes nothing.
use Rattle.std.specs.Prelude.{◌≡◌, ℕ, ◌+◌, ◌<◌, ◌≤◌, Bool, true, false, List, length, ◌≢◌, slice_index, slice_set, refl}
use Rattle.std.proofs.Common.{ap, mod-lt, arith, length-set, get_or-set_other, ltb-true, ltb-false, eqb-true, eq-eqb}
use Rattle.std.proofs.lemmas.Bool.{false≢true}
use Rattle.laws.proofs.ChoiceLaws.{pick_all}
use Rattle.laws.specs.Lists.{blank, Bytes}
use Rattle.laws.proofs.ListsLaws.{bytes_blank, bytes_set, byte_at}
use Rattle.eeprom_bits.specs.declared.EepromRule.{EepromRule}
use Rattle.eeprom_bits.specs.declared.EepromRule.TheVariants.{Crate}
use Rattle.eeprom_bits.specs.BitsLaws.{put_byte, group_byte}
use Rattle.eeprom.specs.declared.EepromModel.{EepromModel}
use Rattle.eeprom.specs.declared.EepromModel.TheVariants.{X24C01, X24C02}
use Rattle.eeprom.specs.declared.EepromMode.{EepromMode}
use Rattle.eeprom.specs.declared.EepromMode.TheVariants.{Idle, Addr, Read, Write, SendAck, WaitAck, ChipAddr}
use Rattle.eeprom.specs.declared.Eeprom.{Eeprom}
use Rattle.eeprom.specs.declared.LineChange.{LineChange}
use Rattle.eeprom.specs.declared.LineChange.TheVariants.{Start, Stop, Rise, Fall, Nothing}
use Rattle.eeprom.specs.Lines.{high, change_of}
use Rattle.eeprom.specs.Eeprom.{size, place, rule_for, moved, stores_at, line_change, step_of, stores, new_eeprom, eeprom_after, rom_after}
use Rattle.eeprom.specs.Typed.{Typed}
use Rattle.eeprom.specs.State.{with_lines}
use Rattle.eeprom.proofs.StepLaws.{Limits, Keeps, step_keeps}

pub size_pos : (m : EepromModel) → 0 < size m
size_pos X24C01 = omega arith
size_pos X24C02 = omega arith

size_most : (m : EepromModel) → size m ≤ 256
size_most X24C01 = omega arith
size_most X24C02 = omega arith

-- THE PLACE of a word address lies in the model's bytes
pub place_low : (s : Eeprom) → place s < size s.model
place_low s = mod-lt s.addr (size_pos s.model)

-- A STORE: in which case alone, and what it does
only_fall : (d : LineChange) (k : EepromMode) (n : ℕ) → stores_at d k n ≡ true → (d ≡ Fall) × (k ≡ Write) × (n ≡ 8)
only_fall Fall Write n h = (refl, refl, eqb-true n 8 h)
only_fall Fall Idle n h = absurd (false≢true h)
only_fall Fall Addr n h = absurd (false≢true h)
only_fall Fall Read n h = absurd (false≢true h)
only_fall Fall SendAck n h = absurd (false≢true h)
only_fall Fall WaitAck n h = absurd (false≢true h)
only_fall Fall ChipAddr n h = absurd (false≢true h)
only_fall Start k n h = absurd (false≢true h)
only_fall Stop k n h = absurd (false≢true h)
only_fall Rise k n h = absurd (false≢true h)
only_fall Nothing k n h = absurd (false≢true h)

pub stores_only : (s : Eeprom) (scl sda : ℕ) → stores s scl sda ≡ true → (line_change s scl sda ≡ Fall) × (s.mode ≡ Write) × (s.counter ≡ 8)
unfolding stores
stores_only s scl sda h = only_fall (line_change s scl sda) s.mode s.counter h

pub stores_there : (s : Eeprom) (scl sda : ℕ) → line_change s scl sda ≡ Fall → s.mode ≡ Write → s.counter ≡ 8 → stores s scl sda ≡ true
unfolding stores
stores_there s scl sda d k n = rw (d, k) (eq-eqb s.counter 8 n)

pub rom_stored : (s : Eeprom) (rom : List ℕ) (scl sda : ℕ) → stores s scl sda ≡ true → rom_after s rom scl sda ≡ slice_set rom (place s) s.«data»
unfolding rom_after
rom_stored s rom scl sda h = rw h

pub rom_kept : (s : Eeprom) (rom : List ℕ) (scl sda : ℕ) → stores s scl sda ≡ false → rom_after s rom scl sda ≡ rom
unfolding rom_after
rom_kept s rom scl sda h = rw h

-- A STEP THAT CHANGES THE MEMORY is a fall of SCL in mode Write with eight bits in, and puts the byte that came in at the word address
pub rom_changed : (s : Eeprom) (rom : List ℕ) (scl sda : ℕ) → (rom_after s rom scl sda ≢ rom) → (line_change s scl sda ≡ Fall) × (s.mode ≡ Write) × (s.counter ≡ 8) × (rom_after s rom scl sda ≡ slice_set rom (place s) s.«data»)
rom_changed s rom scl sda ne = go (stores s scl sda) refl
  where
    go : (t : Bool) → stores s scl sda ≡ t → (line_change s scl sda ≡ Fall) × (s.mode ≡ Write) × (s.counter ≡ 8) × (rom_after s rom scl sda ≡ slice_set rom (place s) s.«data»)
    go true h = let p = stores_only s scl sda h in (p.0, p.1, p.2, rom_stored s rom scl sda h)
    go false h = absurd (ne (rom_kept s rom scl sda h))

-- every other byte is kept
pub rom_other : (s : Eeprom) (rom : List ℕ) (scl sda k : ℕ) → (k ≢ place s) → slice_index (rom_after s rom scl sda) k ≡ slice_index rom k
unfolding rom_after
rom_other s rom scl sda k ne = pick_all (λ (l : List ℕ). slice_index l k ≡ slice_index rom k) (stores s scl sda) (slice_set rom (place s) s.«data») rom (λ t. get_or-set_other rom (place s) k s.«data» 0 ne) (λ t. refl)

-- START, STOP, a rise and no change keep the memory
pub no_fall_keeps_rom : (s : Eeprom) (rom : List ℕ) (scl sda : ℕ) → (line_change s scl sda ≢ Fall) → rom_after s rom scl sda ≡ rom
no_fall_keeps_rom s rom scl sda ne = go (stores s scl sda) refl
  where
    go : (t : Bool) → stores s scl sda ≡ t → rom_after s rom scl sda ≡ rom
    go true h = absurd (ne (stores_only s scl sda h).0)
    go false h = rom_kept s rom scl sda h

-- a fall, by the lines: SCL was high and is low
fall_change : (a b c d : Bool) → change_of a b c d ≡ Fall → (a ≡ true) × (b ≡ false)
fall_change true false c d h = (refl, refl)
fall_change false true c d h = (cc, cc)
fall_change false false c d h = (cc, cc)
fall_change true true true true h = (cc, cc)
fall_change true true true false h = (cc, cc)
fall_change true true false true h = (cc, cc)
fall_change true true false false h = (cc, cc)

pub fall_lines : (s : Eeprom) (scl sda : ℕ) → line_change s scl sda ≡ Fall → (0 < s.prev_scl) × (scl ≡ 0)
fall_lines s scl sda h =
    let p = fall_change (high s.prev_scl) (high scl) (high s.prev_sda) (high sda) h in
    (ltb-true 0 s.prev_scl p.0, omega (arith, ltb-false 0 scl p.1))

-- THE LENGTH of the memory and THE MODEL of the chip are kept
pub length_kept : (s : Eeprom) (rom : List ℕ) (scl sda : ℕ) → length (rom_after s rom scl sda) ≡ length rom
unfolding rom_after
length_kept s rom scl sda = pick_all (λ (l : List ℕ). length l ≡ length rom) (stores s scl sda) (slice_set rom (place s) s.«data») rom (λ t. length-set rom (place s) s.«data») (λ t. refl)

-- the limit that the model is m
model_limits : EepromModel → Limits
model_limits m =
    record {
      Mode = λ n k. Unit {0};
      Word = λ n a. n ≡ m;
      Byte = λ x. Unit {0};
      Count = λ n. Unit {0};
      Level = λ n. Unit {0};
      mode_had = λ n k h. tt;
      word_zero = λ n a h. h;
      word_next = λ n a h. h;
      word_group = λ n a h. h;
      word_bit_01 = λ a k b h l. h;
      word_bit_02 = λ a k b h l. h;
      byte_bit = λ x k b h l. tt;
      count_low = λ n h. tt;
      level_low = λ n h. tt;
    }

pub model_kept : (r : EepromRule) (s : Eeprom) (rom : List ℕ) (scl sda : ℕ) → (eeprom_after r s rom scl sda).model ≡ s.model
unfolding eeprom_after model_limits
model_kept r s rom scl sda =
    (step_keeps (model_limits s.model) r s (slice_index rom (place s)) scl sda tt tt tt
    (record { mode = tt; next = tt; slave = tt; word = refl; byte = tt; count = tt; level = tt; scl = tt; sda = tt })
    ).word

-- WIDTHS: what the machine's types hold
typed_limits : Limits
typed_limits =
    record {
      Mode = λ m k. Unit {0};
      Word = λ m a. a < 256;
      Byte = λ x. x < 256;
      Count = λ n. n < 256;
      Level = λ n. n < 256;
      mode_had = λ m k h. tt;
      word_zero = λ m a h. omega arith;
      word_next = λ m a h. omega (arith, mod-lt (a + 1) (size_pos m), size_most m);
      word_group = λ m a h. group_byte a h;
      word_bit_01 = λ a k b h l. put_byte a k b h (omega arith);
      word_bit_02 = λ a k b h l. put_byte a k b h l;
      byte_bit = λ x k b h l. put_byte x k b h l;
      count_low = λ n h. omega arith;
      level_low = λ n h. omega arith;
    }

pub typed_new : (m : EepromModel) → Typed (new_eeprom m) (blank 256)
unfolding new_eeprom
typed_new m =
    record { chip_addr = omega arith; addr = omega arith; «data» = omega arith; counter = omega arith; output = omega arith; prev_scl = omega arith; prev_sda = omega arith; memory = bytes_blank 256 }

pub typed_after : (r : EepromRule) (s : Eeprom) (rom : List ℕ) (scl sda : ℕ) → scl < 256 → sda < 256 → Typed s rom → Typed (eeprom_after r s rom scl sda) (rom_after s rom scl sda)
unfolding eeprom_after rom_after typed_limits
typed_after r s rom scl sda p q v =
    let k : Keeps typed_limits (step_of r s (slice_index rom (place s)) scl sda) = step_keeps typed_limits r s (slice_index rom (place s)) scl sda (byte_at 256 rom (place s) v.memory) p q
    (record { mode = tt; next = tt; slave = v.chip_addr; word = v.addr; byte = v.«data»; count = v.counter; level = v.output; scl = v.prev_scl; sda = v.prev_sda }) in
    record {
      chip_addr = k.slave;
      addr = k.word;
      «data» = k.byte;
      counter = k.count;
      output = k.level;
      prev_scl = k.scl;
      prev_sda = k.sda;
      memory = pick_all (Bytes 256) (stores s scl sda) (slice_set rom (place s) s.«data») rom (λ t. bytes_set 256 rom (place s) s.«data» v.memory v.«data») (λ t. v.memory);
    }

-- AN X24C01 KNOWS NO RULE: under either its step is the crate's
known_rule : (m : EepromModel) (r : EepromRule) → m ≡ X24C01 → rule_for m r ≡ rule_for m Crate
known_rule m r e = rw e refl

pub x24c01_no_rule : (r : EepromRule) (s : Eeprom) (byte scl sda : ℕ) → s.model ≡ X24C01 → step_of r s byte scl sda ≡ step_of Crate s byte scl sda
unfolding step_of
x24c01_no_rule r s byte scl sda e =
    ap (λ (q : EepromRule). with_lines scl sda (moved q (line_change s scl sda) (high sda) byte s)) (known_rule s.model r e)
