-- Validity of a chip with its memory, part by part; a fresh chip has it, and a step keeps it under either rule.
-- Assumes nothing.
use Rattle.std.specs.Prelude.{ℕ, ◌+◌, ◌≤◌, ◌<◌, ◌≡◌, refl, true, List, ltb, leb, get_or, set}
use Rattle.std.proofs.Common.{mod-lt, arith, ltb-true, leb-true, lt-ltb, le-leb}
use Rattle.laws.proofs.ChoiceLaws.{both_true, pick_all}
use Rattle.laws.specs.Lists.{blank, zeros_from}
use Rattle.laws.proofs.ListsLaws.{zeros_set, zeros_tail_blank}
use Rattle.eeprom.specs.declared.EepromModel.{EepromModel}
use Rattle.eeprom.specs.declared.EepromModel.TheVariants.{X24C01, X24C02}
use Rattle.eeprom.specs.declared.EepromMode.TheVariants.{Idle}
use Rattle.eeprom.specs.declared.Eeprom.{Eeprom}
use Rattle.eeprom_bits.specs.declared.EepromRule.{EepromRule}
use Rattle.eeprom_bits.specs.Bits.{next_in_group}
use Rattle.eeprom_bits.specs.BitsLaws.{put_byte, put_word, group_byte, group_word}
use Rattle.eeprom.specs.Eeprom.{size, has_mode, place, stores, new_eeprom, eeprom_after, rom_after}
use Rattle.eeprom.proofs.StepLaws.{Limits, Keeps, step_keeps}
use Rattle.eeprom.proofs.EepromLaws.{size_pos, place_low, model_kept}
use Rattle.eeprom_valid.specs.Valid.{valid_eeprom}

-- part by part
pub record Valid (s : Eeprom) (rom : List ℕ) : Type 0 where
  pub counter : s.counter ≤ 8
  pub output : s.output ≤ 1
  pub scl : s.prev_scl ≤ 1
  pub sda : s.prev_sda ≤ 1
  pub addr : s.addr < size s.model
  pub mode : has_mode s.model s.mode ≡ true
  pub next : has_mode s.model s.next_mode ≡ true
  pub zero : zeros_from (size s.model) rom ≡ true

pub valid_parts : (s : Eeprom) (rom : List ℕ) → valid_eeprom s rom ≡ true → Valid s rom
unfolding valid_eeprom
valid_parts s rom h =
    let p7 = both_true _ (zeros_from (size s.model) rom) h in
    let p6 = both_true _ (has_mode s.model s.next_mode) p7.0 in
    let p5 = both_true _ (has_mode s.model s.mode) p6.0 in
    let p4 = both_true _ (ltb s.addr (size s.model)) p5.0 in
    let p3 = both_true _ (leb s.prev_sda 1) p4.0 in
    let p2 = both_true _ (leb s.prev_scl 1) p3.0 in
    let p1 = both_true (leb s.counter 8) (leb s.output 1) p2.0 in
    record { counter = leb-true _ _ p1.0; output = leb-true _ _ p1.1; scl = leb-true _ _ p2.1; sda = leb-true _ _ p3.1; addr = ltb-true _ _ p4.1; mode = p5.1; next = p6.1; zero = p7.1 }

pub parts_valid : (s : Eeprom) (rom : List ℕ) → Valid s rom → valid_eeprom s rom ≡ true
unfolding valid_eeprom
parts_valid s rom v =
    rw (le-leb _ _ v.counter, le-leb _ _ v.output, le-leb _ _ v.scl, le-leb _ _ v.sda, lt-ltb _ _ v.addr, v.mode, v.next, v.zero) refl

-- the next of four cells is one that the model has
group_within : (m : EepromModel) (a : ℕ) → a < size m → next_in_group a < size m
group_within X24C01 a h = group_word a h
group_within X24C02 a h = group_byte a h

-- what a valid chip's fields may be: anything in the slave byte and in the byte
valid_limits : Limits
valid_limits =
    record {
      Mode = λ m k. has_mode m k ≡ true;
      Word = λ m a. a < size m;
      Byte = λ x. Unit {0};
      Count = λ n. n ≤ 8;
      Level = λ n. n ≤ 1;
      mode_had = λ m k h. h;
      word_zero = λ m a h. size_pos m;
      word_next = λ m a h. mod-lt (a + 1) (size_pos m);
      word_group = group_within;
      word_bit_01 = λ a k b h l. put_word a k b h l;
      word_bit_02 = λ a k b h l. put_byte a k b h l;
      byte_bit = λ x k b h l. tt;
      count_low = λ n h. h;
      level_low = λ n h. h;
    }

-- A FRESH CHIP with a blank memory is valid
pub valid_new : (m : EepromModel) → valid_eeprom (new_eeprom m) (blank 256) ≡ true
unfolding new_eeprom
valid_new m =
    parts_valid (new_eeprom m) (blank 256)
    (record { counter = omega arith; output = omega arith; scl = omega arith; sda = omega arith; addr = size_pos m; mode = idle m; next = idle m; zero = zeros_tail_blank (size m) 256 })
  where
    idle : (m : EepromModel) → has_mode m Idle ≡ true
    idle X24C01 = refl
    idle X24C02 = refl

chip_after_lem : (r : EepromRule) (s : Eeprom) (rom : List ℕ) (scl sda : ℕ) → scl ≤ 1 → sda ≤ 1 → Valid s rom → Keeps valid_limits (eeprom_after r s rom scl sda)
unfolding eeprom_after valid_limits
chip_after_lem r s rom scl sda p q v =
    step_keeps valid_limits r s (get_or rom (place s) 0) scl sda tt p q
    (record { mode = v.mode; next = v.next; slave = tt; word = v.addr; byte = tt; count = v.counter; level = v.output; scl = v.scl; sda = v.sda })

zeros_after : (s : Eeprom) (rom : List ℕ) (scl sda : ℕ) → Valid s rom → zeros_from (size s.model) (rom_after s rom scl sda) ≡ true
unfolding rom_after
zeros_after s rom scl sda v =
    pick_all (λ (l : List ℕ). zeros_from (size s.model) l ≡ true) (stores s scl sda) (set rom (place s) s.«data») rom
    (λ t. zeros_set (size s.model) rom (place s) s.«data» (place_low s) v.zero) (λ t. v.zero)

-- A STEP of a valid chip, with lines at 0 or 1, leaves a valid chip
pub valid_after : (r : EepromRule) (s : Eeprom) (rom : List ℕ) (scl sda : ℕ) → scl ≤ 1 → sda ≤ 1 → valid_eeprom s rom ≡ true → valid_eeprom (eeprom_after r s rom scl sda) (rom_after s rom scl sda) ≡ true
unfolding valid_limits
valid_after r s rom scl sda p q h =
    let v : Valid s rom = valid_parts s rom h in
    let k : Keeps valid_limits (eeprom_after r s rom scl sda) = chip_after_lem r s rom scl sda p q v in
    parts_valid (eeprom_after r s rom scl sda) (rom_after s rom scl sda)
    (record { counter = k.count; output = k.level; scl = k.scl; sda = k.sda; addr = k.word; mode = k.mode; next = k.next; zero = rw (model_kept r s rom scl sda) (zeros_after s rom scl sda v) })
