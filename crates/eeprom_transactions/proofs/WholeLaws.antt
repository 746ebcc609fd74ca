-- WHOLE TRANSACTIONS BY THE DATASHEET, from START to STOP, from any idle X24C02 whose fields are bytes: a byte written, and a random read that
-- the master ends without an acknowledge. TO READ: `byte_write_lem`, `random_read`, `acknowledges`.
-- Assumes nothing.
use Rattle.std.specs.Prelude.{ℕ, suc, ◌+◌, ◌%◌, ◌<◌, ◌≡◌, refl, false, List, [], ◌∷◌, ◌++◌, length, get_or, set}
use Rattle.std.proofs.Common.{ap, ◌∙◌, arith}
use Rattle.eeprom_bits.specs.declared.EepromRule.TheVariants.{Datasheet}
use Rattle.eeprom_bits.specs.Bits.{bit_at, put_bit, bit_place, next_in_group}
use Rattle.eeprom.specs.declared.EepromModel.TheVariants.{X24C02}
use Rattle.eeprom.specs.declared.EepromMode.{EepromMode}
use Rattle.eeprom.specs.declared.EepromMode.TheVariants.{Idle, Read, Write, SendAck, WaitAck}
use Rattle.eeprom.specs.declared.Eeprom.{Eeprom}
use Rattle.eeprom.specs.Eeprom.{step_of, stores, eeprom_after, rom_after}
use Rattle.eeprom.specs.Run.{Device, next, after_levels, sent, stop_levels, line_clock, line_clocks}
use Rattle.eeprom.proofs.RunLaws.{after_append}
use Rattle.eeprom_transactions.specs.Transaction.{byte_write, read_start, device}
use Rattle.eeprom_transactions.proofs.TransactionLaws.{read_set, read_rises, read_falls, acknowledged, byte_written, read_begun, last_of}

-- AN ACKNOWLEDGE: SDA is drawn low at the rise of its clock
pub acknowledges : (n : EepromMode) (c a x q b : ℕ) (rom : List ℕ) → sent Datasheet (device SendAck n c a x 0 1 0 q rom) (line_clock b) ≡ 0 ∷ []
unfolding sent next eeprom_after step_of stores rom_after
acknowledges n c a x q b rom = refl

-- STOP where the next byte may come: the rise before it takes a bit, which is lost
stopped : (c a x q : ℕ) (rom : List ℕ) → after_levels Datasheet (device Write Write c a x 0 1 0 q rom) stop_levels ≡ device Idle Write c a (put_bit x 7 false) 1 1 1 1 rom
unfolding after_levels next eeprom_after step_of stores rom_after
stopped c a x q rom = refl

-- A BYTE WRITE: START, 0xA0, the address a, the byte d, each with its acknowledge clock, and STOP. The memory has d at a and is else as it
-- was; the chip is idle
pub byte_write_lem : (s : Eeprom) (rom : List ℕ) → s.model ≡ X24C02 → s.mode ≡ Idle → s.chip_addr < 256 → s.addr < 256 → s.«data» < 256 → (a d p q u : ℕ) → a < 256 → d < 256 →
    after_levels Datasheet (record { chip = s; rom = rom }) (byte_write a d p q ++ (line_clock u ++ stop_levels)) ≡ device Idle Write 0xA0 (next_in_group a) (put_bit d 7 false) 1 1 1 1 (set rom a d)
byte_write_lem s rom m k hc ha hx a d p q u la ld =
    after_append Datasheet _ (byte_write a d p q) _
    ∙ ap (λ (e : Device). after_levels Datasheet e (line_clock u ++ stop_levels)) (byte_written s rom m k hc ha hx a d p q la ld)
    ∙ after_append Datasheet _ (line_clock u) _
    ∙ ap (λ (e : Device). after_levels Datasheet e stop_levels) (acknowledged Write 0xA0 (next_in_group a) d (bit_at d 0) u (set rom a d))
    ∙ stopped 0xA0 (next_in_group a) d u (set rom a d)

-- the eighth bit goes out: the chip waits, and the word address is the next one
last_out : (n : EepromMode) (c a x o b : ℕ) (rom : List ℕ) → next Datasheet (device Read n c a x 8 o 1 b rom) (0, b) ≡ device WaitAck n c ((a + 1) % 256) x 8 o 0 b rom
unfolding next eeprom_after step_of stores rom_after
last_out n c a x o b rom = refl

clocks_read : (bs : List ℕ) (n : EepromMode) (c a x i o q : ℕ) (rom : List ℕ) → 0 < length bs → i + length bs ≡ 8 →
    after_levels Datasheet (device Read n c a x i o 0 q rom) (line_clocks bs) ≡ device WaitAck n c ((a + 1) % 256) x 8 (bit_at x 0) 0 (last_of q bs) rom
unfolding after_levels
clocks_read [] n c a x i o q rom h e = absurd (omega arith)
clocks_read (b ∷ []) n c a x i o q rom h e =
    let seven : i ≡ 7 = omega arith in
    rw (seven, read_set n c a x 7 o q b rom, read_rises n c a x 7 o b rom (omega arith)) (last_out n c a x (bit_at x 0) b rom)
clocks_read (b ∷ b' ∷ bs) n c a x i o q rom h e =
    rw (read_set n c a x i o q b rom, read_rises n c a x i o b rom (omega arith), read_falls n c a x (suc i) (bit_at x (bit_place Datasheet i)) b rom (λ z. omega arith))
    (clocks_read (b' ∷ bs) n c a x (suc i) (bit_at x (bit_place Datasheet i)) b rom (omega arith) (omega arith))

-- no acknowledge: next mode Idle at the rise, Idle at the fall; then STOP
ended : (c a x o q : ℕ) (rom : List ℕ) → after_levels Datasheet (device WaitAck Read c a x 8 o 0 q rom) (line_clock 1 ++ stop_levels) ≡ device Idle Idle c a x 0 1 1 1 rom
unfolding after_levels next eeprom_after step_of stores rom_after
ended c a x o q rom = refl

-- A RANDOM READ: START, 0xA0, the address a; START, 0xA1; eight clocks, SDA at any levels; a clock without an acknowledge; and STOP. The eight
-- clocks send the bits of the cell, high bit first (`byte_read`); the memory is as it was, the chip is idle, its word address the next one
pub random_read : (s : Eeprom) (rom : List ℕ) → s.model ≡ X24C02 → s.mode ≡ Idle → s.chip_addr < 256 → s.addr < 256 → (a p q u : ℕ) → a < 256 → (bs : List ℕ) → length bs ≡ 8 →
    after_levels Datasheet (record { chip = s; rom = rom }) (read_start a p q u ++ (line_clocks bs ++ (line_clock 1 ++ stop_levels))) ≡ device Idle Idle 0xA1 ((a + 1) % 256) (get_or rom a 0) 0 1 1 1 rom
random_read s rom m k hc ha a p q u la bs n =
    after_append Datasheet _ (read_start a p q u) _
    ∙ ap (λ (e : Device). after_levels Datasheet e (line_clocks bs ++ (line_clock 1 ++ stop_levels))) (read_begun s rom m k hc ha a p q u la)
    ∙ after_append Datasheet _ (line_clocks bs) _
    ∙ ap (λ (e : Device). after_levels Datasheet e (line_clock 1 ++ stop_levels)) (clocks_read bs Read 0xA1 a (get_or rom a 0) 0 1 u rom (omega arith) (omega arith))
    ∙ ended 0xA1 ((a + 1) % 256) (get_or rom a 0) (bit_at (get_or rom a 0) 0) (last_of u bs) rom
