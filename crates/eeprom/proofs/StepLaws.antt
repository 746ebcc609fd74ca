-- What a step keeps under either chip rule, over any limits on the fields of a chip: one proof that validity, widths and the model all use.
-- Assumes nothing.
use Rattle.std.specs.Prelude.{◌≡◌, ℕ, ◌+◌, ◌%◌, ◌<◌, ◌≤◌, Bool, true, false, ◌==◌, refl}
use Rattle.std.proofs.Common.{arith, ltb-true}
use Rattle.std.proofs.lemmas.Bool.{eqb-false}
use Rattle.laws.specs.Choice.{pick}
use Rattle.laws.proofs.ChoiceLaws.{pick_all}
use Rattle.eeprom_bits.specs.declared.EepromRule.{EepromRule}
use Rattle.eeprom_bits.specs.declared.EepromRule.TheVariants.{Crate, Datasheet}
use Rattle.eeprom_bits.specs.Bits.{bit_at, put_bit, bit_place, lacks, write_bit, read_bit, slave_passes, slave_reads, next_in_group}
use Rattle.eeprom_bits.specs.BitsLaws.{bit_place_low}
use Rattle.eeprom.specs.declared.EepromModel.{EepromModel}
use Rattle.eeprom.specs.declared.EepromModel.TheVariants.{X24C01, X24C02}
use Rattle.eeprom.specs.declared.EepromMode.{EepromMode}
use Rattle.eeprom.specs.declared.EepromMode.TheVariants.{Idle, Addr, Read, Write, SendAck, WaitAck, ChipAddr}
use Rattle.eeprom.specs.declared.Eeprom.{Eeprom}
use Rattle.eeprom.specs.declared.LineChange.{LineChange}
use Rattle.eeprom.specs.declared.LineChange.TheVariants.{Start, Stop, Rise, Fall, Nothing}
use Rattle.eeprom.specs.Lines.{high}
use Rattle.eeprom.specs.State.{with_mode, with_next_mode, with_chip_addr, with_addr, with_data, with_counter, with_output, with_lines}
use Rattle.eeprom.specs.Eeprom.{size, has_mode, fresh, fetched, onward, full, rule_for, counted, data_out, chip_addr_in, addr_in, data_in, directed, word_in, acked, unacked, rise_of, after_write_slave, after_slave, past_store, after_store, fall_of, start_of, moved, line_change, step_of}

-- limits on the fields, which hold of all that a step puts there
pub record Limits : Type 1 where
  pub Mode : EepromModel → EepromMode → Type 0
  pub Word : EepromModel → ℕ → Type 0
  pub Byte : ℕ → Type 0
  pub Count : ℕ → Type 0
  pub Level : ℕ → Type 0
  pub mode_had : (m : EepromModel) (k : EepromMode) → has_mode m k ≡ true → Mode m k
  pub word_zero : (m : EepromModel) (a : ℕ) → Word m a → Word m 0
  pub word_next : (m : EepromModel) (a : ℕ) → Word m a → Word m ((a + 1) % size m)
  pub word_group : (m : EepromModel) (a : ℕ) → Word m a → Word m (next_in_group a)
  pub word_bit_01 : (a k : ℕ) (b : Bool) → Word X24C01 a → k < 7 → Word X24C01 (put_bit a k b)
  pub word_bit_02 : (a k : ℕ) (b : Bool) → Word X24C02 a → k < 8 → Word X24C02 (put_bit a k b)
  pub byte_bit : (x k : ℕ) (b : Bool) → Byte x → k < 8 → Byte (put_bit x k b)
  pub count_low : (n : ℕ) → n ≤ 8 → Count n
  pub level_low : (n : ℕ) → n ≤ 1 → Level n

-- a chip's fields keep the limits
pub record Keeps (R : Limits) (s : Eeprom) : Type 0 where
  pub mode : R.Mode s.model s.mode
  pub next : R.Mode s.model s.next_mode
  pub slave : R.Byte s.chip_addr
  pub word : R.Word s.model s.addr
  pub byte : R.Byte s.«data»
  pub count : R.Count s.counter
  pub level : R.Level s.output
  pub scl : R.Level s.prev_scl
  pub sda : R.Level s.prev_sda

-- a mode that both models have
both_have : (m : EepromModel) (k : EepromMode) → has_mode X24C01 k ≡ true → has_mode m k ≡ true
both_have X24C01 k h = h
both_have X24C02 k h = refl

module _ (R : Limits) where
  mode_keeps : {s : Eeprom} (k : EepromMode) → R.Mode s.model k → Keeps R s → Keeps R (with_mode k s)
  mode_keeps k h v = record { mode = h; next = v.next; slave = v.slave; word = v.word; byte = v.byte; count = v.count; level = v.level; scl = v.scl; sda = v.sda }

  next_keeps : {s : Eeprom} (k : EepromMode) → R.Mode s.model k → Keeps R s → Keeps R (with_next_mode k s)
  next_keeps k h v = record { mode = v.mode; next = h; slave = v.slave; word = v.word; byte = v.byte; count = v.count; level = v.level; scl = v.scl; sda = v.sda }

  slave_keeps : {s : Eeprom} (x : ℕ) → R.Byte x → Keeps R s → Keeps R (with_chip_addr x s)
  slave_keeps x h v = record { mode = v.mode; next = v.next; slave = h; word = v.word; byte = v.byte; count = v.count; level = v.level; scl = v.scl; sda = v.sda }

  word_keeps : {s : Eeprom} (a : ℕ) → R.Word s.model a → Keeps R s → Keeps R (with_addr a s)
  word_keeps a h v = record { mode = v.mode; next = v.next; slave = v.slave; word = h; byte = v.byte; count = v.count; level = v.level; scl = v.scl; sda = v.sda }

  byte_keeps : {s : Eeprom} (x : ℕ) → R.Byte x → Keeps R s → Keeps R (with_data x s)
  byte_keeps x h v = record { mode = v.mode; next = v.next; slave = v.slave; word = v.word; byte = h; count = v.count; level = v.level; scl = v.scl; sda = v.sda }

  count_keeps : {s : Eeprom} (n : ℕ) → n ≤ 8 → Keeps R s → Keeps R (with_counter n s)
  count_keeps n h v = record { mode = v.mode; next = v.next; slave = v.slave; word = v.word; byte = v.byte; count = R.count_low n h; level = v.level; scl = v.scl; sda = v.sda }

  output_keeps : {s : Eeprom} (n : ℕ) → R.Level n → Keeps R s → Keeps R (with_output n s)
  output_keeps n h v = record { mode = v.mode; next = v.next; slave = v.slave; word = v.word; byte = v.byte; count = v.count; level = h; scl = v.scl; sda = v.sda }

  level_keeps : {s : Eeprom} (n : ℕ) → n ≤ 1 → Keeps R s → Keeps R (with_output n s)
  level_keeps n h v = output_keeps n (R.level_low n h) v

  lines_keeps : {s : Eeprom} (scl sda : ℕ) → R.Level scl → R.Level sda → Keeps R s → Keeps R (with_lines scl sda s)
  lines_keeps scl sda h k v = record { mode = v.mode; next = v.next; slave = v.slave; word = v.word; byte = v.byte; count = v.count; level = v.level; scl = h; sda = k }

  -- a mode, or a next mode, that both models have
  to_mode : {s : Eeprom} (k : EepromMode) → has_mode X24C01 k ≡ true → Keeps R s → Keeps R (with_mode k s)
  to_mode {s} k h v = mode_keeps k (R.mode_had s.model k (both_have s.model k h)) v

  to_next : {s : Eeprom} (k : EepromMode) → has_mode X24C01 k ≡ true → Keeps R s → Keeps R (with_next_mode k s)
  to_next {s} k h v = next_keeps k (R.mode_had s.model k (both_have s.model k h)) v

  -- parts of a step
  let_go : {s : Eeprom} → Keeps R s → Keeps R (with_counter 0 (with_output 1 s))
  let_go v = count_keeps 0 (omega arith) (level_keeps 1 (omega arith) v)

  fresh_keeps : {s : Eeprom} (k : EepromMode) → has_mode X24C01 k ≡ true → Keeps R s → Keeps R (fresh k s)
  fresh_keeps k h v = to_mode k h (let_go v)

  resumed_keeps : {s : Eeprom} → Keeps R s → Keeps R (fresh s.next_mode s)
  resumed_keeps {s} v = mode_keeps s.next_mode v.next (let_go v)

  fetched_keeps : {s : Eeprom} (x : ℕ) → R.Byte x → Keeps R s → Keeps R (fetched x s)
  fetched_keeps x h v = to_next Read refl (byte_keeps x h v)

  onward_keeps : {s : Eeprom} → Keeps R s → Keeps R (onward s)
  onward_keeps {s} v = word_keeps ((s.addr + 1) % size s.model) (R.word_next s.model s.addr v.word) v

  full_keeps : {s t : Eeprom} → Keeps R t → Keeps R s → Keeps R (full s t)
  full_keeps {s} {t} u v = pick_all (Keeps R) (s.counter == 8) t s (λ e. u) (λ e. v)

  -- a bit that passes: the counter, then what it is written into or read from
  counted_keeps : {s : Eeprom} → Keeps R s → Keeps R (counted s)
  counted_keeps {s} v =
      record {
        mode = v.mode;
        next = v.next;
        slave = v.slave;
        word = v.word;
        byte = v.byte;
        count = pick_all R.Count (lacks s.counter) (s.counter + 1) s.counter (λ e. R.count_low _ (omega (arith, ltb-true s.counter 8 e))) (λ e. v.count);
        level = v.level;
        scl = v.scl;
        sda = v.sda;
      }

  write_bit_keeps : (P : ℕ → Type 0) (r : EepromRule) (x n : ℕ) (b : Bool) → (n < 8 → P (put_bit x (bit_place r n) b)) → P x → P (write_bit r x n b)
  write_bit_keeps P r x n b f h = pick_all P (lacks n) (put_bit x (bit_place r n) b) x (λ e. f (ltb-true n 8 e)) (λ e. h)

  byte_bit_keeps : (r : EepromRule) (x n : ℕ) (b : Bool) → R.Byte x → R.Byte (write_bit r x n b)
  byte_bit_keeps r x n b h = write_bit_keeps R.Byte r x n b (λ l. R.byte_bit x (bit_place r n) b h (bit_place_low r n l)) h

  read_bit_keeps : (r : EepromRule) (x n o : ℕ) → R.Level o → R.Level (read_bit r x n o)
  read_bit_keeps r x n o h = pick_all R.Level (lacks n) (bit_at x (bit_place r n)) o (λ e. R.level_low _ (omega arith)) (λ e. h)

  data_out_keeps : {s : Eeprom} (r : EepromRule) → Keeps R s → Keeps R (data_out r s)
  data_out_keeps {s} r v = counted_keeps (output_keeps _ (read_bit_keeps r s.«data» s.counter s.output v.level) v)

  chip_addr_in_keeps : {s : Eeprom} (r : EepromRule) (b : Bool) → Keeps R s → Keeps R (chip_addr_in r b s)
  chip_addr_in_keeps {s} r b v = counted_keeps (slave_keeps _ (byte_bit_keeps r s.chip_addr s.counter b v.slave) v)

  data_in_keeps : {s : Eeprom} (r : EepromRule) (b : Bool) → Keeps R s → Keeps R (data_in r b s)
  data_in_keeps {s} r b v = counted_keeps (byte_keeps _ (byte_bit_keeps r s.«data» s.counter b v.byte) v)

  addr_in_keeps : {s : Eeprom} (r : EepromRule) (b : Bool) → (s.counter < 8 → R.Word s.model (put_bit s.addr (bit_place r s.counter) b)) → Keeps R s → Keeps R (addr_in r b s)
  addr_in_keeps {s} r b f v = counted_keeps (word_keeps _ (write_bit_keeps (R.Word s.model) r s.addr s.counter b f v.word) v)

  directed_keeps : {s : Eeprom} (b : Bool) (x : ℕ) → R.Byte x → Keeps R s → Keeps R (directed b x s)
  directed_keeps true x h v = fetched_keeps x h v
  directed_keeps false x h v = to_next Write refl v

  word_in_keeps : {s : Eeprom} (b : Bool) (x : ℕ) → s.model ≡ X24C01 → R.Byte x → Keeps R s → Keeps R (word_in b x s)
  word_in_keeps {s} b x e h v =
      pick_all (Keeps R) (s.counter == 7) (with_counter 8 (directed b x s)) (addr_in Crate b s) (λ t. count_keeps 8 (omega arith) (directed_keeps b x h v))
      (λ t. addr_in_keeps Crate b (λ l. rw e (R.word_bit_01 s.addr s.counter b (rw e at v.word) (omega (arith, eqb-false s.counter 7 t)))) v)

  acked_keeps : {s : Eeprom} (m : EepromModel) (x : ℕ) → R.Byte x → Keeps R s → Keeps R (acked m x s)
  acked_keeps X24C01 x h v = to_next Idle refl v
  acked_keeps X24C02 x h v = fetched_keeps x h v

  unacked_keeps : {s : Eeprom} (r : EepromRule) → Keeps R s → Keeps R (unacked r s)
  unacked_keeps Crate v = v
  unacked_keeps Datasheet v = to_next Idle refl v

  rise_keeps : {s : Eeprom} (r : EepromRule) (m : EepromModel) (k : EepromMode) (b : Bool) (x : ℕ) → s.model ≡ m → R.Byte x → Keeps R s → Keeps R (rise_of r m k b x s)
  rise_keeps r m Idle b x e h v = v
  rise_keeps r m Read b x e h v = data_out_keeps r v
  rise_keeps r m Write b x e h v = data_in_keeps r b v
  rise_keeps r m SendAck b x e h v = level_keeps 0 (omega arith) v
  rise_keeps r m WaitAck true x e h v = unacked_keeps r v
  rise_keeps r m WaitAck false x e h v = acked_keeps m x h v
  rise_keeps r X24C01 Addr b x e h v = word_in_keeps b x e h v
  rise_keeps {s} r X24C02 Addr b x e h v =
      addr_in_keeps r b (λ l. rw e (R.word_bit_02 s.addr (bit_place r s.counter) b (rw e at v.word) (bit_place_low r s.counter l))) v
  rise_keeps r X24C01 ChipAddr b x e h v = v
  rise_keeps r X24C02 ChipAddr b x e h v = chip_addr_in_keeps r b v

  after_write_slave_keeps : {s : Eeprom} (r : EepromRule) → Keeps R s → Keeps R (after_write_slave r s)
  after_write_slave_keeps Crate v = fresh_keeps Addr refl v
  after_write_slave_keeps Datasheet v = fresh_keeps SendAck refl (to_next Addr refl v)

  after_slave_keeps : {s : Eeprom} (r : EepromRule) (x : ℕ) → R.Byte x → Keeps R s → Keeps R (after_slave r x s)
  after_slave_keeps {s} r x h v =
      pick_all (Keeps R) (slave_passes r s.chip_addr) (pick (slave_reads s.chip_addr) (fresh SendAck (fetched x s)) (after_write_slave r s)) (fresh Idle s)
      (λ e. pick_all (Keeps R) (slave_reads s.chip_addr) (fresh SendAck (fetched x s)) (after_write_slave r s) (λ q. fresh_keeps SendAck refl (fetched_keeps x h v)) (λ q. after_write_slave_keeps r v))
      (λ e. fresh_keeps Idle refl v)

  past_store_keeps : {s : Eeprom} (r : EepromRule) → Keeps R s → Keeps R (past_store r s)
  past_store_keeps Crate v = onward_keeps v
  past_store_keeps {s} Datasheet v = word_keeps _ (R.word_group s.model s.addr v.word) v

  after_store_keeps : {s : Eeprom} (r : EepromRule) (m : EepromModel) → Keeps R s → Keeps R (after_store r m s)
  after_store_keeps r X24C01 v = to_mode SendAck refl (to_next Idle refl (past_store_keeps r v))
  after_store_keeps r X24C02 v = to_mode SendAck refl (to_next Write refl (count_keeps 0 (omega arith) (past_store_keeps r v)))

  fall_keeps : {s : Eeprom} (r : EepromRule) (m : EepromModel) (k : EepromMode) (x : ℕ) → R.Byte x → Keeps R s → Keeps R (fall_of r m k x s)
  fall_keeps r m Idle x h v = v
  fall_keeps r m SendAck x h v = resumed_keeps v
  fall_keeps r m Read x h v = full_keeps (to_mode WaitAck refl (onward_keeps v)) v
  fall_keeps r m Write x h v = full_keeps (after_store_keeps r m v) v
  fall_keeps r X24C01 Addr x h v = full_keeps (to_mode SendAck refl (level_keeps 1 (omega arith) v)) v
  fall_keeps r X24C02 Addr x h v = full_keeps (fresh_keeps SendAck refl (to_next Write refl v)) v
  fall_keeps r X24C01 WaitAck x h v = v
  fall_keeps r X24C02 WaitAck x h v = resumed_keeps v
  fall_keeps r X24C01 ChipAddr x h v = v
  fall_keeps r X24C02 ChipAddr x h v = full_keeps (after_slave_keeps r x h v) v

  start_keeps : {s : Eeprom} (m : EepromModel) → s.model ≡ m → Keeps R s → Keeps R (start_of m s)
  start_keeps {s} X24C01 e v = word_keeps 0 (R.word_zero s.model s.addr v.word) (fresh_keeps Addr refl v)
  start_keeps {s} X24C02 e v = mode_keeps ChipAddr (rw e (R.mode_had X24C02 ChipAddr refl)) (let_go v)

  moved_keeps : {s : Eeprom} (r : EepromRule) (d : LineChange) (b : Bool) (x : ℕ) → R.Byte x → Keeps R s → Keeps R (moved r d b x s)
  moved_keeps {s} r Start b x h v = start_keeps s.model refl v
  moved_keeps r Stop b x h v = to_mode Idle refl (level_keeps 1 (omega arith) v)
  moved_keeps {s} r Rise b x h v = rise_keeps r s.model s.mode b x refl h v
  moved_keeps {s} r Fall b x h v = fall_keeps r s.model s.mode x h v
  moved_keeps r Nothing b x h v = v

  -- A STEP KEEPS THE LIMITS, with a byte and lines that keep them
  pub step_keeps : (r : EepromRule) (s : Eeprom) (x scl sda : ℕ) → R.Byte x → R.Level scl → R.Level sda → Keeps R s → Keeps R (step_of r s x scl sda)
  unfolding step_of
  step_keeps r s x scl sda h p q v = lines_keeps scl sda p q (moved_keeps (rule_for s.model r) (line_change s scl sda) (high sda) x h v)
