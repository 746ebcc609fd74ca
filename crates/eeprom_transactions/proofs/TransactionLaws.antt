-- A BYTE WRITE AND A RANDOM READ BY THE DATASHEET, from any idle X24C02: the one stores the byte at the address, and nothing else; the other
-- sends the cell at the address, high bit first. TO READ: `byte_written`, `byte_stored`, `read_begun`, `byte_read`, `bytes_written`, at the end.
-- Assumes nothing.
use Rattle.std.specs.Prelude.{ℕ, zero, suc, ◌+◌, ◌%◌, ◌≤◌, ◌<◌, ◌≡◌, refl, Bool, true, false, List, [], ◌∷◌, ◌++◌, eqb, length, get_or, set}
use Rattle.std.proofs.Common.{sym, ap, ◌∙◌, mod-eq_of_lt, add-one, arith, lt-ltb, ne_eqb, eqb-true}
use Rattle.laws.specs.Choice.{pick, below}
use Rattle.laws.proofs.ChoiceLaws.{below_at}
use Rattle.laws.specs.Lists.{Each}
use Rattle.eeprom.specs.declared.EepromModel.TheVariants.{X24C02}
use Rattle.eeprom.specs.declared.EepromMode.{EepromMode}
use Rattle.eeprom.specs.declared.EepromMode.TheVariants.{Idle, Addr, Read, Write, SendAck, ChipAddr}
use Rattle.eeprom.specs.declared.Eeprom.{Eeprom}
use Rattle.eeprom_bits.specs.declared.EepromRule.TheVariants.{Datasheet}
use Rattle.eeprom_bits.specs.Bits.{bit_at, put_bit, bit_place, next_in_group}
use Rattle.eeprom_bits.specs.BitsLaws.{group_byte}
use Rattle.eeprom.specs.Lines.{high, change_of}
use Rattle.eeprom.specs.State.{with_lines}
use Rattle.eeprom.specs.Eeprom.{moved, stores_at, step_of, stores, eeprom_after, rom_after}
use Rattle.eeprom_transactions.specs.Byte.{byte_from, byte_of, put_bits}
use Rattle.eeprom_transactions.proofs.ByteLaws.{puts_last, rule_places, rule_byte}
use Rattle.eeprom.specs.Run.{Device, Levels, next, after_levels, sent, start_levels, line_clock, line_clocks}
use Rattle.eeprom.proofs.RunLaws.{after_none, after_append}
use Rattle.eeprom_transactions.specs.Transaction.{high_bits, byte_write, more_bytes, group_stored, group_after, last_byte, read_start, device}

-- the three bytes that come in: into which field, in which mode; y is that field
data Into : Type 0 where
  Slave : Into
  Word : Into
  Byte : Into

abbrev device_in : Into → ℕ → EepromMode → ℕ → ℕ → ℕ → ℕ → ℕ → ℕ → ℕ → List ℕ → Device
device_in Slave y n c a x i o p q rom = device ChipAddr n y a x i o p q rom
device_in Word y n c a x i o p q rom = device Addr n c y x i o p q rom
device_in Byte y n c a x i o p q rom = device Write n c a y i o p q rom

abbrev moves : Device → Levels → Device
moves d l = next Datasheet d l

-- SDA takes its level, SCL rises, SCL falls
sda_set : (w : Into) (y : ℕ) (n : EepromMode) (c a x i o q b : ℕ) (rom : List ℕ) → moves (device_in w y n c a x i o 0 q rom) (0, b) ≡ device_in w y n c a x i o 0 b rom
unfolding next eeprom_after step_of stores rom_after
sda_set Slave y n c a x i o q b rom = refl
sda_set Word y n c a x i o q b rom = refl
sda_set Byte y n c a x i o q b rom = refl

scl_rises : (w : Into) (y : ℕ) (n : EepromMode) (c a x i o b : ℕ) (rom : List ℕ) → i < 8 → moves (device_in w y n c a x i o 0 b rom) (1, b) ≡ device_in w (put_bit y (bit_place Datasheet i) (high b)) n c a x (suc i) o 1 b rom
unfolding next eeprom_after step_of stores rom_after
scl_rises Slave y n c a x i o b rom h = rw (lt-ltb i 8 h, add-one i) refl
scl_rises Word y n c a x i o b rom h = rw (lt-ltb i 8 h, add-one i) refl
scl_rises Byte y n c a x i o b rom h = rw (lt-ltb i 8 h, add-one i) refl

scl_falls : (w : Into) (y : ℕ) (n : EepromMode) (c a x i o b : ℕ) (rom : List ℕ) → (i ≡ 8 → ⊥) → moves (device_in w y n c a x i o 1 b rom) (0, b) ≡ device_in w y n c a x i o 0 b rom
unfolding next eeprom_after step_of stores rom_after
scl_falls Slave y n c a x i o b rom h = rw (ne_eqb i 8 h) refl
scl_falls Word y n c a x i o b rom h = rw (ne_eqb i 8 h) refl
scl_falls Byte y n c a x i o b rom h = rw (ne_eqb i 8 h) refl

-- the last level of a list
abbrev pub last_of : ℕ → List ℕ → ℕ
last_of q [] = q
last_of q (b ∷ bs) = last_of b bs

-- clocks before the eighth bit
clocks_in : (bs : List ℕ) (w : Into) (y : ℕ) (n : EepromMode) (c a x i o q : ℕ) (rom : List ℕ) → i + length bs ≤ 7 →
    after_levels Datasheet (device_in w y n c a x i o 0 q rom) (line_clocks bs) ≡ device_in w (put_bits (bit_place Datasheet) i y bs) n c a x (i + length bs) o 0 (last_of q bs) rom
unfolding after_levels put_bits
clocks_in [] w y n c a x i o q rom h = let t : i + 0 ≡ i = omega arith in rw t refl
clocks_in (b ∷ bs) w y n c a x i o q rom h =
    let t : i + suc (length bs) ≡ suc i + length bs = omega arith in
    rw (sda_set w y n c a x i o q b rom, scl_rises w y n c a x i o b rom (omega arith), scl_falls w (put_bit y (bit_place Datasheet i) (high b)) n c a x (suc i) o b rom (λ e. omega arith), t)
    (clocks_in bs w (put_bit y (bit_place Datasheet i) (high b)) n c a x (suc i) o b rom (omega arith))

-- the bits of a byte, high first, are levels, and make the byte; computed for all bytes
bit_level : (x k : ℕ) → bit_at x k ≤ 1
bit_level x k = omega arith

high_levels : (v : ℕ) → Each (λ b. b ≤ 1) (high_bits v)
unfolding Each
high_levels v = (bit_level v 7, (bit_level v 6, (bit_level v 5, (bit_level v 4, (bit_level v 3, (bit_level v 2, (bit_level v 1, (bit_level v 0, tt))))))))

abbrev high_test : ℕ → Bool
high_test v = eqb (byte_of (bit_place Datasheet) (high_bits v)) v

all_high : below high_test 256 ≡ true
unfolding byte_from
all_high = refl

high_byte_lem : (v : ℕ) → v < 256 → byte_of (bit_place Datasheet) (high_bits v) ≡ v
high_byte_lem v h = eqb-true (byte_of (bit_place Datasheet) (high_bits v)) v (below_at high_test 256 v all_high h)

-- eight clocks, all but the last fall: the field is the byte, whatever it was
byte_in_lem : (w : Into) (v y : ℕ) (n : EepromMode) (c a x o q : ℕ) (rom : List ℕ) → v < 256 → y < 256 →
    after_levels Datasheet (device_in w y n c a x 0 o 0 q rom) (line_clocks (high_bits v)) ≡ moves (device_in w v n c a x 8 o 1 (bit_at v 0) rom) (0, bit_at v 0)
unfolding after_levels
byte_in_lem w v y n c a x o q rom h l =
    ap (λ (e : Device). moves (moves (moves e (0, bit_at v 0)) (1, bit_at v 0)) (0, bit_at v 0)) (clocks_in seven w y n c a x 0 o q rom (omega arith))
    ∙ ap (λ (e : Device). moves (moves e (1, bit_at v 0)) (0, bit_at v 0)) (sda_set w (put_bits (bit_place Datasheet) 0 y seven) n c a x 7 o (bit_at v 1) (bit_at v 0) rom)
    ∙ ap (λ (e : Device). moves e (0, bit_at v 0)) (scl_rises w (put_bits (bit_place Datasheet) 0 y seven) n c a x 7 o (bit_at v 0) rom (omega arith))
    ∙ ap (λ (z : ℕ). moves (device_in w z n c a x 8 o 1 (bit_at v 0) rom) (0, bit_at v 0)) made
  where
    seven : List ℕ
    seven = bit_at v 7 ∷ bit_at v 6 ∷ bit_at v 5 ∷ bit_at v 4 ∷ bit_at v 3 ∷ bit_at v 2 ∷ bit_at v 1 ∷ []

    made : put_bit (put_bits (bit_place Datasheet) 0 y seven) (bit_place Datasheet 7) (high (bit_at v 0)) ≡ v
    made = sym (puts_last (bit_place Datasheet) (rule_places Datasheet) seven 0 y (bit_at v 0)) ∙ rule_byte Datasheet (high_bits v) y refl (high_levels v) l ∙ high_byte_lem v h

-- the fall after the eighth bit
slave_done : (n : EepromMode) (c a x o : ℕ) (rom : List ℕ) → moves (device_in Slave 0xA0 n c a x 8 o 1 0 rom) (0, 0) ≡ device SendAck Addr 0xA0 a x 0 1 0 0 rom
unfolding next eeprom_after step_of stores rom_after
slave_done n c a x o rom = refl

word_done : (v : ℕ) (n : EepromMode) (c a x o b : ℕ) (rom : List ℕ) → moves (device_in Word v n c a x 8 o 1 b rom) (0, b) ≡ device SendAck Write c v x 0 1 0 b rom
unfolding next eeprom_after step_of stores rom_after
word_done v n c a x o b rom = refl

byte_done : (v : ℕ) (n : EepromMode) (c a x o b : ℕ) (rom : List ℕ) → moves (device_in Byte v n c a x 8 o 1 b rom) (0, b) ≡ device SendAck Write c (next_in_group a) v 0 o 0 b (set rom (a % 256) v)
unfolding next eeprom_after step_of stores rom_after
byte_done v n c a x o b rom = refl

-- the acknowledge clock
pub acknowledged : (n : EepromMode) (c a x q b : ℕ) (rom : List ℕ) → after_levels Datasheet (device SendAck n c a x 0 1 0 q rom) (line_clock b) ≡ device n n c a x 0 1 0 b rom
unfolding after_levels next eeprom_after step_of stores rom_after
acknowledged n c a x q b rom = refl

-- START, from an idle chip, wherever its lines were
abbrev output_of : Bool → Bool → ℕ → ℕ
output_of true false o = 1
output_of true true o = o
output_of false u o = o

both_high : (n : EepromMode) (c a x i o p q : ℕ) (rom : List ℕ) → moves (device Idle n c a x i o p q rom) (1, 1) ≡ device Idle n c a x i (output_of (high p) (high q) o) 1 1 rom
unfolding next eeprom_after step_of stores rom_after
both_high n c a x i o p q rom = go (high p) (high q)
  where
    s : Eeprom
    s = (device Idle n c a x i o p q rom).chip

    go : (t u : Bool) →
        (let e : Device = record { chip = with_lines 1 1 (moved Datasheet (change_of t true u true) true (get_or rom (a % 256) 0) s); rom = pick (stores_at (change_of t true u true) Idle i) (set rom (a % 256) x) rom } in e)
        ≡ device Idle n c a x i (output_of t u o) 1 1 rom
    go true true = refl
    go true false = refl
    go false true = refl
    go false false = refl

both_fall : (n : EepromMode) (c a x i o : ℕ) (rom : List ℕ) → moves (moves (device Idle n c a x i o 1 1 rom) (1, 0)) (0, 0) ≡ device ChipAddr n c a x 0 1 0 0 rom
unfolding next eeprom_after step_of stores rom_after
both_fall n c a x i o rom = refl

started : (n : EepromMode) (c a x i o p q : ℕ) (rom : List ℕ) → after_levels Datasheet (device Idle n c a x i o p q rom) start_levels ≡ device ChipAddr n c a x 0 1 0 0 rom
unfolding after_levels
started n c a x i o p q rom = rw (both_high n c a x i o p q rom) (both_fall n c a x i (output_of (high p) (high q) o) rom)

-- THE TRANSACTIONS, part after part: START, 0xA0, the word address, each with its acknowledge; then the rest
addressed : (n : EepromMode) (c a₀ x i o p₀ q₀ : ℕ) (rom : List ℕ) → c < 256 → a₀ < 256 → (a p q : ℕ) → a < 256 → (rest : List Levels) →
    after_levels Datasheet (device Idle n c a₀ x i o p₀ q₀ rom) (start_levels ++ (line_clocks (high_bits 0xA0) ++ (line_clock p ++ (line_clocks (high_bits a) ++ (line_clock q ++ rest))))) ≡ after_levels Datasheet (device Write Write 0xA0 a x 0 1 0 q rom) rest
addressed n c a₀ x i o p₀ q₀ rom hc ha a p q la rest =
    after_append Datasheet _ start_levels _ ∙ ap (λ (e : Device). after_levels Datasheet e r1) (started n c a₀ x i o p₀ q₀ rom)
    ∙ after_append Datasheet _ (line_clocks (high_bits 0xA0)) _ ∙ ap (λ (e : Device). after_levels Datasheet e r2) (byte_in_lem Slave 0xA0 c n c a₀ x 1 0 rom (omega arith) hc ∙ slave_done n c a₀ x 1 rom)
    ∙ after_append Datasheet _ (line_clock p) _ ∙ ap (λ (e : Device). after_levels Datasheet e r3) (acknowledged Addr 0xA0 a₀ x 0 p rom)
    ∙ after_append Datasheet _ (line_clocks (high_bits a)) _ ∙ ap (λ (e : Device). after_levels Datasheet e r4) (byte_in_lem Word a a₀ Addr 0xA0 a₀ x 1 p rom la ha ∙ word_done a Addr 0xA0 a₀ x 1 (bit_at a 0) rom)
    ∙ after_append Datasheet _ (line_clock q) _ ∙ ap (λ (e : Device). after_levels Datasheet e rest) (acknowledged Write 0xA0 a x (bit_at a 0) q rom)
  where
    r4 : List Levels
    r4 = line_clock q ++ rest

    r3 : List Levels
    r3 = line_clocks (high_bits a) ++ r4

    r2 : List Levels
    r2 = line_clock p ++ r3

    r1 : List Levels
    r1 = line_clocks (high_bits 0xA0) ++ r2

fields_write : (n : EepromMode) (c a₀ x i o p₀ q₀ : ℕ) (rom : List ℕ) → c < 256 → a₀ < 256 → x < 256 → (a d p q : ℕ) → a < 256 → d < 256 →
    after_levels Datasheet (device Idle n c a₀ x i o p₀ q₀ rom) (byte_write a d p q) ≡ device SendAck Write 0xA0 (next_in_group a) d 0 1 0 (bit_at d 0) (set rom a d)
fields_write n c a₀ x i o p₀ q₀ rom hc ha hx a d p q la ld =
    addressed n c a₀ x i o p₀ q₀ rom hc ha a p q la (line_clocks (high_bits d))
    ∙ byte_in_lem Byte d x Write 0xA0 a x 1 q rom ld hx ∙ byte_done d Write 0xA0 a x 1 (bit_at d 0) rom
    ∙ ap (λ (k : ℕ). device SendAck Write 0xA0 (next_in_group a) d 0 1 0 (bit_at d 0) (set rom k d)) (mod-eq_of_lt la)

-- START again, from mode Write: the rise before it takes a bit, which is lost
restarted : (a x q : ℕ) (rom : List ℕ) → after_levels Datasheet (device Write Write 0xA0 a x 0 1 0 q rom) ((0, 1) ∷ start_levels) ≡ device ChipAddr Write 0xA0 a (put_bit x 7 true) 0 1 0 0 rom
unfolding after_levels next eeprom_after step_of stores rom_after
restarted a x q rom = refl

read_slave_done : (n : EepromMode) (c a x o : ℕ) (rom : List ℕ) → moves (device_in Slave 0xA1 n c a x 8 o 1 1 rom) (0, 1) ≡ device SendAck Read 0xA1 a (get_or rom (a % 256) 0) 0 1 0 1 rom
unfolding next eeprom_after step_of stores rom_after
read_slave_done n c a x o rom = refl

fields_read : (n : EepromMode) (c a₀ x i o p₀ q₀ : ℕ) (rom : List ℕ) → c < 256 → a₀ < 256 → (a p q u : ℕ) → a < 256 →
    after_levels Datasheet (device Idle n c a₀ x i o p₀ q₀ rom) (read_start a p q u) ≡ device Read Read 0xA1 a (get_or rom a 0) 0 1 0 u rom
fields_read n c a₀ x i o p₀ q₀ rom hc ha a p q u la =
    addressed n c a₀ x i o p₀ q₀ rom hc ha a p q la (((0, 1) ∷ start_levels) ++ (line_clocks (high_bits 0xA1) ++ line_clock u))
    ∙ after_append Datasheet _ ((0, 1) ∷ start_levels) _ ∙ ap (λ (e : Device). after_levels Datasheet e (line_clocks (high_bits 0xA1) ++ line_clock u)) (restarted a x q rom)
    ∙ after_append Datasheet _ (line_clocks (high_bits 0xA1)) _ ∙ ap (λ (e : Device). after_levels Datasheet e (line_clock u)) (byte_in_lem Slave 0xA1 0xA0 Write 0xA0 a (put_bit x 7 true) 1 0 rom (omega arith) (omega arith) ∙ read_slave_done Write 0xA0 a (put_bit x 7 true) 1 rom)
    ∙ acknowledged Read 0xA1 a (get_or rom (a % 256) 0) 1 u rom
    ∙ ap (λ (k : ℕ). device Read Read 0xA1 a (get_or rom k 0) 0 1 0 u rom) (mod-eq_of_lt la)

-- THE BYTE GOES OUT: the bits that k clocks send, from the i-th on
abbrev bits_out : ℕ → ℕ → ℕ → List ℕ
bits_out x i zero = []
bits_out x i (suc k) = bit_at x (bit_place Datasheet i) ∷ bits_out x (suc i) k

pub read_set : (n : EepromMode) (c a x i o q b : ℕ) (rom : List ℕ) → moves (device Read n c a x i o 0 q rom) (0, b) ≡ device Read n c a x i o 0 b rom
unfolding next eeprom_after step_of stores rom_after
read_set n c a x i o q b rom = refl

pub read_rises : (n : EepromMode) (c a x i o b : ℕ) (rom : List ℕ) → i < 8 → moves (device Read n c a x i o 0 b rom) (1, b) ≡ device Read n c a x (suc i) (bit_at x (bit_place Datasheet i)) 1 b rom
unfolding next eeprom_after step_of stores rom_after
read_rises n c a x i o b rom h = rw (lt-ltb i 8 h, add-one i) refl

pub read_falls : (n : EepromMode) (c a x i o b : ℕ) (rom : List ℕ) → (i ≡ 8 → ⊥) → moves (device Read n c a x i o 1 b rom) (0, b) ≡ device Read n c a x i o 0 b rom
unfolding next eeprom_after step_of stores rom_after
read_falls n c a x i o b rom h = rw (ne_eqb i 8 h) refl

-- one clock sends one bit
clock_out : (n : EepromMode) (c a x i o q b : ℕ) (rom : List ℕ) (rest : List Levels) → i < 8 →
    sent Datasheet (device Read n c a x i o 0 q rom) (line_clock b ++ rest) ≡ bit_at x (bit_place Datasheet i) ∷ sent Datasheet (moves (device Read n c a x (suc i) (bit_at x (bit_place Datasheet i)) 1 b rom) (0, b)) rest
unfolding sent
clock_out n c a x i o q b rom rest h = rw (read_set n c a x i o q b rom, read_rises n c a x i o b rom h) refl

clocks_out : (bs : List ℕ) (n : EepromMode) (c a x i o q : ℕ) (rom : List ℕ) → i + length bs ≤ 8 → sent Datasheet (device Read n c a x i o 0 q rom) (line_clocks bs) ≡ bits_out x i (length bs)
unfolding sent
clocks_out [] n c a x i o q rom h = refl
clocks_out (b ∷ []) n c a x i o q rom h = clock_out n c a x i o q b rom [] (omega arith)
clocks_out (b ∷ b' ∷ bs) n c a x i o q rom h =
    clock_out n c a x i o q b rom (line_clocks (b' ∷ bs)) (omega arith)
    ∙ ap (λ (l : List ℕ). bit_at x (bit_place Datasheet i) ∷ l)
    (ap (λ (e : Device). sent Datasheet e (line_clocks (b' ∷ bs))) (read_falls n c a x (suc i) (bit_at x (bit_place Datasheet i)) b rom (λ e. omega arith))
    ∙ clocks_out (b' ∷ bs) n c a x (suc i) (bit_at x (bit_place Datasheet i)) b rom (omega arith))

-- an idle X24C02, by its fields
idle_fields : (s : Eeprom) → s.model ≡ X24C02 → s.mode ≡ Idle → (rom : List ℕ) →
    (let e : Device = record { chip = s; rom = rom } in e) ≡ device Idle s.next_mode s.chip_addr s.addr s.«data» s.counter s.output s.prev_scl s.prev_sda rom
idle_fields s m k rom = λ i. record { chip = record { model = m i; mode = k i; next_mode = s.next_mode; chip_addr = s.chip_addr; addr = s.addr; «data» = s.«data»; counter = s.counter; output = s.output; prev_scl = s.prev_scl; prev_sda = s.prev_sda }; rom = rom }

-- A BYTE WRITE from any idle X24C02 whose fields are bytes, for every address and byte, and any levels at the two acknowledge clocks:
-- the memory has the byte at the address, and is else as it was; the chip waits to acknowledge, then for the next of the four cells
pub byte_written : (s : Eeprom) (rom : List ℕ) → s.model ≡ X24C02 → s.mode ≡ Idle → s.chip_addr < 256 → s.addr < 256 → s.«data» < 256 → (a d p q : ℕ) → a < 256 → d < 256 →
    after_levels Datasheet (record { chip = s; rom = rom }) (byte_write a d p q) ≡ device SendAck Write 0xA0 (next_in_group a) d 0 1 0 (bit_at d 0) (set rom a d)
byte_written s rom m k hc ha hx a d p q la ld =
    ap (λ (e : Device). after_levels Datasheet e (byte_write a d p q)) (idle_fields s m k rom)
    ∙ fields_write s.next_mode s.chip_addr s.addr s.«data» s.counter s.output s.prev_scl s.prev_sda rom hc ha hx a d p q la ld

pub byte_stored : (s : Eeprom) (rom : List ℕ) → s.model ≡ X24C02 → s.mode ≡ Idle → s.chip_addr < 256 → s.addr < 256 → s.«data» < 256 → (a d p q : ℕ) → a < 256 → d < 256 →
    (after_levels Datasheet (record { chip = s; rom = rom }) (byte_write a d p q)).rom ≡ set rom a d
byte_stored s rom m k hc ha hx a d p q la ld = ap (λ (e : Device). e.rom) (byte_written s rom m k hc ha hx a d p q la ld)

-- A RANDOM READ from any idle X24C02 whose slave byte and word address are bytes, for every address: eight clocks, SDA at any levels, send the
-- bits of that cell, the high one first. The memory is as it was
pub read_begun : (s : Eeprom) (rom : List ℕ) → s.model ≡ X24C02 → s.mode ≡ Idle → s.chip_addr < 256 → s.addr < 256 → (a p q u : ℕ) → a < 256 →
    after_levels Datasheet (record { chip = s; rom = rom }) (read_start a p q u) ≡ device Read Read 0xA1 a (get_or rom a 0) 0 1 0 u rom
read_begun s rom m k hc ha a p q u la =
    ap (λ (e : Device). after_levels Datasheet e (read_start a p q u)) (idle_fields s m k rom)
    ∙ fields_read s.next_mode s.chip_addr s.addr s.«data» s.counter s.output s.prev_scl s.prev_sda rom hc ha a p q u la

pub byte_read : (s : Eeprom) (rom : List ℕ) → s.model ≡ X24C02 → s.mode ≡ Idle → s.chip_addr < 256 → s.addr < 256 → (a p q u : ℕ) → a < 256 → (bs : List ℕ) → length bs ≡ 8 →
    sent Datasheet (after_levels Datasheet (record { chip = s; rom = rom }) (read_start a p q u)) (line_clocks bs) ≡ high_bits (get_or rom a 0)
byte_read s rom m k hc ha a p q u la bs n =
    ap (λ (e : Device). sent Datasheet e (line_clocks bs)) (read_begun s rom m k hc ha a p q u la)
    ∙ clocks_out bs Read 0xA1 a (get_or rom a 0) 0 1 u rom (omega arith)
    ∙ ap (bits_out (get_or rom a 0) 0) n

-- MORE BYTES go to the next of the four cells each, round and round
one_byte : (c a x d p q : ℕ) (rom : List ℕ) → a < 256 → x < 256 → d < 256 →
    after_levels Datasheet (device SendAck Write c a x 0 1 0 q rom) (line_clock p ++ line_clocks (high_bits d)) ≡ device SendAck Write c (next_in_group a) d 0 1 0 (bit_at d 0) (set rom a d)
one_byte c a x d p q rom la lx ld =
    after_append Datasheet _ (line_clock p) _ ∙ ap (λ (e : Device). after_levels Datasheet e (line_clocks (high_bits d))) (acknowledged Write c a x q p rom)
    ∙ byte_in_lem Byte d x Write c a x 1 p rom ld lx ∙ byte_done d Write c a x 1 (bit_at d 0) rom
    ∙ ap (λ (k : ℕ). device SendAck Write c (next_in_group a) d 0 1 0 (bit_at d 0) (set rom k d)) (mod-eq_of_lt la)

pub bytes_written : (ds : List ℕ) (c a x p : ℕ) (rom : List ℕ) → a < 256 → x < 256 → Each (λ d. d < 256) ds →
    after_levels Datasheet (device SendAck Write c a x 0 1 0 (bit_at x 0) rom) (more_bytes p ds)
    ≡ device SendAck Write c (group_after a ds) (last_byte x ds) 0 1 0 (bit_at (last_byte x ds) 0) (group_stored rom a ds)
unfolding group_stored group_after Each
bytes_written [] c a x p rom la lx h = after_none Datasheet _
bytes_written (d ∷ ds) c a x p rom la lx h =
    after_append Datasheet _ (line_clock p ++ line_clocks (high_bits d)) _ ∙ ap (λ (e : Device). after_levels Datasheet e (more_bytes p ds)) (one_byte c a x d p (bit_at x 0) rom la lx h.0)
    ∙ bytes_written ds c (next_in_group a) d p (set rom a d) (group_byte a la) h.0 h.1
