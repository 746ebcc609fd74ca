-- THE BOARD, in document 01's order: fitting, register write, module read, device read, clock, card. Read `load_of`, `write_register`,
-- `module_read_of`, `peek_of`, `ticks` and `init_of`; what a write does to the registers is in Regs, what the lines do to a chip in the eeprom
-- crate. `withX` is in BoardSet.
-- What reads no array is defined on the state, `BandaiFCG`; all else on the board, `Board`. Each holds on every board, valid or not.
-- Assumes nothing.
use Rattle.std.specs.Prelude.{Result, Ok, Err, Option, Some, None, ℕ, zero, suc, ◌*◌, ◌/◌, ◌%◌, Bool, true, false, not, ◌&&◌, ◌||◌, ◌==◌, bit_and, bit_or, nat_le, nat_lt}
use Rattle.refusals.specs.declared.Refusal.{Refusal}
use Rattle.refusals.specs.Refusals.{refusal_number}
use Rattle.laws.specs.Choice.{pick}
use Rattle.laws.specs.Lists.{blank}
use Rattle.digits.specs.Digits.{digits_of}
use Rattle.barcode.specs.Barcode.{modules_of, modules_in}
use Rattle.eeprom.specs.declared.EepromModel.{EepromModel}
use Rattle.eeprom.specs.declared.EepromModel.TheVariants.{X24C01, X24C02}
use Rattle.eeprom.specs.Eeprom.{new_eeprom, eeprom_after, rom_after}
use Rattle.cart.specs.declared.Cart.{Cart}
use Rattle.bandai_fcg.specs.declared.board.BandaiFCG.{BandaiFCG}
use Rattle.bandai_fcg.specs.declared.board.Board.{Board}
use Rattle.bandai_fcg.specs.declared.module_read.ModuleRead.{ModuleRead}
use Rattle.cart.specs.Cart.{empty_cart, cart_refusal, is_mapper, is_datach, has_reader, has_standard, is_x24_c02, cart_rule, has_extra, may_read, may_write}
use Rattle.regs.specs.Regs.{new_regs, ram_mapped, write_regs, tick_regs}
use Rattle.bandai_fcg.specs.Reader.{new_reader, tick_reader, input_of, inserted_of, module_read_at}
use Rattle.bandai_fcg.specs.BoardSet.{with_regs, with_reader, with_arrays, with_bandai, with_card, with_standard, with_extra}

-- FITTING. The standard chip's model; the first kind where none is fitted
abbrev pub standard_model : Cart → EepromModel
standard_model c = pick (is_x24_c02 c) X24C02 X24C01

-- a board as it is fitted: chips and reader by the cart, all else 0
unfoldable pub fitted_state : Cart → BandaiFCG
fitted_state c =
    record {
      barcode_reader = new_reader;
      cart = c;
      regs = new_regs c.mirroring;
      standard_eeprom = new_eeprom (standard_model c);
      extra_eeprom = new_eeprom X24C01;
      has_barcode_reader = has_reader c;
      has_standard_eeprom = has_standard c;
      has_extra_eeprom = has_extra c;
    }

unfoldable pub fitted : Cart → Board
fitted c = with_arrays (fitted_state c) (blank 160) (blank 256) (blank 256)

-- all zeros, every enum at its first variant
unfoldable pub empty_board : Board
empty_board = fitted empty_cart

-- what fitting gives: the number of the refusal, or 0, and the board. A refused description gives the empty board
pub record Loaded : Type 0 where
  pub refusal : ℕ
  pub board : Board

abbrev pub loaded : Result Board Refusal → Loaded
loaded (Ok b) = record { refusal = 0; board = b }
loaded (Err e) = record { refusal = refusal_number e; board = empty_board }

unfoldable pub load_of : Cart → Loaded
load_of c =
    pick (cart_refusal c == 0) (record { refusal = 0; board = fitted c }) (record { refusal = cart_refusal c; board = empty_board })

-- REGISTER WRITE. A chip that is fitted gets its lines; the chip rule is the board's
unfoldable pub standard_write : ℕ → ℕ → Board → Board
standard_write scl sda b =
    let chip = b.bandai.standard_eeprom in
    pick b.bandai.has_standard_eeprom (with_standard (eeprom_after (cart_rule b.bandai.cart) chip b.standard_rom scl sda) (rom_after chip b.standard_rom scl sda) b) b

unfoldable pub extra_write : ℕ → ℕ → Board → Board
extra_write scl sda b =
    let chip = b.bandai.extra_eeprom in
    pick b.bandai.has_extra_eeprom (with_extra (eeprom_after (cart_rule b.bandai.cart) chip b.extra_rom scl sda) (rom_after chip b.extra_rom scl sda) b) b

-- the extra chip gets SCL with its last SDA, or SDA with its last SCL
abbrev pub scl_write : ℕ → Board → Board
scl_write scl b = extra_write scl b.bandai.extra_eeprom.prev_sda b

abbrev pub sda_write : ℕ → Board → Board
sda_write sda b = extra_write b.bandai.extra_eeprom.prev_scl sda b

-- 13: the standard chip gets SCL = bit 5 and SDA = bit 6, then the extra chip that SDA with its last SCL
abbrev pub eeprom_ctrl : ℕ → Board → Board
eeprom_ctrl val b = sda_write (val / 64 % 2) (standard_write (val / 32 % 2) (val / 64 % 2) b)

-- what a write to register k of the sixteen does to the chips: 0 to 3 on 157; 13 if access is Write or ReadWrite, and not on 153
unfoldable pub write_chips : ℕ → ℕ → Board → Board
write_chips k val b =
    let c = b.bandai.cart in
    pick (is_datach c && nat_le k 3) (scl_write (val / 8 % 2) b)
    (pick (k == 13 && not (is_mapper 153 c) && may_write c) (eeprom_ctrl val b) b)

-- below 0x6000 nothing happens; nor at 0x6000 to 0x7FFF on 153 with RAM enabled
abbrev pub takes_write : ℕ → BandaiFCG → Bool
takes_write addr s = nat_le 0x8000 addr || nat_le 0x6000 addr && not (ram_mapped s.cart s.regs)

-- else by address & 15
unfoldable pub write_register : ℕ → ℕ → Board → Board
write_register addr val b =
    let s = b.bandai in
    pick (takes_write addr s) (write_chips (addr % 16) val (with_bandai (with_regs (write_regs s.cart (addr % 16) val s.regs) s) b)) b

-- MODULE READ. The module that the board's reader shows: its number, the clocks spent in it, its light
unfoldable pub module_read_of : Board → ModuleRead
module_read_of b =
    let reader = b.bandai.barcode_reader in
    module_read_at b.bandai.has_barcode_reader reader.master_clock reader.insert_cycle reader.module_count b.modules

-- DEVICE READ. The standard chip's output, ANDed with the extra chip's if fitted; a missing standard chip gives 0
unfoldable pub eeprom_out : Bool → Bool → ℕ → ℕ → ℕ
eeprom_out standard extra out extra-out = pick standard (pick extra (bit_and out extra-out) out) 0

-- the module's light, OR 16 times the chips' output; it is a byte on every board
abbrev pub device_value : ℕ → ℕ → ℕ
device_value light out = bit_or light (16 * out % 256)

-- outside 0x6000 to 0x7FFF, or with access None or Write, no device answers
abbrev pub device_answers : ℕ → BandaiFCG → Bool
device_answers addr s = nat_le 0x6000 addr && nat_lt addr 0x8000 && may_read s.cart

-- what a device read gives: whether a device answers, and its value, else 0
pub record Peeked : Type 0 where
  pub answered : Bool
  pub value : ℕ

abbrev pub peeked : Option ℕ → Peeked
peeked None = record { answered = false; value = 0 }
peeked (Some value) = record { answered = true; value = value }

-- if one answers, the value is that of the reader and the chips
unfoldable pub peek_of : ℕ → Board → Peeked
peek_of addr b =
    let s = b.bandai in
    let light = (module_read_of b).light in
    let out = eeprom_out s.has_standard_eeprom s.has_extra_eeprom s.standard_eeprom.output s.extra_eeprom.output in
    pick (device_answers addr s) (record { answered = true; value = device_value light out }) (record { answered = false; value = 0 })

-- CLOCK. It advances the reader's clock if fitted, and the interrupt counter
unfoldable pub tick : BandaiFCG → BandaiFCG
tick s =
    pick s.has_barcode_reader (with_reader (tick_reader s.barcode_reader) (with_regs (tick_regs s.regs) s)) (with_regs (tick_regs s.regs) s)

-- a count does this that many times; 0 does nothing
unfoldable pub ticks : ℕ → BandaiFCG → BandaiFCG
ticks zero s = s
ticks (suc n) s = ticks n (tick s)

-- CARD. It is put in, and changes no module until the insertion
unfoldable pub with_input : ℕ → ℕ → BandaiFCG → BandaiFCG
with_input number digits s = with_reader (input_of number digits s.barcode_reader) s

-- insert sets the insert clock and, with zeros past them, the modules of the card
unfoldable pub init_of : Board → Board
init_of b =
    let reader = b.bandai.barcode_reader in
    let card = modules_in (modules_of (digits_of reader.new_barcode reader.new_barcode_digit_count)) in
    with_card (inserted_of card.count reader) card.modules b
