-- What is done to lent parts is the event on every board that has them. Assumes nothing.
use Rattle.std.specs.Prelude.{◌≡◌, ℕ, ◌+◌, ◌/◌, ◌%◌, ◌^◌, ◌<◌, Bool, true, false, not, ◌&&◌, ◌||◌, List, ◌==◌, nat_le, nat_lt, slice_index}
use Rattle.std.proofs.Math.Path.{refl, ap}
use Rattle.std.proofs.Common.{◌∙◌}
use Rattle.std.proofs.Math.Bool.{or-false}
use Rattle.laws.specs.Choice.{pick}
use Rattle.cart.specs.Cart.{is_mapper, is_datach, may_write}
use Rattle.regs.specs.Regs.{step_down, write_regs}
use Rattle.regs.proofs.RegsLaws.{counted_regs_lem}
use Rattle.bandai_fcg.specs.declared.barcode_reader.BarcodeReader.{BarcodeReader}
use Rattle.bandai_fcg.specs.declared.board.Board.{Board}
use Rattle.bandai_fcg.specs.declared.module_read.ModuleRead.{ModuleRead}
use Rattle.bandai_fcg.specs.Reader.{module_read_at}
use Rattle.bandai_fcg.specs.BoardSet.{with_arrays, with_bandai, with_regs}
use Rattle.bandai_fcg.specs.Board.{Peeked, standard_write, extra_write, scl_write, sda_write, eeprom_ctrl, write_chips, takes_write, write_register, module_read_of, eeprom_out, device_value, device_answers, peek_of}
use Rattle.bandai_fcg.proofs.BoardLaws.{counted_ticks_lem}
use Rattle.event.specs.Event.{clocks_event, clocks_refusal, refusal_of, applied, after_of}
use Rattle.board_codes.specs.declared.board.BoardC.{BoardC}
use Rattle.board_codes.specs.Codes.{chip_of, chip_c, board_of}
use Rattle.board_codes.specs.Bytes.{times_c, flag_at, chip_bytes, devices_bytes}
use Rattle.molbitak_step.specs.Parts.{with_fitted, with_clocks, Shows}

-- CLOCKS that are not refused, and those that are
module _ (b : Board) (clock counter n : ℕ) (pending : Bool) (clock-fits : clock < 2 ^ 64) (counter-fits : counter < 65536) where
  abbrev before : (fitted enabled : Bool) → Board
  before fitted enabled = with_clocks clock fitted counter pending enabled b

  abbrev counted : (fitted enabled : Bool) → Board
  counted fitted enabled =
      with_clocks (pick fitted ((clock + n) % 2 ^ 64) clock) fitted (pick enabled (step_down counter (n % 65536)) counter) (pending || enabled && nat_lt counter n) enabled b

  pub clocks_taken : (fitted enabled : Bool) → clocks_refusal fitted clock n ≡ 0 → counted fitted enabled ≡ after_of (clocks_event n) (before fitted enabled)
  unfolding after_of refusal_of applied
  clocks_taken true true e = rw (e, counted_ticks_lem n (before true true).bandai clock-fits, counted_regs_lem n (before true true).bandai.regs counter-fits) refl
  clocks_taken true false e = rw (e, counted_ticks_lem n (before true false).bandai clock-fits, counted_regs_lem n (before true false).bandai.regs counter-fits, or-false pending) refl
  clocks_taken false true e = rw (counted_ticks_lem n (before false true).bandai clock-fits, counted_regs_lem n (before false true).bandai.regs counter-fits) refl
  clocks_taken false false e = rw (counted_ticks_lem n (before false false).bandai clock-fits, counted_regs_lem n (before false false).bandai.regs counter-fits, or-false pending) refl

-- A REGISTER WRITE neither reads nor changes the reader
module _ (b : Board) (fitted : Bool) (reader : BarcodeReader) (modules : List ℕ) (addr val : ℕ) where
  abbrev other : Board → Board
  other x = with_arrays (with_fitted fitted reader x.bandai.regs x.bandai) modules x.standard_rom x.extra_rom

  abbrev k : ℕ
  k = addr % 16

  by_test : (t : Bool) (x y : Board) → pick t (other x) (other y) ≡ other (pick t x y)
  by_test true x y = refl
  by_test false x y = refl

  standard_other : (scl sda : ℕ) (x : Board) → standard_write scl sda (other x) ≡ other (standard_write scl sda x)
  unfolding standard_write
  standard_other scl sda x = by_test x.bandai.has_standard_eeprom _ x

  extra_other : (scl sda : ℕ) (x : Board) → extra_write scl sda (other x) ≡ other (extra_write scl sda x)
  unfolding extra_write
  extra_other scl sda x = by_test x.bandai.has_extra_eeprom _ x

  ctrl_other : (x : Board) → eeprom_ctrl val (other x) ≡ other (eeprom_ctrl val x)
  ctrl_other x = ap (sda_write (val / 64 % 2)) (standard_other (val / 32 % 2) (val / 64 % 2) x) ∙ extra_other _ _ (standard_write (val / 32 % 2) (val / 64 % 2) x)

  chips_other : (x : Board) → write_chips k val (other x) ≡ other (write_chips k val x)
  unfolding write_chips
  chips_other x =
      let c = x.bandai.cart in
      let datach = is_datach c && nat_le k 3 in
      let ctrl = k == 13 && not (is_mapper 153 c) && may_write c in
      (λ i. pick datach (extra_other (val / 8 % 2) x.bandai.extra_eeprom.prev_sda x i) (pick ctrl (ctrl_other x i) (other x)))
      ∙ ap (pick datach (other (scl_write (val / 8 % 2) x))) (by_test ctrl (eeprom_ctrl val x) x)
      ∙ by_test datach (scl_write (val / 8 % 2) x) (pick ctrl (eeprom_ctrl val x) x)

  pub write_other : write_register addr val (other b) ≡ other (write_register addr val b)
  unfolding write_register
  write_other =
      let s = b.bandai in
      let takes = takes_write addr s in
      let x = with_bandai (with_regs (write_regs s.cart k val s.regs) s) b in
      ap (λ (y : Board). pick takes y (other b)) (chips_other x) ∙ by_test takes (write_chips k val x) b

  -- the same where the tests on the way are known
  by_tests : (takes scl ctrl standard extra : Bool) → takes_write addr b.bandai ≡ takes → (is_datach b.bandai.cart && nat_le k 3) ≡ scl → (k == 13 && not (is_mapper 153 b.bandai.cart) && may_write b.bandai.cart) ≡ ctrl
      → b.bandai.has_standard_eeprom ≡ standard → b.bandai.has_extra_eeprom ≡ extra → write_register addr val (other b) ≡ other (write_register addr val b)
  by_tests takes scl ctrl standard extra t s c p q = write_other

  -- so what is left of the parts of a board without a reader is what the write leaves of a board with one
  pub write_shows : (after : Board) → after ≡ write_register addr val b
      → Shows after.bandai.regs (chip_bytes (chip_c after.bandai.standard_eeprom)) (chip_bytes (chip_c after.bandai.extra_eeprom)) after.standard_rom after.extra_rom (write_register addr val (other b))
  write_shows after is = rw (write_other, ← is) (refl, refl, refl, refl, refl)

-- A MODULE READ of the parts of a board of codes, by whether its reader is fitted
abbrev shown : BoardC → Bool → ModuleRead
shown b fitted =
    let times = times_c b.bandai.barcode_reader in
    module_read_at fitted (slice_index times 0) (slice_index times 1) b.bandai.barcode_reader.module_count b.modules

pub module_on : (b : BoardC) → module_read_of (board_of b) ≡ shown b b.bandai.devices.has_barcode_reader
unfolding module_read_of board_of
module_on b = refl

-- A DEVICE READ of them, where the devices answer: the light is that of the module read
module _ (b : BoardC) (addr : ℕ) (answers : device_answers addr (board_of b).bandai ≡ true) where
  abbrev devices : List ℕ
  devices = devices_bytes b.bandai.devices

  abbrev given : Peeked
  given =
      record {
        answered = true;
        value = device_value (shown b (flag_at 20 devices)).light (eeprom_out (flag_at 21 devices) (flag_at 22 devices) (slice_index devices 7) (slice_index devices 17));
      }

  flag_back : (t : Bool) → not ((pick {A = ℕ} t 1 0) == 0) ≡ t
  flag_back true = refl
  flag_back false = refl

  pub read_on : peek_of addr (board_of b) ≡ given
  unfolding peek_of module_read_of board_of chip_of chip_bytes
  read_on = rw (answers, flag_back b.bandai.devices.has_barcode_reader, flag_back b.bandai.devices.has_standard_eeprom, flag_back b.bandai.devices.has_extra_eeprom) refl
