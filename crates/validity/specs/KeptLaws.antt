-- Laws of validity: every method keeps a valid board valid.
-- Assumes nothing.
use Rattle.std.specs.Prelude.{◌≡◌, refl, true, ◌&&◌, not, ℕ, ◌+◌, ◌/◌, ◌%◌, ◌^◌, ◌≤◌, ◌<◌, eqb, leb}
use Rattle.std.proofs.Common.{◌∙◌, arith, le-leb, leb-true}
use Rattle.laws.proofs.ChoiceLaws.{both_true, pick_all}
use Rattle.digits.specs.Digits.{digits_of}
use Rattle.barcode.proofs.BarcodeLaws.{modules_shown_lem}
use Rattle.eeprom.specs.Eeprom.{eeprom_after, rom_after}
use Rattle.eeprom_valid.specs.ValidLaws.{Valid as ValidChip, valid_parts as chip-parts, valid_after}
use Rattle.eeprom.proofs.EepromLaws.{model_kept}
use Rattle.bandai_fcg.specs.declared.barcode_reader.BarcodeReader.{BarcodeReader}
use Rattle.bandai_fcg.specs.declared.board.BandaiFCG.{BandaiFCG}
use Rattle.bandai_fcg.specs.declared.board.Board.{Board}
use Rattle.cart.specs.Cart.{is_mapper, is_datach, cart_rule, may_write}
use Rattle.regs.specs.Regs.{ticks_regs}
use Rattle.bandai_fcg.specs.Reader.{counted_reader, input_of, inserted_of}
use Rattle.bandai_fcg.specs.BoardSet.{with_regs, with_reader, with_standard, with_extra, with_bandai}
use Rattle.bandai_fcg.specs.Board.{standard_write, extra_write, scl_write, eeprom_ctrl, write_chips, takes_write, write_register, ticks, with_input, init_of}
use Rattle.bandai_fcg.proofs.BoardLaws.{counted_ticks_lem}
use Rattle.validity.specs.Valid.{clock_limit, valid_reader, reader_fits, standard_fits, extra_fits}
use Rattle.validity.specs.ValidLaws.{Valid, set_regs, write_regs_lem, ticks_regs_lem, reader_on, on_reader, standard_on, on_standard, extra_on, on_extra}

-- THE CHIPS, with lines 0 or 1
set_standard : (b : Board) (scl sda : ℕ) → scl ≤ 1 → sda ≤ 1 → Valid b → b.bandai.has_standard_eeprom ≡ true →
    Valid (with_standard (eeprom_after (cart_rule b.bandai.cart) b.bandai.standard_eeprom b.standard_rom scl sda) (rom_after b.bandai.standard_eeprom b.standard_rom scl sda) b)
unfolding reader_fits extra_fits
set_standard b scl sda hc hd v e =
    let o = standard_on b v.standard e in
    record {
      cart = v.cart;
      regs = v.regs;
      reader = v.reader;
      standard = on_standard _ e (record { fitted = o.fitted; model = rw (model_kept (cart_rule b.bandai.cart) b.bandai.standard_eeprom b.standard_rom scl sda) o.model; valid = valid_after (cart_rule b.bandai.cart) _ _ scl sda hc hd o.valid });
      extra = v.extra;
    }

set_extra : (b : Board) (scl sda : ℕ) → scl ≤ 1 → sda ≤ 1 → Valid b → b.bandai.has_extra_eeprom ≡ true →
    Valid (with_extra (eeprom_after (cart_rule b.bandai.cart) b.bandai.extra_eeprom b.extra_rom scl sda) (rom_after b.bandai.extra_eeprom b.extra_rom scl sda) b)
unfolding reader_fits standard_fits
set_extra b scl sda hc hd v e =
    let o = extra_on b v.extra e in
    record {
      cart = v.cart;
      regs = v.regs;
      reader = v.reader;
      standard = v.standard;
      extra = on_extra _ e (record { fitted = o.fitted; model = rw (model_kept (cart_rule b.bandai.cart) b.bandai.extra_eeprom b.extra_rom scl sda) o.model; valid = valid_after (cart_rule b.bandai.cart) _ _ scl sda hc hd o.valid });
    }

pub keep_standard : (b : Board) (scl sda : ℕ) → scl ≤ 1 → sda ≤ 1 → Valid b → Valid (standard_write scl sda b)
unfolding standard_write
keep_standard b scl sda hc hd v = pick_all Valid b.bandai.has_standard_eeprom _ _ (λ e. set_standard b scl sda hc hd v e) (λ _. v)

pub keep_extra : (b : Board) (scl sda : ℕ) → scl ≤ 1 → sda ≤ 1 → Valid b → Valid (extra_write scl sda b)
unfolding extra_write
keep_extra b scl sda hc hd v = pick_all Valid b.bandai.has_extra_eeprom _ _ (λ e. set_extra b scl sda hc hd v e) (λ _. v)

-- the same where the lines are given only if the chip is fitted: its last level is then 0 or 1
extra_lines : (b : Board) (lines : ℕ × ℕ) → Valid b → (ValidChip b.bandai.extra_eeprom b.extra_rom → (lines.0 ≤ 1) × (lines.1 ≤ 1)) → Valid (extra_write lines.0 lines.1 b)
unfolding extra_write
extra_lines b lines v h =
    pick_all Valid b.bandai.has_extra_eeprom _ _
    (λ e. let l = h (chip-parts _ _ (extra_on b v.extra e).valid) in set_extra b lines.0 lines.1 l.0 l.1 v e)
    (λ _. v)

-- A REGISTER WRITE
keep_scl : (b : Board) (scl : ℕ) → scl ≤ 1 → Valid b → Valid (scl_write scl b)
keep_scl b scl h v = extra_lines b (scl, b.bandai.extra_eeprom.prev_sda) v (λ c. (h, c.sda))

keep_ctrl : (b : Board) (val : ℕ) → Valid b → Valid (eeprom_ctrl val b)
keep_ctrl b val v =
    let c = standard_write (val / 32 % 2) (val / 64 % 2) b in
    extra_lines c (c.bandai.extra_eeprom.prev_scl, val / 64 % 2) (keep_standard b (val / 32 % 2) (val / 64 % 2) (omega arith) (omega arith) v)
    (λ k. (k.scl, omega arith))

keep_chips : (b : Board) (k val : ℕ) → Valid b → Valid (write_chips k val b)
unfolding write_chips
keep_chips b k val v =
    pick_all Valid (is_datach b.bandai.cart && leb k 3) _ _ (λ _. keep_scl b (val / 8 % 2) (omega arith) v)
    (λ _. pick_all Valid (eqb k 13 && not (is_mapper 153 b.bandai.cart) && may_write b.bandai.cart) _ _ (λ _. keep_ctrl b val v) (λ _. v))

pub keep_write : (b : Board) (addr val : ℕ) → Valid b → Valid (write_register addr val b)
unfolding write_register
keep_write b addr val v =
    pick_all Valid (takes_write addr b.bandai) _ _
    (λ _. keep_chips _ (addr % 16) val (set_regs b _ v (write_regs_lem b.bandai.cart (addr % 16) val b.bandai.regs v.regs)))
    (λ _. v)

-- CLOCKS, up to the limit of the reader's clock
later_reader : (r : BarcodeReader) (n : ℕ) → valid_reader r ≡ true → r.master_clock + n ≤ clock_limit → valid_reader (counted_reader n r) ≡ true
later_reader r n h l =
    let d = both_true _ (leb r.module_count 160) h in
    let c = both_true _ (leb r.new_barcode_digit_count 20) d.0 in
    let a = both_true (leb r.insert_cycle r.master_clock) (leb r.master_clock clock_limit) c.0 in
    let e : (r.master_clock + n) % 2 ^ 64 ≡ r.master_clock + n = omega arith in
    rw (e, le-leb r.insert_cycle (r.master_clock + n) (omega (arith, leb-true r.insert_cycle r.master_clock a.0)), le-leb (r.master_clock + n) clock_limit l, c.1, d.1) refl

set_reader : (b : Board) (r : BarcodeReader) → Valid b → b.bandai.has_barcode_reader ≡ true → valid_reader r ≡ true → r.module_count ≡ b.bandai.barcode_reader.module_count → Valid (with_bandai (with_reader r b.bandai) b)
unfolding standard_fits extra_fits
set_reader b r v e h c =
    let o = reader_on b v.reader e in
    record {
      cart = v.cart;
      regs = v.regs;
      reader = on_reader _ e (record { fitted = o.fitted; valid = h; each = o.each; past = rw c o.past });
      standard = v.standard;
      extra = v.extra;
    }

pub keep_ticks : (b : Board) (n : ℕ) → Valid b → b.bandai.barcode_reader.master_clock < 2 ^ 64 → (b.bandai.has_barcode_reader ≡ true → b.bandai.barcode_reader.master_clock + n ≤ clock_limit) → Valid (with_bandai (ticks n b.bandai) b)
keep_ticks b n v t l =
    let w = set_regs b (ticks_regs n b.bandai.regs) v (ticks_regs_lem n b.bandai.regs ∙ v.regs) in
    rw (counted_ticks_lem n b.bandai t)
    (pick_all (λ (s : BandaiFCG). Valid (with_bandai s b)) b.bandai.has_barcode_reader _ _
    (λ e. set_reader (with_bandai (with_regs (ticks_regs n b.bandai.regs) b.bandai) b) (counted_reader n b.bandai.barcode_reader) w e (later_reader b.bandai.barcode_reader n (reader_on b v.reader e).valid (l e)) refl)
    (λ _. w))

-- A CARD of at most 20 digits, and its insertion, on a board with a reader
pub keep_input : (b : Board) (number digits : ℕ) → Valid b → b.bandai.has_barcode_reader ≡ true → digits ≤ 20 → Valid (with_bandai (with_input number digits b.bandai) b)
unfolding with_input
keep_input b number digits v e h =
    let r = b.bandai.barcode_reader in
    let o = reader_on b v.reader e in
    let d = both_true _ (leb r.module_count 160) o.valid in
    let c = both_true _ (leb r.new_barcode_digit_count 20) d.0 in
    let a = both_true (leb r.insert_cycle r.master_clock) (leb r.master_clock clock_limit) c.0 in
    set_reader b (input_of number digits r) v e (rw (a.0, a.1, le-leb digits 20 h, d.1) refl) refl

inserted_valid : (r : BarcodeReader) (count : ℕ) → valid_reader r ≡ true → count ≤ 160 → valid_reader (inserted_of count r) ≡ true
inserted_valid r count h k =
    let d = both_true _ (leb r.module_count 160) h in
    let c = both_true _ (leb r.new_barcode_digit_count 20) d.0 in
    let a = both_true (leb r.insert_cycle r.master_clock) (leb r.master_clock clock_limit) c.0 in
    rw (le-leb r.master_clock r.master_clock (omega arith), a.1, c.1, le-leb count 160 k) refl

pub keep_init : (b : Board) → Valid b → b.bandai.has_barcode_reader ≡ true → Valid (init_of b)
unfolding init_of standard_fits extra_fits
keep_init b v e =
    let o = reader_on b v.reader e in
    let m = modules_shown_lem (digits_of b.bandai.barcode_reader.new_barcode b.bandai.barcode_reader.new_barcode_digit_count) in
    record {
      cart = v.cart;
      regs = v.regs;
      reader = on_reader _ e (record { fitted = o.fitted; valid = inserted_valid b.bandai.barcode_reader _ o.valid m.counted; each = m.each; past = m.past });
      standard = v.standard;
      extra = v.extra;
    }
