-- What validity says of the parts of a board, as the file's laws need it: which are fitted, and zeros where nothing is.
-- Assumes nothing.
use Rattle.std.specs.Prelude.{◌≡◌, refl, Bool, true, false, ◌&&◌, not, List, ℕ, ◌≤◌, ◌<◌, eqb, leb, length}
use Rattle.std.proofs.Common.{sym, ap, ◌∙◌, arith, eqb-true, leb-true}
use Rattle.laws.specs.Choice.{pick}
use Rattle.laws.proofs.ChoiceLaws.{both_true, never_both}
use Rattle.laws.specs.Lists.{zeros_from, every}
use Rattle.barcode.specs.Barcode.{is_module}
use Rattle.eeprom.specs.declared.EepromModel.{EepromModel}
use Rattle.eeprom.specs.declared.EepromModel.TheVariants.{X24C01, X24C02}
use Rattle.eeprom.specs.declared.EepromMode.{EepromMode}
use Rattle.eeprom.specs.declared.EepromMode.TheVariants.{Idle, Addr, Read, Write, SendAck, WaitAck, ChipAddr}
use Rattle.eeprom.specs.declared.Eeprom.{Eeprom}
use Rattle.eeprom.specs.Eeprom.{size, new_eeprom}
use Rattle.eeprom_valid.specs.Valid.{valid_eeprom, valid_chip}
use Rattle.bandai_fcg.specs.declared.barcode_reader.BarcodeReader.{BarcodeReader}
use Rattle.bandai_fcg.specs.declared.board.Board.{Board}
use Rattle.cart.specs.Cart.{cart_refusal, has_reader, has_standard, is_x24_c02, has_extra}
use Rattle.bandai_fcg.specs.Reader.{new_reader}
use Rattle.bandai_fcg.specs.Typed.{TypedBoard}
use Rattle.validity.specs.Valid.{clock_limit, valid_regs, valid_reader, is_blank_reader, is_x24_c01, is_idle, is_blank_chip, reader_fits, standard_fits, extra_fits, valid_board}

-- the lengths of the modules and the memories, which every board in a machine's memory has
pub record Sized (b : Board) : Type 0 where
  pub modules : length b.modules ≡ 160
  pub standard : length b.standard_rom ≡ 256
  pub extra : length b.extra_rom ≡ 256

pub typed_sized : (b : Board) → TypedBoard b → Sized b
typed_sized b t =
    record {
      modules = t.modules.long;
      standard = t.standard.memory.long;
      extra = t.extra.memory.long;
    }

not_true : (p : Bool) → not p ≡ true → p ≡ false
not_true true h = sym h
not_true false h = refl

-- the reader
pub record ReaderFacts (b : Board) : Type 0 where
  pub has : b.bandai.has_barcode_reader ≡ has_reader b.bandai.cart
  pub count : b.bandai.barcode_reader.module_count ≤ 160
  pub digits : b.bandai.barcode_reader.new_barcode_digit_count < 256
  pub zeros : zeros_from b.bandai.barcode_reader.module_count b.modules ≡ true
  pub absent : has_reader b.bandai.cart ≡ false → b.bandai.barcode_reader ≡ new_reader

blank_reader : (r : BarcodeReader) → is_blank_reader r ≡ true → r ≡ new_reader
blank_reader r h =
    let p4 = both_true _ (eqb r.module_count 0) h in
    let p3 = both_true _ (eqb r.new_barcode_digit_count 0) p4.0 in
    let p2 = both_true _ (eqb r.new_barcode 0) p3.0 in
    let p1 = both_true (eqb r.master_clock 0) (eqb r.insert_cycle 0) p2.0 in
    let e : ◌≡◌ {A = BarcodeReader} (record { master_clock = r.master_clock; insert_cycle = r.insert_cycle; new_barcode = r.new_barcode; new_barcode_digit_count = r.new_barcode_digit_count; module_count = r.module_count }) new_reader =
    rw (eqb-true r.master_clock 0 p1.0, eqb-true r.insert_cycle 0 p1.1, eqb-true r.new_barcode 0 p2.1, eqb-true r.new_barcode_digit_count 0 p3.1, eqb-true r.module_count 0 p4.1) refl in
    e

reader_facts : (b : Board) → reader_fits b ≡ true → ReaderFacts b
unfolding reader_fits
reader_facts b h = go (has_reader b.bandai.cart) refl h
  where
    go : (t : Bool) → has_reader b.bandai.cart ≡ t →
        pick t (b.bandai.has_barcode_reader && valid_reader b.bandai.barcode_reader && every is_module b.modules && zeros_from b.bandai.barcode_reader.module_count b.modules) (not b.bandai.has_barcode_reader && is_blank_reader b.bandai.barcode_reader && zeros_from 0 b.modules) ≡ true → ReaderFacts b
    go true e k =
        let p3 = both_true _ (zeros_from b.bandai.barcode_reader.module_count b.modules) k in
        let p2 = both_true _ (every is_module b.modules) p3.0 in
        let p1 = both_true b.bandai.has_barcode_reader (valid_reader b.bandai.barcode_reader) p2.0 in
        let q2 = both_true (leb b.bandai.barcode_reader.insert_cycle b.bandai.barcode_reader.master_clock && leb b.bandai.barcode_reader.master_clock clock_limit && leb b.bandai.barcode_reader.new_barcode_digit_count 20) (leb b.bandai.barcode_reader.module_count 160) p1.1 in
        let q1 = both_true (leb b.bandai.barcode_reader.insert_cycle b.bandai.barcode_reader.master_clock && leb b.bandai.barcode_reader.master_clock clock_limit) (leb b.bandai.barcode_reader.new_barcode_digit_count 20) q2.0 in
        record {
          has = p1.0 ∙ sym e;
          count = leb-true _ _ q2.1;
          digits = let n : b.bandai.barcode_reader.new_barcode_digit_count ≤ 20 = leb-true _ _ q1.1 in omega arith;
          zeros = p3.1;
          absent = λ f. absurd (never_both _ e f);
        }
    go false e k =
        let p2 = both_true _ (zeros_from 0 b.modules) k in
        let p1 = both_true (not b.bandai.has_barcode_reader) (is_blank_reader b.bandai.barcode_reader) p2.0 in
        let z : b.bandai.barcode_reader ≡ new_reader = blank_reader b.bandai.barcode_reader p1.1 in
        let n : b.bandai.barcode_reader.module_count ≡ 0 = ap (λ (x : BarcodeReader). x.module_count) z in
        let d : b.bandai.barcode_reader.new_barcode_digit_count ≡ 0 = ap (λ (x : BarcodeReader). x.new_barcode_digit_count) z in
        record {
          has = not_true _ p1.0 ∙ sym e;
          count = omega arith;
          digits = omega arith;
          zeros = rw n p2.1;
          absent = λ f. z;
        }

-- a chip, where it is to be fitted as `fitted` says and of a model that passes the test `ok`
pub record ChipFacts (fitted has ok : Bool) (s : Eeprom) (rom : List ℕ) : Type 0 where
  pub has_is : has ≡ fitted
  pub model : fitted ≡ true → ok ≡ true
  pub zeros : fitted ≡ true → zeros_from (size s.model) rom ≡ true
  pub absent : fitted ≡ false → s ≡ new_eeprom X24C01
  pub absent_rom : fitted ≡ false → zeros_from 0 rom ≡ true

is_x24c01 : (m : EepromModel) → is_x24_c01 m ≡ true → m ≡ X24C01
is_x24c01 X24C01 h = refl
is_x24c01 X24C02 h = cc

is_idle_lem : (k : EepromMode) → is_idle k ≡ true → k ≡ Idle
is_idle_lem Idle h = refl
is_idle_lem Addr h = cc
is_idle_lem Read h = cc
is_idle_lem Write h = cc
is_idle_lem SendAck h = cc
is_idle_lem WaitAck h = cc
is_idle_lem ChipAddr h = cc

blank_chip : (s : Eeprom) → is_blank_chip s ≡ true → s ≡ new_eeprom X24C01
unfolding new_eeprom
blank_chip s h =
    let p9 = both_true _ (eqb s.prev_sda 0) h in
    let p8 = both_true _ (eqb s.prev_scl 0) p9.0 in
    let p7 = both_true _ (eqb s.output 0) p8.0 in
    let p6 = both_true _ (eqb s.counter 0) p7.0 in
    let p5 = both_true _ (eqb s.«data» 0) p6.0 in
    let p4 = both_true _ (eqb s.addr 0) p5.0 in
    let p3 = both_true _ (eqb s.chip_addr 0) p4.0 in
    let p2 = both_true _ (is_idle s.next_mode) p3.0 in
    let p1 = both_true (is_x24_c01 s.model) (is_idle s.mode) p2.0 in
    let e : ◌≡◌ {A = Eeprom} (record { model = s.model; mode = s.mode; next_mode = s.next_mode; chip_addr = s.chip_addr; addr = s.addr; «data» = s.«data»; counter = s.counter; output = s.output; prev_scl = s.prev_scl; prev_sda = s.prev_sda }) (new_eeprom X24C01) =
    rw (
      is_x24c01 s.model p1.0,
      is_idle_lem s.mode p1.1,
      is_idle_lem s.next_mode p2.1,
      eqb-true s.chip_addr 0 p3.1,
      eqb-true s.addr 0 p4.1,
      eqb-true s.«data» 0 p5.1,
      eqb-true s.counter 0 p6.1,
      eqb-true s.output 0 p7.1,
      eqb-true s.prev_scl 0 p8.1,
      eqb-true s.prev_sda 0 p9.1,
    ) refl in
    e

chip_facts : (fitted has ok : Bool) (s : Eeprom) (rom : List ℕ) →
    pick fitted (has && ok && valid_eeprom s rom) (not has && is_blank_chip s && zeros_from 0 rom) ≡ true → ChipFacts fitted has ok s rom
unfolding valid_eeprom
chip_facts true has ok s rom h =
    let p2 = both_true (has && ok) (valid_eeprom s rom) h in
    let p1 = both_true has ok p2.0 in
    let z = both_true (valid_chip s) (zeros_from (size s.model) rom) p2.1 in
    record { has_is = p1.0; model = λ f. p1.1; zeros = λ f. z.1; absent = λ f. absurd (never_both true refl f); absent_rom = λ f. absurd (never_both true refl f) }
chip_facts false has ok s rom h =
    let p2 = both_true (not has && is_blank_chip s) (zeros_from 0 rom) h in
    let p1 = both_true (not has) (is_blank_chip s) p2.0 in
    record { has_is = not_true has p1.0; model = λ f. absurd (never_both false f refl); zeros = λ f. absurd (never_both false f refl); absent = λ f. blank_chip s p1.1; absent_rom = λ f. p2.1 }

abbrev pub standard_ok : Board → Bool
standard_ok b = pick (is_x24_c02 b.bandai.cart) (not (is_x24_c01 b.bandai.standard_eeprom.model)) (is_x24_c01 b.bandai.standard_eeprom.model)

-- the parts of a valid board
module _ (b : Board) (v : valid_board b ≡ true) where
  fits : (reader_fits b ≡ true) × ((standard_fits b ≡ true) × (extra_fits b ≡ true))
  unfolding valid_board
  fits =
      let p3 = both_true _ (extra_fits b) v in
      let p2 = both_true _ (standard_fits b) p3.0 in
      let p1 = both_true (eqb (cart_refusal b.bandai.cart) 0 && valid_regs b.bandai.regs) (reader_fits b) p2.0 in
      (p1.1, (p2.1, p3.1))

  pub valid_reader_lem : ReaderFacts b
  valid_reader_lem = reader_facts b fits.0

  pub valid_standard : ChipFacts (has_standard b.bandai.cart) b.bandai.has_standard_eeprom (standard_ok b) b.bandai.standard_eeprom b.standard_rom
  unfolding standard_fits
  valid_standard = chip_facts (has_standard b.bandai.cart) b.bandai.has_standard_eeprom (standard_ok b) b.bandai.standard_eeprom b.standard_rom fits.1.0

  pub valid_extra : ChipFacts (has_extra b.bandai.cart) b.bandai.has_extra_eeprom (is_x24_c01 b.bandai.extra_eeprom.model) b.bandai.extra_eeprom b.extra_rom
  unfolding extra_fits
  valid_extra = chip_facts (has_extra b.bandai.cart) b.bandai.has_extra_eeprom (is_x24_c01 b.bandai.extra_eeprom.model) b.bandai.extra_eeprom b.extra_rom fits.1.1

  -- the extra chip has 128 bytes, where it is fitted
  pub valid_extra_model : has_extra b.bandai.cart ≡ true → b.bandai.extra_eeprom.model ≡ X24C01
  valid_extra_model h = is_x24c01 b.bandai.extra_eeprom.model (valid_extra.model h)
