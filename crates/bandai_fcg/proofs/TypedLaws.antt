-- Laws of types: a fresh board fits the machine's types, and every method keeps that. Each method is code as well, whose types say the
-- same; the laws are for the definitions.
-- Assumes nothing.
use Rattle.std.specs.Prelude.{ℕ, zero, suc, ◌/◌, ◌%◌, ◌^◌, ◌<◌, Bool, not, ◌&&◌, List, ◌==◌, nat_le, nat_lt}
use Rattle.std.proofs.Common.{arith}
use Rattle.laws.specs.Choice.{pick}
use Rattle.laws.proofs.ChoiceLaws.{pick_all}
use Rattle.laws.specs.Lists.{every}
use Rattle.laws.proofs.ListsLaws.{bytes_blank, bytes_set}
use Rattle.digits.specs.Digits.{digits_of}
use Rattle.barcode.proofs.BarcodeLaws.{modules_shown_lem}
use Rattle.eeprom.specs.declared.EepromModel.TheVariants.{X24C01}
use Rattle.eeprom.proofs.EepromLaws.{typed_new, typed_after}
use Rattle.bandai_fcg.specs.declared.barcode_reader.BarcodeReader.{BarcodeReader}
use Rattle.cart.specs.declared.Cart.{Cart}
use Rattle.regs.specs.declared.Regs.{Regs}
use Rattle.bandai_fcg.specs.declared.board.BandaiFCG.{BandaiFCG}
use Rattle.bandai_fcg.specs.declared.board.Board.{Board}
use Rattle.cart.specs.CartWords.{TypedCart}
use Rattle.cart.specs.Cart.{is_mapper, is_datach, cart_rule, may_write, has_latch, supplies_prg_bank, banks_chr}
use Rattle.regs.specs.RegsWords.{TypedRegs}
use Rattle.regs.specs.RegsSet.{with_interrupt}
use Rattle.regs.specs.Regs.{even, prg_bank_select, low_byte, high_byte, write_regs, tick_regs}
use Rattle.bandai_fcg.specs.BoardSet.{with_regs, with_reader, with_bandai}
use Rattle.bandai_fcg.specs.Board.{standard_model, fitted_state, fitted, standard_write, extra_write, write_chips, takes_write, write_register, tick, ticks, with_input, init_of}
use Rattle.bandai_fcg.specs.Typed.{TypedReader, TypedBoard}

pub fresh_typed : (c : Cart) → TypedCart c → TypedBoard (fitted c)
unfolding fitted fitted_state
fresh_typed c t =
    record {
      cart = t;
      regs = record { irq_counter = omega arith; irq_reload = omega arith; prg_page = omega arith; prg_bank_select = omega arith; mirroring = t.1.1.1.0; chr_regs = bytes_blank 8; chr_banks = bytes_blank 8 };
      reader = record { master_clock = omega arith; insert_cycle = omega arith; new_barcode = omega arith; new_barcode_digit_count = omega arith; module_count = omega arith };
      standard = typed_new (standard_model c);
      extra = typed_new X24C01;
      modules = bytes_blank 160;
    }

-- THE REGISTERS
select_byte : (l : List ℕ) → prg_bank_select l < 256
unfolding prg_bank_select
select_byte l = pick_all (λ (n : ℕ). n < 256) (every even l) 0 16 (λ _. omega arith) (λ _. omega arith)

low_fits : (word val : ℕ) → word < 2 ^ 16 → val < 256 → low_byte word val < 2 ^ 16
low_fits word val h k = omega arith

high_fits : (word val : ℕ) → val < 256 → high_byte word val < 2 ^ 16
high_fits word val k = omega arith

-- the interrupt set anew; the flags have no width
irq_typed : (r : Regs) → TypedRegs r → (counter reload : ℕ) (on pending : Bool) → counter < 2 ^ 16 → reload < 2 ^ 16 → TypedRegs (with_interrupt counter reload on pending r)
irq_typed r t counter reload on pending f g =
    record { irq_counter = f; irq_reload = g; prg_page = t.prg_page; prg_bank_select = t.prg_bank_select; mirroring = t.mirroring; chr_regs = t.chr_regs; chr_banks = t.chr_banks }

pub write_regs_typed : (c : Cart) (k val : ℕ) (r : Regs) → val < 256 → TypedRegs r → TypedRegs (write_regs c k val r)
unfolding write_regs
write_regs_typed c k val r h t =
    let chr = bytes_set 8 r.chr_regs (k % 8) val t.chr_regs h in
    let irq = irq_typed r t in
    pick_all TypedRegs (nat_lt k 8) _ _
    (λ _. pick_all TypedRegs (supplies_prg_bank c) _ _
    (λ _. record { irq_counter = t.irq_counter; irq_reload = t.irq_reload; prg_page = t.prg_page; prg_bank_select = select_byte _; mirroring = t.mirroring; chr_regs = chr; chr_banks = t.chr_banks })
    (λ _. pick_all TypedRegs (banks_chr c) _ _
    (λ _. record { irq_counter = t.irq_counter; irq_reload = t.irq_reload; prg_page = t.prg_page; prg_bank_select = t.prg_bank_select; mirroring = t.mirroring; chr_regs = chr; chr_banks = bytes_set 8 r.chr_banks (k % 8) val t.chr_banks h })
    (λ _. record { irq_counter = t.irq_counter; irq_reload = t.irq_reload; prg_page = t.prg_page; prg_bank_select = t.prg_bank_select; mirroring = t.mirroring; chr_regs = chr; chr_banks = t.chr_banks })))
    (λ _. pick_all TypedRegs (k == 8) _ _
    (λ _. record { irq_counter = t.irq_counter; irq_reload = t.irq_reload; prg_page = omega arith; prg_bank_select = t.prg_bank_select; mirroring = t.mirroring; chr_regs = t.chr_regs; chr_banks = t.chr_banks })
    (λ _. pick_all TypedRegs (k == 9) _ _
    (λ _. record { irq_counter = t.irq_counter; irq_reload = t.irq_reload; prg_page = t.prg_page; prg_bank_select = t.prg_bank_select; mirroring = omega arith; chr_regs = t.chr_regs; chr_banks = t.chr_banks })
    (λ _. pick_all TypedRegs (k == 10) _ _
    (λ _. irq (pick (has_latch c) r.irq_reload r.irq_counter) _ _ _ (pick_all (λ (n : ℕ). n < 2 ^ 16) (has_latch c) _ _ (λ _. t.irq_reload) (λ _. t.irq_counter)) t.irq_reload)
    (λ _. pick_all TypedRegs (k == 11) _ _
    (λ _. pick_all TypedRegs (has_latch c) _ _ (λ _. irq _ _ _ _ t.irq_counter (low_fits _ _ t.irq_reload h)) (λ _. irq _ _ _ _ (low_fits _ _ t.irq_counter h) t.irq_reload))
    (λ _. pick_all TypedRegs (k == 12) _ _
    (λ _. pick_all TypedRegs (has_latch c) _ _ (λ _. irq _ _ _ _ t.irq_counter (high_fits r.irq_reload _ h)) (λ _. irq _ _ _ _ (high_fits r.irq_counter _ h) t.irq_reload))
    (λ _. pick_all TypedRegs (k == 13) _ _
    (λ _. pick_all TypedRegs (is_mapper 153 c) _ _ (λ _. record { irq_counter = t.irq_counter; irq_reload = t.irq_reload; prg_page = t.prg_page; prg_bank_select = t.prg_bank_select; mirroring = t.mirroring; chr_regs = t.chr_regs; chr_banks = t.chr_banks }) (λ _. t))
    (λ _. t)))))))

tick_regs_typed : (r : Regs) → TypedRegs r → TypedRegs (tick_regs r)
unfolding tick_regs
tick_regs_typed r t =
    pick_all TypedRegs r.irq_enabled _ _
    (λ _. irq_typed r t _ _ _ _ (omega arith) t.irq_reload)
    (λ _. t)

-- THE BOARD
set_regs_typed : (b : Board) (r : Regs) → TypedBoard b → TypedRegs r → TypedBoard (with_bandai (with_regs r b.bandai) b)
set_regs_typed b r t h = record { cart = t.cart; regs = h; reader = t.reader; standard = t.standard; extra = t.extra; modules = t.modules }

set_reader_typed : (b : Board) (r : BarcodeReader) → TypedBoard b → TypedReader r → TypedBoard (with_bandai (with_reader r b.bandai) b)
set_reader_typed b r t h = record { cart = t.cart; regs = t.regs; reader = h; standard = t.standard; extra = t.extra; modules = t.modules }

pub standard_typed : (b : Board) (scl sda : ℕ) → scl < 256 → sda < 256 → TypedBoard b → TypedBoard (standard_write scl sda b)
unfolding standard_write
standard_typed b scl sda hc hd t =
    pick_all TypedBoard b.bandai.has_standard_eeprom _ _
    (λ _. record { cart = t.cart; regs = t.regs; reader = t.reader; standard = typed_after (cart_rule b.bandai.cart) _ _ scl sda hc hd t.standard; extra = t.extra; modules = t.modules })
    (λ _. t)

pub extra_typed : (b : Board) (scl sda : ℕ) → scl < 256 → sda < 256 → TypedBoard b → TypedBoard (extra_write scl sda b)
unfolding extra_write
extra_typed b scl sda hc hd t =
    pick_all TypedBoard b.bandai.has_extra_eeprom _ _
    (λ _. record { cart = t.cart; regs = t.regs; reader = t.reader; standard = t.standard; extra = typed_after (cart_rule b.bandai.cart) _ _ scl sda hc hd t.extra; modules = t.modules })
    (λ _. t)

chips_typed : (b : Board) (k val : ℕ) → TypedBoard b → TypedBoard (write_chips k val b)
unfolding write_chips
chips_typed b k val t =
    pick_all TypedBoard (is_datach b.bandai.cart && nat_le k 3) _ _ (λ _. extra_typed b _ _ (omega arith) t.extra.prev_sda t)
    (λ _. pick_all TypedBoard (k == 13 && not (is_mapper 153 b.bandai.cart) && may_write b.bandai.cart) _ _
    (λ _. let s = standard_typed b (val / 32 % 2) (val / 64 % 2) (omega arith) (omega arith) t in extra_typed _ _ _ s.extra.prev_scl (omega arith) s)
    (λ _. t))

pub write_typed : (b : Board) (addr val : ℕ) → val < 256 → TypedBoard b → TypedBoard (write_register addr val b)
unfolding write_register
write_typed b addr val h t =
    pick_all TypedBoard (takes_write addr b.bandai) _ _
    (λ _. chips_typed _ (addr % 16) val (set_regs_typed b _ t (write_regs_typed b.bandai.cart (addr % 16) val b.bandai.regs h t.regs)))
    (λ _. t)

tick_typed : (b : Board) → TypedBoard b → TypedBoard (with_bandai (tick b.bandai) b)
unfolding tick
tick_typed b t =
    let s = set_regs_typed b _ t (tick_regs_typed b.bandai.regs t.regs) in
    pick_all (λ (s : BandaiFCG). TypedBoard (with_bandai s b)) b.bandai.has_barcode_reader _ _
    (λ _. set_reader_typed _ _ s (record { master_clock = omega arith; insert_cycle = t.reader.insert_cycle; new_barcode = t.reader.new_barcode; new_barcode_digit_count = t.reader.new_barcode_digit_count; module_count = t.reader.module_count }))
    (λ _. s)

pub ticks_typed : (n : ℕ) (b : Board) → TypedBoard b → TypedBoard (with_bandai (ticks n b.bandai) b)
unfolding ticks
ticks_typed zero b t = t
ticks_typed (suc n) b t = ticks_typed n (with_bandai (tick b.bandai) b) (tick_typed b t)

pub input_typed : (b : Board) (number digits : ℕ) → number < 2 ^ 64 → digits < 2 ^ 32 → TypedBoard b → TypedBoard (with_bandai (with_input number digits b.bandai) b)
unfolding with_input
input_typed b number digits h k t =
    set_reader_typed b _ t (record { master_clock = t.reader.master_clock; insert_cycle = t.reader.insert_cycle; new_barcode = h; new_barcode_digit_count = k; module_count = t.reader.module_count })

pub init_typed : (b : Board) → TypedBoard b → TypedBoard (init_of b)
unfolding init_of
init_typed b t =
    let m = modules_shown_lem (digits_of b.bandai.barcode_reader.new_barcode b.bandai.barcode_reader.new_barcode_digit_count) in
    record {
      cart = t.cart;
      regs = t.regs;
      reader = record { master_clock = t.reader.master_clock; insert_cycle = t.reader.master_clock; new_barcode = t.reader.new_barcode; new_barcode_digit_count = t.reader.new_barcode_digit_count; module_count = omega (arith, m.counted) };
      standard = t.standard;
      extra = t.extra;
      modules = m.typed;
    }
