-- WITHOUT AN X24C02 THE RULE REACHES NOTHING: on a valid board without one, setting the rule before a record or after it gives the same board, and
-- the record has the same answer. TO READ: `no_x24c02_no_rule`, at the end; `rule_set` and `own_rule` hold `with_rule` to its name.
-- Assumes nothing.
use Prim.Native.Nat.{ℕ, zero, suc, ◌/◌, ◌%◌}
use Rattle.std.specs.Prelude.{◌≡◌, Bool, ◌&&◌, eqb}
use Rattle.std.proofs.Math.Path.{refl, ap}
use Rattle.std.proofs.Common.{sym, ◌∙◌}
use Rattle.std.proofs.Math.Bool.{true, false, not}
use Rattle.std.proofs.Math.Dec.{leb}
use Rattle.laws.specs.Choice.{pick}
use Rattle.eeprom_bits.specs.Bits.{rule_of}
use Rattle.eeprom.specs.declared.EepromModel.{EepromModel}
use Rattle.eeprom.specs.declared.EepromModel.TheVariants.{X24C01, X24C02}
use Rattle.eeprom.specs.Eeprom.{eeprom_after, rom_after}
use Rattle.eeprom.proofs.EepromLaws.{x24c01_no_rule}
use Rattle.cart.specs.Cart.{is_mapper, is_datach, is_x24_c02, cart_rule, may_write}
use Rattle.regs.specs.Regs.{write_regs, tick_regs}
use Rattle.bandai_fcg.specs.Reader.{tick_reader}
use Rattle.bandai_fcg.specs.declared.board.BandaiFCG.{BandaiFCG}
use Rattle.bandai_fcg.specs.declared.board.Board.{Board}
use Rattle.bandai_fcg.specs.BoardSet.{with_regs, with_reader, with_bandai, with_standard, with_extra}
use Rattle.bandai_fcg.specs.Board.{standard_write, extra_write, sda_write, eeprom_ctrl, write_chips, takes_write, write_register, tick, ticks, with_input, init_of, module_read_of, peek_of}
use Rattle.validity.specs.Valid.{is_x24_c01, valid_board}
use Rattle.validity.specs.ValidLaws.{valid_parts, standard_on, extra_on}
use Rattle.event.specs.declared.Event.{Event}
use Rattle.event.specs.Event.{refusal_of, lines_applied, applied, peeked_by, flags_of, after_of, answer_of}
use Rattle.board_rule.specs.WithRule.{ruled_state, with_rule}

-- the rule is what is set, and nothing else is
pub rule_set : (n : ℕ) (b : Board) → (with_rule n b).bandai.cart.eeprom_rule ≡ n
rule_set n b = refl

pub own_rule : (b : Board) → with_rule b.bandai.cart.eeprom_rule b ≡ b
own_rule b = refl

-- each chip that is fitted is an X24C01
pub record NoX24C02 (b : Board) : Type 0 where
  pub standard : b.bandai.has_standard_eeprom ≡ true → b.bandai.standard_eeprom.model ≡ X24C01
  pub extra : b.bandai.has_extra_eeprom ≡ true → b.bandai.extra_eeprom.model ≡ X24C01

module _ (n : ℕ) where
  -- a choice between boards
  chosen : (t : Bool) (x y x' y' : Board) → x ≡ with_rule n x' → y ≡ with_rule n y' → pick t x y ≡ with_rule n (pick t x' y')
  chosen true x y x' y' e f = e
  chosen false x y x' y' e f = f

  -- LINES of a chip
  standard_same : (b : Board) (scl sda : ℕ) → (b.bandai.has_standard_eeprom ≡ true → b.bandai.standard_eeprom.model ≡ X24C01) → standard_write scl sda (with_rule n b) ≡ with_rule n (standard_write scl sda b)
  unfolding standard_write eeprom_after
  standard_same b scl sda k = go b.bandai.has_standard_eeprom refl
    where
      go : (t : Bool) → b.bandai.has_standard_eeprom ≡ t →
          pick t (with_standard (eeprom_after (rule_of n) b.bandai.standard_eeprom b.standard_rom scl sda) (rom_after b.bandai.standard_eeprom b.standard_rom scl sda) (with_rule n b)) (with_rule n b)
          ≡ with_rule n (pick t (with_standard (eeprom_after (cart_rule b.bandai.cart) b.bandai.standard_eeprom b.standard_rom scl sda) (rom_after b.bandai.standard_eeprom b.standard_rom scl sda) b) b)
      go true h =
          rw (x24c01_no_rule (rule_of n) b.bandai.standard_eeprom _ scl sda (k h), x24c01_no_rule (cart_rule b.bandai.cart) b.bandai.standard_eeprom _ scl sda (k h)) refl
      go false h = refl

  extra_same : (b : Board) (scl sda : ℕ) → (b.bandai.has_extra_eeprom ≡ true → b.bandai.extra_eeprom.model ≡ X24C01) → extra_write scl sda (with_rule n b) ≡ with_rule n (extra_write scl sda b)
  unfolding extra_write eeprom_after
  extra_same b scl sda k = go b.bandai.has_extra_eeprom refl
    where
      go : (t : Bool) → b.bandai.has_extra_eeprom ≡ t →
          pick t (with_extra (eeprom_after (rule_of n) b.bandai.extra_eeprom b.extra_rom scl sda) (rom_after b.bandai.extra_eeprom b.extra_rom scl sda) (with_rule n b)) (with_rule n b)
          ≡ with_rule n (pick t (with_extra (eeprom_after (cart_rule b.bandai.cart) b.bandai.extra_eeprom b.extra_rom scl sda) (rom_after b.bandai.extra_eeprom b.extra_rom scl sda) b) b)
      go true h =
          rw (x24c01_no_rule (rule_of n) b.bandai.extra_eeprom _ scl sda (k h), x24c01_no_rule (cart_rule b.bandai.cart) b.bandai.extra_eeprom _ scl sda (k h)) refl
      go false h = refl

  -- lines of the standard chip leave the extra one
  extra_kept : (b : Board) (scl sda : ℕ) →
      ((standard_write scl sda b).bandai.extra_eeprom ≡ b.bandai.extra_eeprom) × ((standard_write scl sda b).bandai.has_extra_eeprom ≡ b.bandai.has_extra_eeprom)
  unfolding standard_write
  extra_kept b scl sda = go b.bandai.has_standard_eeprom
    where
      go : (t : Bool) →
          ((pick t (with_standard (eeprom_after (cart_rule b.bandai.cart) b.bandai.standard_eeprom b.standard_rom scl sda) (rom_after b.bandai.standard_eeprom b.standard_rom scl sda) b) b).bandai.extra_eeprom ≡ b.bandai.extra_eeprom)
          × ((pick t (with_standard (eeprom_after (cart_rule b.bandai.cart) b.bandai.standard_eeprom b.standard_rom scl sda) (rom_after b.bandai.standard_eeprom b.standard_rom scl sda) b) b).bandai.has_extra_eeprom ≡ b.bandai.has_extra_eeprom)
      go true = (refl, refl)
      go false = (refl, refl)

  -- A REGISTER WRITE
  ctrl_same : (b : Board) (val : ℕ) → NoX24C02 b → eeprom_ctrl val (with_rule n b) ≡ with_rule n (eeprom_ctrl val b)
  ctrl_same b val k =
      let after = standard_write (val / 32 % 2) (val / 64 % 2) b in
      let kept = extra_kept b (val / 32 % 2) (val / 64 % 2) in
      ap (sda_write (val / 64 % 2)) (standard_same b (val / 32 % 2) (val / 64 % 2) k.standard)
      ∙ extra_same after after.bandai.extra_eeprom.prev_scl (val / 64 % 2) (λ h. rw kept.0 (k.extra (sym kept.1 ∙ h)))

  chips_same : (k val : ℕ) (b : Board) → NoX24C02 b → write_chips k val (with_rule n b) ≡ with_rule n (write_chips k val b)
  unfolding write_chips
  chips_same k val b o =
      chosen (is_datach b.bandai.cart && leb k 3) _ _ _ _ (extra_same b (val / 8 % 2) b.bandai.extra_eeprom.prev_sda o.extra)
      (chosen (eqb k 13 && not (is_mapper 153 b.bandai.cart) && may_write b.bandai.cart) _ _ _ _ (ctrl_same b val o) refl)

  write_same : (addr val : ℕ) (b : Board) → NoX24C02 b → write_register addr val (with_rule n b) ≡ with_rule n (write_register addr val b)
  unfolding write_register write_regs
  write_same addr val b o =
      chosen (takes_write addr b.bandai) _ _ _ _
      (chips_same (addr % 16) val (with_bandai (with_regs (write_regs b.bandai.cart (addr % 16) val b.bandai.regs) b.bandai) b) (record { standard = o.standard; extra = o.extra }))
      refl

  -- CLOCKS
  tick_same : (s : BandaiFCG) → tick (ruled_state n s) ≡ ruled_state n (tick s)
  unfolding tick
  tick_same s = go s.has_barcode_reader
    where
      go : (t : Bool) →
          pick t (with_reader (tick_reader s.barcode_reader) (with_regs (tick_regs s.regs) (ruled_state n s))) (with_regs (tick_regs s.regs) (ruled_state n s))
          ≡ ruled_state n (pick t (with_reader (tick_reader s.barcode_reader) (with_regs (tick_regs s.regs) s)) (with_regs (tick_regs s.regs) s))
      go true = refl
      go false = refl

  ticks_same : (m : ℕ) (s : BandaiFCG) → ticks m (ruled_state n s) ≡ ruled_state n (ticks m s)
  unfolding ticks
  ticks_same zero s = refl
  ticks_same (suc m) s = ap (ticks m) (tick_same s) ∙ ticks_same m (tick s)

  -- A RECORD
  lines_same : (e : Event) (b : Board) → NoX24C02 b → lines_applied e (with_rule n b) ≡ with_rule n (lines_applied e b)
  lines_same e b o = chosen (eqb e.chip 0) _ _ _ _ (standard_same b e.scl e.sda o.standard) (extra_same b e.scl e.sda o.extra)

  input_same : (number digits : ℕ) (b : Board) → with_bandai (with_input number digits (ruled_state n b.bandai)) b ≡ with_rule n (with_bandai (with_input number digits b.bandai) b)
  unfolding with_input
  input_same number digits b = refl

  init_same : (b : Board) → init_of (with_rule n b) ≡ with_rule n (init_of b)
  unfolding init_of
  init_same b = refl

  -- what each of the kinds does, told once
  kinds_same : (t0 t2 t3 t4 t5 : Bool) (x0 x2 x3 x4 x5 x y0 y2 y3 y4 y5 y : Board) →
      x0 ≡ with_rule n y0 → x2 ≡ with_rule n y2 → x3 ≡ with_rule n y3 → x4 ≡ with_rule n y4 → x5 ≡ with_rule n y5 → x ≡ with_rule n y →
      pick t0 x0 (pick t2 x2 (pick t3 x3 (pick t4 x4 (pick t5 x5 x)))) ≡ with_rule n (pick t0 y0 (pick t2 y2 (pick t3 y3 (pick t4 y4 (pick t5 y5 y)))))
  kinds_same t0 t2 t3 t4 t5 x0 x2 x3 x4 x5 x y0 y2 y3 y4 y5 y e0 e2 e3 e4 e5 e =
      chosen t0 x0 (pick t2 x2 (pick t3 x3 (pick t4 x4 (pick t5 x5 x)))) y0 (pick t2 y2 (pick t3 y3 (pick t4 y4 (pick t5 y5 y)))) e0
      (chosen t2 x2 (pick t3 x3 (pick t4 x4 (pick t5 x5 x))) y2 (pick t3 y3 (pick t4 y4 (pick t5 y5 y))) e2
      (chosen t3 x3 (pick t4 x4 (pick t5 x5 x)) y3 (pick t4 y4 (pick t5 y5 y)) e3
      (chosen t4 x4 (pick t5 x5 x) y4 (pick t5 y5 y) e4
      (chosen t5 x5 x y5 y e5 e))))

  applied_same : (e : Event) (b : Board) → NoX24C02 b → applied e (with_rule n b) ≡ with_rule n (applied e b)
  unfolding applied
  applied_same e b o =
      kinds_same (eqb e.kind 0) (eqb e.kind 2) (eqb e.kind 3) (eqb e.kind 4) (eqb e.kind 5)
      (write_register e.address e.value (with_rule n b))
      (with_bandai (ticks e.count (ruled_state n b.bandai)) b)
      (with_bandai (with_input e.number e.count (ruled_state n b.bandai)) b)
      (init_of (with_rule n b)) (lines_applied e (with_rule n b)) (with_rule n b)
      (write_register e.address e.value b)
      (with_bandai (ticks e.count b.bandai) b)
      (with_bandai (with_input e.number e.count b.bandai) b)
      (init_of b) (lines_applied e b) b
      (write_same e.address e.value b o)
      (ap (λ (s : BandaiFCG). with_bandai s b) (ticks_same e.count b.bandai))
      (input_same e.number e.count b) (init_same b) (lines_same e b o) refl

  after_same : (e : Event) (b : Board) → NoX24C02 b → after_of e (with_rule n b) ≡ with_rule n (after_of e b)
  unfolding after_of refusal_of
  after_same e b o = chosen (eqb (refusal_of e b.bandai) 0) _ _ _ _ (applied_same e b o) refl

  answer_same : (e : Event) (b : Board) → NoX24C02 b → answer_of e (with_rule n b) ≡ answer_of e b
  unfolding answer_of refusal_of peeked_by peek_of module_read_of
  answer_same e b o =
      ap (λ (x : Board).
      pick (eqb (refusal_of e b.bandai) 0) (record { refusal = 0; flags = flags_of (peeked_by e b).answered x.bandai.regs.irq_pending; value = (peeked_by e b).value })
      (record { refusal = refusal_of e b.bandai; flags = flags_of false b.bandai.regs.irq_pending; value = 0 })) (applied_same e b o)

-- A VALID BOARD whose description gives it no X24C02
is_x24c01 : (m : EepromModel) → is_x24_c01 m ≡ true → m ≡ X24C01
is_x24c01 X24C01 h = refl
is_x24c01 X24C02 h = cc

pub none_fitted : (b : Board) → valid_board b ≡ true → is_x24_c02 b.bandai.cart ≡ false → NoX24C02 b
none_fitted b v none =
    let p = valid_parts b v in
    record {
      standard = λ h. is_x24c01 b.bandai.standard_eeprom.model (rw none at (standard_on b p.standard h).model);
      extra = λ h. is_x24c01 b.bandai.extra_eeprom.model (extra_on b p.extra h).model;
    }

-- THE RULE REACHES NOTHING there: set before a record or after it, it gives the same board; and the answer is the same
pub record NoRule (n : ℕ) (e : Event) (b : Board) : Type 0 where
  pub board : after_of e (with_rule n b) ≡ with_rule n (after_of e b)
  pub answer : answer_of e (with_rule n b) ≡ answer_of e b

pub no_x24c02_no_rule : (b : Board) → valid_board b ≡ true → is_x24_c02 b.bandai.cart ≡ false → (n : ℕ) (e : Event) → NoRule n e b
no_x24c02_no_rule b v none n e = let o = none_fitted b v none in record { board = after_same n e b o; answer = answer_same n e b o }
