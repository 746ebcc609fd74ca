-- Laws of validity: a valid board by its parts, a fresh board is valid, and what each method keeps.
-- Assumes nothing.
use Rattle.std.specs.Prelude.{◌≡◌, refl, Bool, true, false, ◌&&◌, ◌||◌, not, List, ℕ, zero, suc, ◌%◌, eqb, leb, ltb}
use Rattle.std.proofs.Common.{◌∙◌, arith, eq-eqb, eqb-true, le-leb}
use Rattle.laws.specs.Choice.{pick}
use Rattle.laws.proofs.ChoiceLaws.{both_true, never_both, pick_all}
use Rattle.laws.specs.Lists.{every, zeros_from}
use Rattle.laws.proofs.ListsLaws.{every_blank, zeros_tail_blank}
use Rattle.barcode.specs.Barcode.{is_module}
use Rattle.eeprom.specs.declared.EepromModel.TheVariants.{X24C01, X24C02}
use Rattle.eeprom.specs.Eeprom.{new_eeprom}
use Rattle.eeprom_valid.specs.Valid.{valid_eeprom}
use Rattle.eeprom_valid.specs.ValidLaws.{valid_new}
use Rattle.cart.specs.declared.Cart.{Cart}
use Rattle.regs.specs.declared.Regs.{Regs}
use Rattle.bandai_fcg.specs.declared.board.Board.{Board}
use Rattle.cart.specs.Cart.{cart_refusal, mapper_listed, sizes_within, codes_listed, rule_listed, is_mapper, has_reader, has_standard, is_x24_c02, has_extra, has_latch, supplies_prg_bank, banks_chr}
use Rattle.regs.specs.RegsSet.{with_irq}
use Rattle.regs.specs.Regs.{step_down, even, prg_bank_select, write_regs, tick_regs, ticks_regs}
use Rattle.bandai_fcg.specs.BoardSet.{with_regs, with_bandai}
use Rattle.bandai_fcg.specs.Board.{fitted_state, fitted}
use Rattle.validity.specs.Valid.{valid_regs, valid_reader, is_blank_reader, is_x24_c01, is_blank_chip, reader_fits, standard_fits, extra_fits, valid_board}

-- a valid board by its parts
pub record Valid (b : Board) : Type 0 where
  pub cart : cart_refusal b.bandai.cart ≡ 0
  pub regs : valid_regs b.bandai.regs ≡ true
  pub reader : reader_fits b ≡ true
  pub standard : standard_fits b ≡ true
  pub extra : extra_fits b ≡ true

pub valid_parts : (b : Board) → valid_board b ≡ true → Valid b
unfolding valid_board
valid_parts b h =
    let e = both_true _ (extra_fits b) h in
    let d = both_true _ (standard_fits b) e.0 in
    let c = both_true _ (reader_fits b) d.0 in
    let a = both_true (eqb (cart_refusal b.bandai.cart) 0) (valid_regs b.bandai.regs) c.0 in
    record { cart = eqb-true _ 0 a.0; regs = a.1; reader = c.1; standard = d.1; extra = e.1 }

pub parts_valid : (b : Board) → Valid b → valid_board b ≡ true
unfolding valid_board
parts_valid b v = rw (eq-eqb _ 0 v.cart, v.regs, v.reader, v.standard, v.extra) refl

-- A FRESH BOARD IS VALID
fresh_reader : (c : Cart) (has : Bool) → has_reader c ≡ has → reader_fits (fitted c) ≡ true
unfolding reader_fits fitted fitted_state
fresh_reader c true e = rw (e, every_blank is_module 160 refl, zeros_tail_blank 0 160) refl
fresh_reader c false e = rw (e, zeros_tail_blank 0 160) refl

fresh_standard : (c : Cart) (has two : Bool) → has_standard c ≡ has → is_x24_c02 c ≡ two → standard_fits (fitted c) ≡ true
unfolding standard_fits fitted fitted_state new_eeprom
fresh_standard c true true e t = rw (t, e, valid_new X24C02) refl
fresh_standard c true false e t = rw (t, e, valid_new X24C01) refl
fresh_standard c false true e t = absurd (never_both (is_x24_c02 c) t (rw e refl))
fresh_standard c false false e t = rw (e, zeros_tail_blank 0 256) refl

fresh_extra : (c : Cart) (has : Bool) → has_extra c ≡ has → extra_fits (fitted c) ≡ true
unfolding extra_fits fitted fitted_state new_eeprom
fresh_extra c true e = rw (e, valid_new X24C01) refl
fresh_extra c false e = rw (e, zeros_tail_blank 0 256) refl

-- a cart that is not refused has listed codes, a listed rule, and sizes within the limit
pub record Listed (c : Cart) : Type 0 where
  pub sizes : sizes_within c ≡ true
  pub codes : codes_listed c ≡ true
  pub rule : rule_listed c ≡ true

pub cart_listed : (c : Cart) → cart_refusal c ≡ 0 → Listed c
unfolding cart_refusal
cart_listed c h = go (mapper_listed c) (sizes_within c) (codes_listed c) (rule_listed c) refl refl refl h
  where
    go : (m s k r : Bool) → sizes_within c ≡ s → codes_listed c ≡ k → rule_listed c ≡ r → ◌≡◌ {A = ℕ} (pick m (pick s (pick k (pick r 0 17) 3) 2) 1) 0 → Listed c
    go true true true true d e f z = record { sizes = d; codes = e; rule = f }
    go true true true false d e f z = absurd (omega arith)
    go true true false r d e f z = absurd (omega arith)
    go true false k r d e f z = absurd (omega arith)
    go false s k r d e f z = absurd (omega arith)

fresh_regs : (c : Cart) → cart_refusal c ≡ 0 → valid_regs (fitted c).bandai.regs ≡ true
unfolding fitted fitted_state
fresh_regs c h = (both_true (leb c.nes2 1) (leb c.mirroring 4) (both_true _ (leb c.sram_access 4) (cart_listed c h).codes).0).1

fresh_cart : (c : Cart) → (fitted c).bandai.cart ≡ c
unfolding fitted fitted_state
fresh_cart c = refl

pub fresh_valid : (c : Cart) → cart_refusal c ≡ 0 → valid_board (fitted c) ≡ true
fresh_valid c h =
    parts_valid (fitted c)
    (record { cart = rw (fresh_cart c) h; regs = fresh_regs c h; reader = fresh_reader c _ refl; standard = fresh_standard c _ _ refl refl; extra = fresh_extra c _ refl })

-- WHAT THE REGISTERS KEEP
tick_regs_lem : (r : Regs) → valid_regs (tick_regs r) ≡ valid_regs r
unfolding tick_regs
tick_regs_lem r = go r.irq_enabled
  where
    go : (on : Bool) → valid_regs (pick on (with_irq (step_down r.irq_counter 1) (r.irq_pending || eqb r.irq_counter 0) r) r) ≡ valid_regs r
    go true = refl
    go false = refl

pub ticks_regs_lem : (n : ℕ) (r : Regs) → valid_regs (ticks_regs n r) ≡ valid_regs r
unfolding ticks_regs
ticks_regs_lem zero r = refl
ticks_regs_lem (suc n) r = ticks_regs_lem n (tick_regs r) ∙ tick_regs_lem r

select_valid : (l : List ℕ) → (eqb (prg_bank_select l) 0 || eqb (prg_bank_select l) 16) ≡ true
unfolding prg_bank_select
select_valid l = go (every even l)
  where
    go : (t : Bool) → (eqb (pick t 0 16) 0 || eqb (pick t 0 16) 16) ≡ true
    go true = refl
    go false = refl

-- a valid page, high bank and mirroring
regs_parts : (r : Regs) → valid_regs r ≡ true → (leb r.prg_page 15 ≡ true) × ((eqb r.prg_bank_select 0 || eqb r.prg_bank_select 16) ≡ true) × (leb r.mirroring 4 ≡ true)
regs_parts r h =
    let a = both_true _ (leb r.mirroring 4) h in
    let b = both_true (leb r.prg_page 15) _ a.0 in
    (b.0, b.1, a.1)

pub write_regs_lem : (c : Cart) (k val : ℕ) (r : Regs) → valid_regs r ≡ true → valid_regs (write_regs c k val r) ≡ true
unfolding write_regs
write_regs_lem c k val r h =
    let p = regs_parts r h in
    let Kept : Regs → Type 0 = λ s. valid_regs s ≡ true in
    pick_all Kept (ltb k 8) _ _
    (λ _. pick_all Kept (supplies_prg_bank c) _ _
    (λ _. rw (p.0, select_valid _, p.2) refl)
    (λ _. pick_all Kept (banks_chr c) _ _ (λ _. h) (λ _. h)))
    (λ _. pick_all Kept (eqb k 8) _ _
    (λ _. rw (le-leb (val % 16) 15 (omega arith), p.1, p.2) refl)
    (λ _. pick_all Kept (eqb k 9) _ _
    (λ _. rw (p.0, p.1, le-leb (val % 4) 4 (omega arith)) refl)
    (λ _. pick_all Kept (eqb k 10) _ _ (λ _. h)
    (λ _. pick_all Kept (eqb k 11) _ _ (λ _. pick_all Kept (has_latch c) _ _ (λ _. h) (λ _. h))
    (λ _. pick_all Kept (eqb k 12) _ _ (λ _. pick_all Kept (has_latch c) _ _ (λ _. h) (λ _. h))
    (λ _. pick_all Kept (eqb k 13) _ _ (λ _. pick_all Kept (is_mapper 153 c) _ _ (λ _. h) (λ _. h))
    (λ _. h)))))))

-- WHAT THE BOARD KEEPS. Another part's fit does not look at the registers
pub set_regs : (b : Board) (r : Regs) → Valid b → valid_regs r ≡ true → Valid (with_bandai (with_regs r b.bandai) b)
unfolding reader_fits standard_fits extra_fits
set_regs b r v h = record { cart = v.cart; regs = h; reader = v.reader; standard = v.standard; extra = v.extra }

-- a part that is on the board is fitted by the cart
pub record ReaderOn (b : Board) : Type 0 where
  pub fitted : has_reader b.bandai.cart ≡ true
  pub valid : valid_reader b.bandai.barcode_reader ≡ true
  pub each : every is_module b.modules ≡ true
  pub past : zeros_from b.bandai.barcode_reader.module_count b.modules ≡ true

pub record StandardOn (b : Board) : Type 0 where
  pub fitted : has_standard b.bandai.cart ≡ true
  pub model : pick (is_x24_c02 b.bandai.cart) (not (is_x24_c01 b.bandai.standard_eeprom.model)) (is_x24_c01 b.bandai.standard_eeprom.model) ≡ true
  pub valid : valid_eeprom b.bandai.standard_eeprom b.standard_rom ≡ true

pub record ExtraOn (b : Board) : Type 0 where
  pub fitted : has_extra b.bandai.cart ≡ true
  pub model : is_x24_c01 b.bandai.extra_eeprom.model ≡ true
  pub valid : valid_eeprom b.bandai.extra_eeprom b.extra_rom ≡ true

-- what stands beside `not has` cannot be true where has is
not_there : (has p q : Bool) → has ≡ true → (not has && p && q) ≡ true → ⊥
not_there has p q e h =
    let n : not has ≡ true = (both_true (not has) p (both_true (not has && p) q h).0).0 in
    never_both (not has) n (rw e refl)

pub reader_on : (b : Board) → reader_fits b ≡ true → b.bandai.has_barcode_reader ≡ true → ReaderOn b
unfolding reader_fits
reader_on b h e = go (has_reader b.bandai.cart) refl h
  where
    go : (t : Bool) → has_reader b.bandai.cart ≡ t →
        pick t (b.bandai.has_barcode_reader && valid_reader b.bandai.barcode_reader && every is_module b.modules && zeros_from b.bandai.barcode_reader.module_count b.modules)
        (not b.bandai.has_barcode_reader && is_blank_reader b.bandai.barcode_reader && zeros_from 0 b.modules) ≡ true → ReaderOn b
    go true d k =
        let p = both_true _ (zeros_from b.bandai.barcode_reader.module_count b.modules) k in
        let q = both_true _ (every is_module b.modules) p.0 in
        let r = both_true b.bandai.has_barcode_reader (valid_reader b.bandai.barcode_reader) q.0 in
        record { fitted = d; valid = r.1; each = q.1; past = p.1 }
    go false d k = absurd (not_there _ _ _ e k)

pub on_reader : (b : Board) → b.bandai.has_barcode_reader ≡ true → ReaderOn b → reader_fits b ≡ true
unfolding reader_fits
on_reader b e o = rw (o.fitted, e, o.valid, o.each, o.past) refl

pub standard_on : (b : Board) → standard_fits b ≡ true → b.bandai.has_standard_eeprom ≡ true → StandardOn b
unfolding standard_fits
standard_on b h e = go (has_standard b.bandai.cart) refl h
  where
    go : (t : Bool) → has_standard b.bandai.cart ≡ t →
        pick t (b.bandai.has_standard_eeprom && pick (is_x24_c02 b.bandai.cart) (not (is_x24_c01 b.bandai.standard_eeprom.model)) (is_x24_c01 b.bandai.standard_eeprom.model) && valid_eeprom b.bandai.standard_eeprom b.standard_rom)
        (not b.bandai.has_standard_eeprom && is_blank_chip b.bandai.standard_eeprom && zeros_from 0 b.standard_rom) ≡ true → StandardOn b
    go true d k =
        let p = both_true _ (valid_eeprom b.bandai.standard_eeprom b.standard_rom) k in
        let q = both_true b.bandai.has_standard_eeprom _ p.0 in
        record { fitted = d; model = q.1; valid = p.1 }
    go false d k = absurd (not_there _ _ _ e k)

pub on_standard : (b : Board) → b.bandai.has_standard_eeprom ≡ true → StandardOn b → standard_fits b ≡ true
unfolding standard_fits
on_standard b e o = rw (o.model, o.fitted, e, o.valid) refl

pub extra_on : (b : Board) → extra_fits b ≡ true → b.bandai.has_extra_eeprom ≡ true → ExtraOn b
unfolding extra_fits
extra_on b h e = go (has_extra b.bandai.cart) refl h
  where
    go : (t : Bool) → has_extra b.bandai.cart ≡ t →
        pick t (b.bandai.has_extra_eeprom && is_x24_c01 b.bandai.extra_eeprom.model && valid_eeprom b.bandai.extra_eeprom b.extra_rom)
        (not b.bandai.has_extra_eeprom && is_blank_chip b.bandai.extra_eeprom && zeros_from 0 b.extra_rom) ≡ true → ExtraOn b
    go true d k =
        let p = both_true _ (valid_eeprom b.bandai.extra_eeprom b.extra_rom) k in
        let q = both_true b.bandai.has_extra_eeprom (is_x24_c01 b.bandai.extra_eeprom.model) p.0 in
        record { fitted = d; model = q.1; valid = p.1 }
    go false d k = absurd (not_there _ _ _ e k)

pub on_extra : (b : Board) → b.bandai.has_extra_eeprom ≡ true → ExtraOn b → extra_fits b ≡ true
unfolding extra_fits
on_extra b e o = rw (o.fitted, e, o.model, o.valid) refl
