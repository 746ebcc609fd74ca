-- The registers: what a register write and a clock do to them, in document 01's order. Read `write_regs` and `ticks_regs`.
-- `withX v r` is r with its field x at v (RegsSet). Assumes nothing.
use Rattle.std.specs.Prelude.{ℕ, zero, suc, ◌+◌, ◌-◌, ◌*◌, ◌/◌, ◌%◌, Bool, false, ◌&&◌, ◌||◌, List, ◌==◌, nat_lt, slice_set}
use Rattle.laws.specs.Choice.{pick}
use Rattle.laws.specs.Lists.{blank, every}
use Rattle.cart.specs.declared.Cart.{Cart}
use Rattle.regs.specs.declared.Regs.{Regs}
use Rattle.cart.specs.Cart.{is_mapper, has_latch, supplies_prg_bank, banks_chr}
use Rattle.regs.specs.RegsSet.{with_prg_page, with_bank_select, with_mirroring, with_ram_enabled, with_irq_ctrl, with_irq, with_counter, with_reload, with_chr_reg, with_chr_bank}

-- the registers of a fresh board: all 0, the cart's mirroring
abbrev pub new_regs : ℕ → Regs
new_regs m =
    record { irq_counter = 0; irq_reload = 0; prg_page = 0; prg_bank_select = 0; mirroring = m; prg_ram_enabled = false; irq_enabled = false; irq_pending = false; chr_regs = blank 8; chr_banks = blank 8 }

-- 0 to 7: the high bank is 16 if any of the eight has bit 0, else 0
abbrev pub even : ℕ → Bool
even n = n % 2 == 0

unfoldable pub prg_bank_select : List ℕ → ℕ
prg_bank_select regs = pick (every even regs) 0 16

-- the CHR register is set; then the high bank on 153 or with 32 PRG banks or more, else with CHR ROM and not on 157 the CHR bank
abbrev pub write_chr_bank : Cart → ℕ → ℕ → Regs → Regs
write_chr_bank c bank val r =
    pick (supplies_prg_bank c)
    (with_bank_select (prg_bank_select (slice_set r.chr_regs (bank % 8) val)) (with_chr_reg (bank % 8) val r))
    (pick (banks_chr c) (with_chr_bank (bank % 8) val (with_chr_reg (bank % 8) val r)) (with_chr_reg (bank % 8) val r))

-- 10: counting = bit 0; pending cleared; the counter takes the reload, except on 16 with submapper 0 or 4
abbrev pub irq_ctrl : Cart → ℕ → Regs → Regs
irq_ctrl c val r = with_irq_ctrl (val % 2 == 1) (pick (has_latch c) r.irq_reload r.irq_counter) r

-- 11 and 12: low and high byte of the reload; on 16 with submapper 0 or 4, of the counter
abbrev pub low_byte : ℕ → ℕ → ℕ
low_byte word val = word / 256 * 256 + val

abbrev pub high_byte : ℕ → ℕ → ℕ
high_byte word val = word % 256 + val * 256

abbrev pub irq_latch : Cart → (ℕ → ℕ) → Regs → Regs
irq_latch c byte r = pick (has_latch c) (with_reload (byte r.irq_reload) r) (with_counter (byte r.irq_counter) r)

-- 13, on 153: RAM enabled = bit 5
abbrev pub ram_enabled : Cart → ℕ → Regs → Regs
ram_enabled c val r = pick (is_mapper 153 c) (with_ram_enabled (val / 32 % 2 == 1) r) r

-- so PRG RAM is mapped on 153 with RAM enabled
abbrev pub ram_mapped : Cart → Regs → Bool
ram_mapped c r = is_mapper 153 c && r.prg_ram_enabled

-- a write to register k of the sixteen, as far as it concerns the registers
unfoldable pub write_regs : Cart → ℕ → ℕ → Regs → Regs
write_regs c k val r =
    pick (nat_lt k 8) (write_chr_bank c k val r)
    (pick (k == 8) (with_prg_page (val % 16) r)
    (pick (k == 9) (with_mirroring (val % 4) r)
    (pick (k == 10) (irq_ctrl c val r)
    (pick (k == 11) (irq_latch c (λ word. low_byte word val) r)
    (pick (k == 12) (irq_latch c (λ word. high_byte word val) r)
    (pick (k == 13) (ram_enabled c val r) r))))))

-- a 16-bit counter n steps further down, from 0 to 65,535
abbrev pub step_down : ℕ → ℕ → ℕ
step_down counter n = (counter + 65536 - n) % 65536

-- one clock: with counting on, a counter at 0 sets pending; the counter then steps from 0 to 65,535, from any other value down by one
unfoldable pub tick_regs : Regs → Regs
tick_regs r =
    pick r.irq_enabled (with_irq (step_down r.irq_counter 1) (r.irq_pending || r.irq_counter == 0) r) r

-- a count does this that many times; 0 does nothing
unfoldable pub ticks_regs : ℕ → Regs → Regs
ticks_regs zero r = r
ticks_regs (suc n) r = ticks_regs n (tick_regs r)
