-- The registers with some of their fields set anew, by name. The fields are listed once, in `with_fields`. Assumes nothing.
use Rattle.std.specs.Prelude.{ℕ, Bool, false, List, slice_set}
use Rattle.regs.specs.declared.Regs.{Regs}

-- THE FIELDS that writes and clocks change: page, high bank, mirroring, RAM enabled, CHR registers, CHR banks; counter, reload, counting, pending
abbrev with_fields : ℕ → ℕ → ℕ → Bool → List ℕ → List ℕ → ℕ → ℕ → Bool → Bool → Regs → Regs
with_fields page select mirroring ram regs banks counter reload on pending r =
    record {
      irq_counter = counter;
      irq_reload = reload;
      prg_page = page;
      prg_bank_select = select;
      mirroring = mirroring;
      prg_ram_enabled = ram;
      irq_enabled = on;
      irq_pending = pending;
      chr_regs = regs;
      chr_banks = banks;
    }

-- THE BANKS: page, high bank, mirroring, RAM enabled, CHR registers, CHR banks
abbrev pub with_banks : ℕ → ℕ → ℕ → Bool → List ℕ → List ℕ → Regs → Regs
with_banks page select mirroring ram regs banks r =
    with_fields page select mirroring ram regs banks r.irq_counter r.irq_reload r.irq_enabled r.irq_pending r

-- the PRG page
abbrev pub with_prg_page : ℕ → Regs → Regs
with_prg_page v r = with_banks v r.prg_bank_select r.mirroring r.prg_ram_enabled r.chr_regs r.chr_banks r

-- the high PRG bank
abbrev pub with_bank_select : ℕ → Regs → Regs
with_bank_select v r = with_banks r.prg_page v r.mirroring r.prg_ram_enabled r.chr_regs r.chr_banks r

-- the mirroring
abbrev pub with_mirroring : ℕ → Regs → Regs
with_mirroring v r = with_banks r.prg_page r.prg_bank_select v r.prg_ram_enabled r.chr_regs r.chr_banks r

-- whether RAM is enabled
abbrev pub with_ram_enabled : Bool → Regs → Regs
with_ram_enabled v r = with_banks r.prg_page r.prg_bank_select r.mirroring v r.chr_regs r.chr_banks r

-- the CHR register k
abbrev pub with_chr_reg : ℕ → ℕ → Regs → Regs
with_chr_reg k v r = with_banks r.prg_page r.prg_bank_select r.mirroring r.prg_ram_enabled (slice_set r.chr_regs k v) r.chr_banks r

-- the CHR bank k
abbrev pub with_chr_bank : ℕ → ℕ → Regs → Regs
with_chr_bank k v r = with_banks r.prg_page r.prg_bank_select r.mirroring r.prg_ram_enabled r.chr_regs (slice_set r.chr_banks k v) r

-- THE INTERRUPT: counter, reload, counting, pending
abbrev pub with_interrupt : ℕ → ℕ → Bool → Bool → Regs → Regs
with_interrupt counter reload on pending r =
    with_fields r.prg_page r.prg_bank_select r.mirroring r.prg_ram_enabled r.chr_regs r.chr_banks counter reload on pending r

-- counting and the counter, pending cleared
abbrev pub with_irq_ctrl : Bool → ℕ → Regs → Regs
with_irq_ctrl on n r = with_interrupt n r.irq_reload on false r

-- the counter and pending
abbrev pub with_irq : ℕ → Bool → Regs → Regs
with_irq n p r = with_interrupt n r.irq_reload r.irq_enabled p r

-- the counter
abbrev pub with_counter : ℕ → Regs → Regs
with_counter v r = with_interrupt v r.irq_reload r.irq_enabled r.irq_pending r

-- the reload
abbrev pub with_reload : ℕ → Regs → Regs
with_reload v r = with_interrupt r.irq_counter v r.irq_enabled r.irq_pending r
