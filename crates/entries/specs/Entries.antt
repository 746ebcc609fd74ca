-- THE ENTRIES OF THE PAGE TABLES, in the order of `update_banks`: read `prg_entry` and `chr_entry`. The layout is that of crate image_layout
-- (`layout_of`); windows and their entries are those of crate memory (`window_of`, `entry_of`, `nametable_of`). The laws are in EntriesLaws.
-- Assumes nothing.
use Rattle.std.specs.Prelude.{true, false, List, ℕ, ◌-◌, ltb, get_or}
use Rattle.std.specs.Int.Bits.{bit_or}
use Rattle.laws.specs.Choice.{pick}
use Rattle.image_layout.specs.declared.Sizes.{Sizes}
use Rattle.image_layout.specs.declared.MemoryLayout.{MemoryLayout}
use Rattle.memory.specs.declared.Window.{Window}
use Rattle.image_layout.specs.Layout.{layout_of}
use Rattle.memory.specs.Memory.{window_of, entry_of, nametable_of}
use Rattle.cart.specs.declared.Cart.{Cart}
use Rattle.regs.specs.declared.Regs.{Regs}
use Rattle.cart.specs.Cart.{banks_chr}
use Rattle.regs.specs.Regs.{ram_mapped}

-- the sizes of the image's parts
abbrev pub sizes_of : Cart → Sizes
sizes_of c =
    record { prg_rom = c.prg_rom_size; chr_rom = c.chr_rom_size; chr_ram = c.chr_ram_size; prg_ram = c.prg_ram_size; battery_ext = c.battery_ext_size; ciram = c.ciram_size; ex_ram = c.ex_ram_size }

abbrev pub layout_for : Cart → MemoryLayout
layout_for c = layout_of (sizes_of c)

-- 8 KiB of PRG RAM, writable
abbrev pub ram_window : MemoryLayout → Window
ram_window l = window_of l.prg_ram true 8192 0

-- PRG RAM if it is mapped, else a window of nothing
unfoldable pub ram_shown : MemoryLayout → Cart → Regs → Window
ram_shown l c r = pick (ram_mapped c r) (ram_window l) (record { start = 0; len = 0; base = 0; writable = false })

-- a PRG bank ORed with the high bank
unfoldable pub with_high : Regs → ℕ → ℕ
with_high r bank = bit_or bank r.prg_bank_select

-- 16 KiB of PRG ROM, read-only
abbrev pub rom_window : MemoryLayout → Regs → ℕ → Window
rom_window l r bank = window_of l.prg_rom false 16384 (with_high r bank)

-- entry k of the 64 of PRG: below 0x6000 none, below 0x8000 PRG RAM, below 0xC000 the PRG page, then bank 15; none past the table
unfoldable pub prg_entry : Cart → Regs → ℕ → ℕ
prg_entry c r k =
    pick (ltb k 24) 0
    (pick (ltb k 32) (pick (ram_mapped c r) (entry_of (ram_window (layout_for c)) (k - 24)) 0)
    (pick (ltb k 48) (entry_of (rom_window (layout_for c) r r.prg_page) (k - 32))
    (pick (ltb k 64) (entry_of (rom_window (layout_for c) r 15) (k - 48)) 0)))

-- a window of CHR, writable if that is RAM
abbrev pub chr_window : MemoryLayout → ℕ → ℕ → Window
chr_window l size bank = window_of l.chr l.chr_writable size bank

-- page k of CHR by its own 1 KiB bank
unfoldable pub bank_entry : Cart → List ℕ → ℕ → ℕ
bank_entry c banks k = entry_of (chr_window (layout_for c) 1024 (get_or banks k 0)) 0

-- page k of CHR: by its bank with CHR ROM and not on 157, else of the first 8 KiB
unfoldable pub chr_page : Cart → Regs → ℕ → ℕ
chr_page c r k = pick (banks_chr c) (bank_entry c r.chr_banks k) (entry_of (chr_window (layout_for c) 8192 0) k)

-- entry k of the 16 of CHR: eight pages of CHR, then the nametables by the board's mirroring
unfoldable pub chr_entry : Cart → Regs → ℕ → ℕ
chr_entry c r k = pick (ltb k 8) (chr_page c r k) (nametable_of (layout_for c).ciram r.mirroring (k - 8))
