-- The layout of a cartridge's memory image. THE DEFINITION TO READ: `layout_of`. The laws are in LayoutLaws.
-- All are total: also for sizes above 16,777,216, which the calls above refuse.
-- Assumes nothing.
use Rattle.std.specs.Prelude.{Bool, ℕ, ◌+◌, ◌*◌, ◌/◌, eqb}
use Rattle.laws.specs.Choice.{pick}
use Rattle.image_layout.specs.declared.Region.{Region}
use Rattle.image_layout.specs.declared.Sizes.{Sizes}
use Rattle.image_layout.specs.declared.MemoryLayout.{MemoryLayout}

-- a size rounded up to whole pages
unfoldable pub round_up : ℕ → ℕ
round_up n = (n + 1023) / 1024 * 1024

-- a region of a size
abbrev pub region_at : ℕ → ℕ → Region
region_at start size = record { start = start; len = round_up size }

-- where the next region starts
abbrev pub end_of : Region → ℕ
end_of r = r.start + r.len

-- CHR is the ROM, read-only, unless its size is 0; then the RAM, writable. The one not chosen takes no space
abbrev pub chr_writable : Sizes → Bool
chr_writable s = eqb s.chr_rom 0

unfoldable pub chr_ram_size : Sizes → ℕ
chr_ram_size s = pick (chr_writable s) s.chr_ram 0

-- CIRAM 0 means 2,048
unfoldable pub ciram_size : Sizes → ℕ
ciram_size s = pick (eqb s.ciram 0) 2048 s.ciram

-- the regions one after the other, past page 0
abbrev pub prg_rom : Sizes → Region
prg_rom s = region_at 1024 s.prg_rom

abbrev pub chr_rom : Sizes → Region
chr_rom s = region_at (end_of (prg_rom s)) s.chr_rom

abbrev pub prg_ram : Sizes → Region
prg_ram s = region_at (end_of (chr_rom s)) s.prg_ram

abbrev pub battery_ext : Sizes → Region
battery_ext s = region_at (end_of (prg_ram s)) s.battery_ext

abbrev pub chr_ram : Sizes → Region
chr_ram s = region_at (end_of (battery_ext s)) (chr_ram_size s)

abbrev pub ciram_region : Sizes → Region
ciram_region s = region_at (end_of (chr_ram s)) (ciram_size s)

abbrev pub ex_ram : Sizes → Region
ex_ram s = region_at (end_of (ciram_region s)) s.ex_ram

-- the layout; what can be written starts at `ram_start`
unfoldable pub layout_of : Sizes → MemoryLayout
layout_of s =
    record {
      prg_rom = prg_rom s;
      chr = pick (chr_writable s) (chr_ram s) (chr_rom s);
      prg_ram = prg_ram s;
      battery_ext = battery_ext s;
      ciram = ciram_region s;
      ex_ram = ex_ram s;
      ram_start = (prg_ram s).start;
      len = end_of (ex_ram s);
      chr_writable = chr_writable s;
    }
