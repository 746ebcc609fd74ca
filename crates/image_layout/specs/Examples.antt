-- Worked examples of the layout, computed.
-- Assumes nothing.
use Rattle.std.specs.Prelude.{◌≡◌, refl, [], ◌∷◌}
use Rattle.image_layout.specs.declared.Sizes.{Sizes}
use Rattle.image_layout.specs.Layout.{round_up, chr_ram_size, ciram_size, layout_of}

-- a cartridge of no bytes
abbrev none : Sizes
none = record { prg_rom = 0; chr_rom = 0; chr_ram = 0; prg_ram = 0; battery_ext = 0; ciram = 0; ex_ram = 0 }

-- the smallest and the largest image of the sizes allowed
pub lengths : (layout_of none).len ∷ (layout_of (record { prg_rom = 16777216; chr_rom = 16777216; chr_ram = 16777216; prg_ram = 16777216; battery_ext = 16777216; ciram = 16777216; ex_ram = 16777216 })).len ∷ [] ≡ 3072 ∷ 100664320 ∷ []
unfolding layout_of round_up chr_ram_size ciram_size
lengths = refl
