-- THE FIELDS OF A DESCRIPTION, listed once: as words with widths in bytes, in the order in which document 01's state file has them.
-- The state file, the printed state, the `fit` command of a script and the layout probe go by this list. Assumes nothing.
use Rattle.std.specs.Prelude.{List, [], ◌∷◌, ℕ, get_or}
use Rattle.laws.specs.Words.{Fit, cut}
use Rattle.cart.specs.declared.Cart.{Cart}

-- mapper (u16), submapper, NES 2.0, mirroring, access, seven sizes (u32), the chip rule
abbrev pub cart_widths : List ℕ
cart_widths = 2 ∷ 1 ∷ 1 ∷ 1 ∷ 1 ∷ 4 ∷ 4 ∷ 4 ∷ 4 ∷ 4 ∷ 4 ∷ 4 ∷ 1 ∷ []

abbrev pub cart_words : Cart → List ℕ
cart_words c =
    c.mapper_num ∷ c.submapper_num ∷ c.nes2 ∷ c.mirroring ∷ c.sram_access
    ∷ c.prg_rom_size ∷ c.chr_rom_size ∷ c.chr_ram_size ∷ c.prg_ram_size ∷ c.battery_ext_size ∷ c.ciram_size ∷ c.ex_ram_size ∷ c.eeprom_rule ∷ []

-- the description with these words, 0 past the end of the list
abbrev pub cart_from : List ℕ → Cart
cart_from xs =
    record {
      mapper_num = get_or xs 0 0;
      submapper_num = get_or xs 1 0;
      nes2 = get_or xs 2 0;
      mirroring = get_or xs 3 0;
      sram_access = get_or xs 4 0;
      prg_rom_size = get_or xs 5 0;
      chr_rom_size = get_or xs 6 0;
      chr_ram_size = get_or xs 7 0;
      prg_ram_size = get_or xs 8 0;
      battery_ext_size = get_or xs 9 0;
      ciram_size = get_or xs 10 0;
      ex_ram_size = get_or xs 11 0;
      eeprom_rule = get_or xs 12 0;
    }

-- .. each cut to its width
unfoldable pub cart_of : List ℕ → Cart
cart_of xs = cart_from (cut cart_widths xs)

-- what the machine's types hold of a description: each word fits its width
abbrev pub TypedCart : Cart → Type 0
TypedCart c = Fit cart_widths (cart_words c)
