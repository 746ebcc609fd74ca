-- A BOARD WITH ANOTHER CHIP RULE, all else as it was.
-- Assumes nothing.
use Rattle.std.specs.Prelude.{ℕ}
use Rattle.cart.specs.declared.Cart.{Cart}
use Rattle.bandai_fcg.specs.declared.board.BandaiFCG.{BandaiFCG}
use Rattle.bandai_fcg.specs.declared.board.Board.{Board}
use Rattle.bandai_fcg.specs.BoardSet.{with_bandai}

-- the description with the rule n
abbrev pub ruled_cart : ℕ → Cart → Cart
ruled_cart n c =
    record {
      prg_rom_size = c.prg_rom_size;
      chr_rom_size = c.chr_rom_size;
      chr_ram_size = c.chr_ram_size;
      prg_ram_size = c.prg_ram_size;
      battery_ext_size = c.battery_ext_size;
      ciram_size = c.ciram_size;
      ex_ram_size = c.ex_ram_size;
      mapper_num = c.mapper_num;
      submapper_num = c.submapper_num;
      nes2 = c.nes2;
      mirroring = c.mirroring;
      sram_access = c.sram_access;
      eeprom_rule = n;
    }

-- the state, and the board
abbrev pub ruled_state : ℕ → BandaiFCG → BandaiFCG
ruled_state n s =
    record {
      barcode_reader = s.barcode_reader;
      cart = ruled_cart n s.cart;
      regs = s.regs;
      standard_eeprom = s.standard_eeprom;
      extra_eeprom = s.extra_eeprom;
      has_barcode_reader = s.has_barcode_reader;
      has_standard_eeprom = s.has_standard_eeprom;
      has_extra_eeprom = s.has_extra_eeprom;
    }

abbrev pub with_rule : ℕ → Board → Board
with_rule n b = with_bandai (ruled_state n b.bandai) b
