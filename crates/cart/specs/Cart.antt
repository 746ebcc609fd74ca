-- Fitting: what a description (`Cart`) gives a board, in document 01's order. Read `cart_refusal` last.
-- A code is the number that 01 gives: mirroring 0 vertical, 1 horizontal, 2 and 3 single screen A and B, 4 four screens;
-- access 0 None, 1 Read, 2 Write, 3 ReadWrite, 4 as `load` sets it; chip rule 0 the crate's, 1 the X24C02's datasheet. Assumes nothing.
use Rattle.std.specs.Prelude.{Bool, ◌&&◌, ◌||◌, not, [], ℕ, ◌/◌, eqb, leb}
use Rattle.laws.specs.Choice.{pick}
use Rattle.eeprom_bits.specs.declared.EepromRule.{EepromRule}
use Rattle.eeprom_bits.specs.Bits.{rule_of}
use Rattle.cart.specs.declared.Cart.{Cart}
use Rattle.cart.specs.CartWords.{cart_from}

-- the description of the empty state: all zeros
abbrev pub empty_cart : Cart
empty_cart = cart_from []

abbrev pub is_mapper : ℕ → Cart → Bool
is_mapper n c = eqb c.mapper_num n

abbrev pub is_submapper : ℕ → Cart → Bool
is_submapper n c = eqb c.submapper_num n

-- 157 has the card reader
abbrev pub is_datach : Cart → Bool
is_datach c = is_mapper 157 c

abbrev pub has_reader : Cart → Bool
has_reader c = is_datach c

-- 16 has a standard chip if submapper is 0 or 5 and PRG RAM is 256; 157 and 159 always; 153 has none
abbrev pub has_standard : Cart → Bool
has_standard c =
    is_mapper 16 c && (is_submapper 0 c || is_submapper 5 c) && eqb c.prg_ram_size 256 || is_mapper 157 c || is_mapper 159 c

-- it is an X24C02 on 16 and 157, an X24C01 on 159
abbrev pub is_x24_c02 : Cart → Bool
is_x24_c02 c = has_standard c && not (is_mapper 159 c)

-- the chip rule, which an X24C01 does not know
abbrev pub cart_rule : Cart → EepromRule
cart_rule c = rule_of c.eeprom_rule

-- 157 has an extra X24C01 if not NES 2.0 or PRG RAM is 128
abbrev pub has_extra : Cart → Bool
has_extra c = is_mapper 157 c && (eqb c.nes2 0 || eqb c.prg_ram_size 128)

-- registers 11 and 12 set a reload, and 10 copies it: not on 16 with submapper 0 or 4
abbrev pub has_latch : Cart → Bool
has_latch c = not (is_mapper 16 c && (is_submapper 0 c || is_submapper 4 c))

-- `load` sets access Read, but None on 153, ReadWrite on 16 with a submapper other than 0 and 5; the codes 0 to 3 stand as given
abbrev pub access_of : Cart → ℕ
access_of c =
    pick (eqb c.sram_access 4)
    (pick (is_mapper 153 c) 0 (pick (is_mapper 16 c && not (is_submapper 0 c || is_submapper 5 c)) 3 1))
    c.sram_access

abbrev pub may_read : Cart → Bool
may_read c = eqb (access_of c) 1 || eqb (access_of c) 3

abbrev pub may_write : Cart → Bool
may_write c = eqb (access_of c) 2 || eqb (access_of c) 3

-- on 153, or with PRG ROM / 16,384 at least 32, the CHR registers give the high bank; otherwise, with CHR ROM and not on 157, the CHR banks
abbrev pub prg_banks : Cart → ℕ
prg_banks c = c.prg_rom_size / 16384

abbrev pub supplies_prg_bank : Cart → Bool
supplies_prg_bank c = is_mapper 153 c || leb 32 (prg_banks c)

abbrev pub banks_chr : Cart → Bool
banks_chr c = not (eqb c.chr_rom_size 0) && not (is_mapper 157 c)

abbrev pub mapper_listed : Cart → Bool
mapper_listed c = is_mapper 16 c || is_mapper 153 c || is_mapper 157 c || is_mapper 159 c

abbrev pub size_limit : ℕ
size_limit = 16777216

abbrev pub sizes_within : Cart → Bool
sizes_within c =
    leb c.prg_rom_size size_limit && leb c.chr_rom_size size_limit && leb c.chr_ram_size size_limit && leb c.prg_ram_size size_limit && leb c.battery_ext_size size_limit && leb c.ciram_size size_limit && leb c.ex_ram_size size_limit

abbrev pub codes_listed : Cart → Bool
codes_listed c = leb c.nes2 1 && leb c.mirroring 4 && leb c.sram_access 4

abbrev pub rule_listed : Cart → Bool
rule_listed c = leb c.eeprom_rule 1

-- 1, 2, 3, 17 when fitting, in that order; 0: none
unfoldable pub cart_refusal : Cart → ℕ
cart_refusal c = pick (mapper_listed c) (pick (sizes_within c) (pick (codes_listed c) (pick (rule_listed c) 0 17) 3) 2) 1
