-- Bytes on the lines, computed: the codes of the rules, the two orders of bits, the slave bytes that pass, the four cells of a word address.
-- Assumes nothing.
use Rattle.std.specs.Prelude.{◌≡◌, refl, Bool, true, false, ◌||◌, List, [], ◌∷◌, ℕ, eqb}
use Rattle.laws.specs.Choice.{pick, below}
use Rattle.eeprom_bits.specs.declared.EepromRule.{EepromRule}
use Rattle.eeprom_bits.specs.declared.EepromRule.TheVariants.{Crate, Datasheet}
use Rattle.eeprom_bits.specs.Bits.{rule_of, bit_place, slave_passes, slave_reads, next_in_group}

pub codes : rule_of 0 ∷ rule_of 1 ∷ rule_of 2 ∷ rule_of 255 ∷ [] ≡ Crate ∷ Datasheet ∷ Crate ∷ Crate ∷ []
codes = refl

-- the places of eight bits in turn
abbrev places : EepromRule → List ℕ
places r = bit_place r 0 ∷ bit_place r 1 ∷ bit_place r 2 ∷ bit_place r 3 ∷ bit_place r 4 ∷ bit_place r 5 ∷ bit_place r 6 ∷ bit_place r 7 ∷ []

pub low_first : places Crate ≡ 0 ∷ 1 ∷ 2 ∷ 3 ∷ 4 ∷ 5 ∷ 6 ∷ 7 ∷ []
low_first = refl

pub high_first : places Datasheet ≡ 7 ∷ 6 ∷ 5 ∷ 4 ∷ 3 ∷ 2 ∷ 1 ∷ 0 ∷ []
high_first = refl

-- of all bytes just 0xA0 and 0xA1 pass by the datasheet
abbrev alike : Bool → Bool → Bool
alike p q = eqb (pick p 1 0) (pick q 1 0)

abbrev by_sheet : ℕ → Bool
by_sheet x = alike (slave_passes Datasheet x) (eqb x 0xA0 || eqb x 0xA1)

pub sheet_bytes : below by_sheet 256 ≡ true
sheet_bytes = refl

-- under the crate's rule other device bits pass too, and other bits than 1010 in front; 0xA0 sent low bit first, 0x05, does not
pub crate-bytes :
    slave_passes Crate 0xA0 ∷ slave_passes Crate 0xAE ∷ slave_passes Crate 0xF0 ∷ slave_passes Crate 0x80 ∷ slave_passes Crate 0x20 ∷ slave_passes Crate 0x05 ∷ []
    ≡ true ∷ true ∷ true ∷ false ∷ false ∷ false ∷ []
crate-bytes = refl

pub read_bits : slave_reads 0xA0 ∷ slave_reads 0xA1 ∷ [] ≡ false ∷ true ∷ []
read_bits = refl

-- the cells after 0xFC to 0xFF
pub four_cells : next_in_group 0xFC ∷ next_in_group 0xFD ∷ next_in_group 0xFE ∷ next_in_group 0xFF ∷ [] ≡ 0xFD ∷ 0xFE ∷ 0xFF ∷ 0xFC ∷ []
four_cells = refl
