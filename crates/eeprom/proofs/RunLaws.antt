-- Laws of a run of levels: none, and two lists one after the other.
-- Assumes nothing.
use Rattle.std.specs.Prelude.{◌≡◌, List, [], ◌∷◌, ◌++◌, refl}
use Rattle.eeprom_bits.specs.declared.EepromRule.{EepromRule}
use Rattle.eeprom.specs.Run.{Device, Levels, next, after_levels}

pub after_none : (r : EepromRule) (d : Device) → after_levels r d [] ≡ d
unfolding after_levels
after_none r d = refl

-- the device after two lists is that after the second from the device after the first
pub after_append : (r : EepromRule) (d : Device) (a b : List Levels) → after_levels r d (a ++ b) ≡ after_levels r (after_levels r d a) b
unfolding after_levels
after_append r d [] b = refl
after_append r d (l ∷ a) b = after_append r (next r d l) a b
