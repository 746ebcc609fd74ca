-- `eeprom_bits::put_bit` meets its contract: by `or` and `and`, of each bit of a byte.
-- Assumes nothing.
use Rattle.eeprom_bits.specs.BitsLaws.{weighs, put_high, put_low}
use Rattle.eeprom_bits.proofs.put_bit.Goals as goal

pub returns-then-high : goal.returns-then-high
returns-then-high c = rw ((weighs _ _ c.ranges.byte.fits c.requires).shift, c.if-high.true) (put_high _ _ c.ranges.byte.fits c.requires)

pub returns-else-high : goal.returns-else-high
returns-else-high c = rw ((weighs _ _ c.ranges.byte.fits c.requires).shift, c.if-high.false) (put_low _ _ c.ranges.byte.fits c.requires)
