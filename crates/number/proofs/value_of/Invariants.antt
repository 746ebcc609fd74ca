-- `number::value_of` meets its contract: the invariant is the value that the rest leads to.
-- Assumes nothing.
use Rattle.std.proofs.Common.{◌≡◌, ◌≤◌, map, drop}
use Rattle.laws.specs.Decimal.{value_from}
use Rattle.number.specs.Number.{digit_of, base_of, value_of}
use Rattle.number.proofs.value_of.Given as goal

abbrev pub invariant-loop-b : goal.invariant-loop-b
invariant-loop-b l = (l.value ≤ 18446744073709551615) × (value_from (base_of l.hex) l.value (map digit_of (drop l.b-index l.word)) ≡ value_of l.hex l.word)
