-- `barcode::Modules::push_digits` meets its contract: the invariant is what is left of the sets and the digits.
-- Assumes nothing.
use Rattle.std.proofs.Common.{◌≡◌}
use Rattle.std.specs.Iterator.Adapters.{zip_first, zip_second}
use Rattle.std.specs.Slice.Iter.{iter_rest}
use Rattle.laws.specs.Append.{append_all}
use Rattle.barcode.specs.Barcode.{patterns_of, stored}
use Rattle.barcode.proofs.Modules.push_digits.Given as goal

abbrev pub invariant-loop-set : goal.invariant-loop-set
invariant-loop-set l =
    append_all 160 (stored l.self) (patterns_of (iter_rest (zip_first l.set-iterator)) (iter_rest (zip_second l.set-iterator))) ≡ append_all 160 (stored l.initial.self) (patterns_of l.sets l.digits)
