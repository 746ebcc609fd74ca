-- `barcode::Modules::extend` meets its contract: the invariant is what is left to add.
-- Assumes nothing.
use Rattle.std.proofs.Common.{◌≡◌, drop}
use Rattle.laws.specs.Append.{append_all}
use Rattle.barcode.specs.Barcode.{stored}
use Rattle.barcode.proofs.Modules.extend.Given as goal

abbrev pub invariant-loop-shade : goal.invariant-loop-shade
invariant-loop-shade l = append_all 160 (stored l.self) (drop l.shade-index l.part) ≡ append_all 160 (stored l.initial.self) l.part
