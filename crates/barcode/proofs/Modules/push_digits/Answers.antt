-- `barcode::Modules::push_digits` meets its contract: the invariant is what is left of the sets and the digits.
-- Assumes nothing.
use Rattle.std.proofs.Common.{sym, ◌∙◌}
use Rattle.std.proofs.lemmas.Slice.Zip.{Zip-more, either_empty_from_Zip}
use Rattle.barcode.proofs.Steps.{patterns_more, patterns_end}
use Rattle.barcode.proofs.Modules.push_digits.Goals as goal

pub loop-set-preserved : goal.loop-set-preserved
loop-set-preserved c =
    let l = c.loop-set in
    let m = Zip-more l.set-iterator c.next.new.self c.next.result (c.in-Some.set, c.in-Some.digit) c.in-Some.is c.next.ensures.steps in
    rw (c.extend.ensures, c.pattern.ensures) (patterns_more _ _ _ _ _ _ _ m.0 m.1 ∙ l.invariant)

pub returns : goal.returns
returns c =
    let l = c.loop-set in
    sym (patterns_end _ _ _ (either_empty_from_Zip l.set-iterator c.next.new.self c.next.result c.in-None.is c.next.ensures.steps)) ∙ l.invariant
