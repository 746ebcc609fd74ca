-- `number::value_of` meets its contract: the invariant is the value that the rest leads to.
-- Assumes nothing.
use Rattle.std.proofs.Common.{◌≡◌, refl, sym, ◌∙◌, map, ◌+◌, ◌*◌, ◌<◌, get_or, drop, arith, le-leb}
use borrow.Author.Tests.{lt-leb}
use Rattle.laws.specs.Decimal.{value_from}
use Rattle.std.specs.Prelude.{Err}
use borrow.Author.Rules.{rules}
use Rattle.number.specs.declared.NumberError.TheVariants.{TooLarge}
use Rattle.number.specs.Number.{digit_of, base_of, value_of}
use Rattle.number.proofs.Turns.{value_more, value_end, value_least, more_ok, more_none}
use Rattle.number.proofs.value_of.Goals as goal

pub loop-b-init : goal.loop-b-init
loop-b-init c = (omega arith, refl)

pub returns-in_err-value : goal.returns-in_err-value
returns-in_err-value c =
    let l = c.loop-b in
    let a = c.args in
    let w = a.word.now in
    let k = more_none c.shifted.result _ _ _ c.shifted.ensures (sym c.ok_or.ensures.value ∙ c.in_err-value.was) in
    let r : c.from_residual.result ≡ Err TooLarge = search (rules, k) in
    let least = value_least a.hex (l.value * base_of a.hex + digit_of (get_or w l.b-index 0)) (map digit_of (drop (l.b-index + 1) w)) in
    let e : value_from (base_of a.hex) (l.value * base_of a.hex + digit_of (get_or w l.b-index 0)) (map digit_of (drop (l.b-index + 1) w)) ≡ value_of a.hex w = value_more a.hex l.value w l.b-index c.loop-b-test.true ∙ l.invariant.1 in
    let over : 18446744073709551615 < l.value * base_of a.hex + digit_of (get_or w l.b-index 0) = rw (← c.digit.ensures) (omega (arith, k.0)) in
    let v : 18446744073709551615 < value_of a.hex w = rw (← e) (omega arith) in
    rw (r, lt-leb _ _ v) refl

pub loop-b-preserved : goal.loop-b-preserved
loop-b-preserved c =
    let l = c.loop-b in
    let a = c.args in
    let w = a.word.now in
    let k = more_ok c.shifted.result _ _ _ c.shifted.ensures (sym c.ok_or.ensures.value ∙ c.in_ok-value.was) in
    (omega (arith, k.0, k.1), rw (k.1, c.digit.ensures) (value_more a.hex l.value w l.b-index c.loop-b-test.true ∙ l.invariant.1))

pub returns : goal.returns
returns c =
    let l = c.loop-b in
    let a = c.args in
    let e : l.value ≡ value_of a.hex a.word.now = sym (value_end a.hex l.value a.word.now l.b-index c.loop-b-test.false) ∙ l.invariant.1 in
    rw (← e, le-leb _ _ l.invariant.0) refl
