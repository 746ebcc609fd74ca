-- `state_bodies::at::word` meets its contract: the invariant is the word of the bytes from the last one read on.
-- Assumes nothing.
use mathlib.Core.Path.{◌≡◌, refl}
use Prim.Native.Nat.{suc, ◌+◌, ◌-◌}
use native.Mathlib.Omega.{arith}
use Rattle.laws.specs.Words.{word_at}
use Rattle.state_bodies.specs.BodiesLaws.{word_turn, word_more, word_room}
use Rattle.state_bodies.proofs.at.word.Goals as goal

pub loop-i-init : goal.loop-i-init
unfolding word_at
loop-i-init c =
    let w = c.args.width in
    let e : w - w ≡ 0 = omega arith in
    (rw e refl, rw e (omega arith))

pub overflow_mul-above : goal.overflow_mul-above
overflow_mul-above c =
    let r = word_room _ _ c.loop-i.invariant.1 (omega arith) in
    omega (arith, r)

pub overflow_add-above : goal.overflow_add-above
overflow_add-above c =
    let r = word_room _ _ c.loop-i.invariant.1 (omega arith) in
    omega (arith, r)

pub loop-i-preserved : goal.loop-i-preserved
loop-i-preserved c =
    let l = c.loop-i in
    let a = c.args in
    let e : a.width - (l.i - 1) ≡ suc (a.width - l.i) = omega arith in (
      rw (e, c.byte.ensures, l.invariant.0) (word_turn a.f.now a.at l.i (a.width - l.i) c.loop-i-test.true),
      rw e (word_more (a.width - l.i) l.above c.byte.result l.invariant.1 (omega (arith, c.byte.type_inv))),
    )

pub returns : goal.returns
returns c =
    let l = c.loop-i in
    let a = c.args in
    let e : l.i ≡ 0 = omega arith in
    let p : a.at + 0 ≡ a.at = omega arith in
    let w : a.width - 0 ≡ a.width = omega arith in
    rw (e, p, w) at l.invariant.0
