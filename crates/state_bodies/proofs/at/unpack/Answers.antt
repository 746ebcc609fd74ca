-- `state_bodies::at::unpack` meets its contract: the invariant is what is left of the widths.
-- Assumes nothing.
use mathlib.Core.Path.{refl, sym, ◌∙◌}
use native.Mathlib.Omega.{arith}
use lib.ListN.{length-set}
use Rattle.std.proofs.lemmas.List.{length-replicate}
use Rattle.state_bodies.specs.BodiesLaws.{width_at, words_turn, words_end, words_read}
use Rattle.state_bodies.proofs.at.unpack.Goals as goal

pub loop-i-init : goal.loop-i-init
loop-i-init g c = (omega arith, (refl, refl))

pub word-requires : goal.word-requires
word-requires g c =
    let l = c.loop-i in
    (omega (arith, l.invariant.0, c.requires.1), width_at c.args.widths.now l.i c.requires.0)

pub overflow_add-place : goal.overflow_add-place
overflow_add-place g c =
    let l = c.loop-i in
    omega (arith, l.invariant.0, c.requires.1, width_at c.args.widths.now l.i c.requires.0)

pub loop-i-preserved : goal.loop-i-preserved
loop-i-preserved g c =
    let l = c.loop-i in
    let a = c.args in (
      omega (arith, l.invariant.0, width_at a.widths.now l.i c.requires.0),
      (
        rw c.word.ensures (words_turn l.words a.f.now a.widths.now l.place l.i (omega (arith, c.told-widths, c.loop-i-test.true)) ∙ l.invariant.1.0),
        simp length-set l.invariant.1.1,
      ),
    )

pub returns : goal.returns
returns g c =
    let l = c.loop-i in
    let a = c.args in
    sym (words_end l.words a.f.now a.widths.now l.place l.i (omega (arith, c.told-widths, c.loop-i-test.false)))
    ∙ l.invariant.1.0
    ∙ words_read a.widths.now a.f.now _ a.at (length-replicate g.row.N 0 ∙ sym c.told-widths)
