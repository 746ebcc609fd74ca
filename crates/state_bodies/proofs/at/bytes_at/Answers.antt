-- `state_bodies::at::bytes_at` meets its contract: after i turns the first i bytes are stored.
-- Assumes nothing.
use mathlib.Core.Path.{refl, ◌∙◌}
use Prim.Native.Nat.{◌+◌}
use native.Mathlib.Omega.{arith}
use lib.ListN.{length-set}
use Rattle.std.proofs.lemmas.List.{length-replicate}
use Rattle.laws.specs.Lists.{blank}
use Rattle.state_bodies.specs.BodiesLaws.{read_none, read_more, read_room}
use Rattle.state_bodies.proofs.at.bytes_at.Goals as goal

pub loop-i-init : goal.loop-i-init
loop-i-init g c = (read_none _ _ _, refl)

pub loop-i-preserved : goal.loop-i-preserved
loop-i-preserved g c =
    let l = c.loop-i in
    let a = c.args in (
      rw (c.byte.ensures, l.invariant.0) (read_more _ a.f.now (a.at + a.k) l.i),
      simp length-set l.invariant.1,
    )

pub returns : goal.returns
unfolding blank
returns g c =
    let l = c.loop-i in
    l.invariant.0 ∙ read_room _ c.args.f.now _ l.i c.args.count (rw length-replicate (omega (arith, c.loop-i-test.false, c.min-i-end.ensures)))
