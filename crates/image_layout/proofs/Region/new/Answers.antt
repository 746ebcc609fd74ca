-- `image_layout::Region::new` meets its contract: the least multiple of 1,024 is the rounded size, at most 2^32.
-- Assumes nothing.
use mathlib.Core.Path.{◌≡◌, refl}
use Prim.Native.Nat.{◌+◌, ◌*◌, ◌/◌}
use native.Mathlib.Omega.{arith}
use Rattle.image_layout.specs.Layout.{round_up}
use Rattle.image_layout.proofs.Region.new.Goals as goal

pub returns : goal.returns
unfolding round_up
returns c =
    let e : c.next_multiple_of.result ≡ (c.args.size + 1023) / 1024 * 1024 = omega (arith, c.from.ensures) in
    (rw e refl, refl, omega (arith, c.from.ensures))
