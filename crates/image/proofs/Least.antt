-- The lesser of two numbers, as the definitions here have it.
-- Assumes nothing.
use Rattle.std.specs.Prelude.{◌≡◌, ℕ, ◌<◌, min}
use Rattle.std.proofs.Common.{arith, lt-ltb, le-ltb}
use Rattle.std.proofs.Math.Decide.{dec_lt}
use Rattle.image.specs.Image.{least}

pub least_min : (a b : ℕ) → min a b ≡ least a b
least_min a b = go (dec_lt a b)
  where
    go : Dec (a < b) → min a b ≡ least a b
    go (yes h) = rw (lt-ltb a b h) (omega arith)
    go (no h) = rw (le-ltb a b (omega arith)) (omega arith)
