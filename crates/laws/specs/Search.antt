-- A search in a table of lists. Definition; the laws are in SearchLaws.
-- Assumes nothing.
use Rattle.std.specs.Prelude.{List, ℕ, zero, suc}
use Rattle.laws.specs.Choice.{pick}
use Rattle.laws.specs.Lists.{same}

-- the largest number below n whose entry of f is p, 0 where there is none
unfoldable pub found : (ℕ → List ℕ) → List ℕ → ℕ → ℕ
found f p zero = 0
found f p (suc n) = pick (same p (f n)) n (found f p n)
