-- Append where there is room. A list and a place go together as a pair: entries are stored from the place on, and the place moves on.
-- From the capacity on nothing is stored. Definitions; the laws are in AppendLaws.
-- Assumes nothing.
use Rattle.std.specs.Prelude.{List, [], ◌∷◌, ℕ, ◌+◌, ltb, set}
use Rattle.laws.specs.Choice.{pick}

-- one entry more, where the place is below the capacity
unfoldable pub append : ℕ → List ℕ × ℕ → ℕ → List ℕ × ℕ
append capacity s x = pick (ltb s.1 capacity) (set s.0 s.1 x, s.1 + 1) s

-- entries one after the other
unfoldable pub append_all : ℕ → List ℕ × ℕ → List ℕ → List ℕ × ℕ
append_all capacity s [] = s
append_all capacity s (x ∷ l) = append_all capacity (append capacity s x) l
