-- The decimal digits of a number, and the value of digits. Definitions; the laws are in DecimalLaws.
-- Assumes nothing.
use Rattle.std.specs.Prelude.{List, [], ◌∷◌, ◌++◌, ℕ, zero, suc, ◌+◌, ◌*◌, ◌/◌, ◌%◌, ◌-◌, eqb, length}
use Rattle.laws.specs.Choice.{pick}
use Rattle.laws.specs.Lists.{blank}

-- the decimal digits of n, most significant first, none for 0; at most `room` of them
unfoldable pub decimal : ℕ → ℕ → List ℕ
decimal zero n = []
decimal (suc room) n = pick (eqb n 0) [] (decimal room (n / 10) ++ (n % 10 ∷ []))

-- a list with zeros before it, at least n places in all
unfoldable pub zeros_before : ℕ → List ℕ → List ℕ
zeros_before n l = blank (n - length l) ++ l

-- the value of digits to a base, after a value
unfoldable pub value_from : ℕ → ℕ → List ℕ → ℕ
value_from base v [] = v
value_from base v (d ∷ ds) = value_from base (v * base + d) ds
