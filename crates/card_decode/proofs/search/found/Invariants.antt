-- `card_decode::search::found` meets its contract: the invariant is that the search below the digits that are left is the search below 10.
-- Assumes nothing.
use Rattle.std.proofs.Common.{◌≡◌, ℕ, ◌≤◌, List}
use Rattle.laws.specs.Search.{found}
use Rattle.card_decode.proofs.search.found.Given as goal

abbrev pub invariant-loop-digit : goal.invariant-loop-digit
invariant-loop-digit g l = (l.digit ≤ 10) × ((f : ℕ → List ℕ) → ((k : ℕ) (r : _) → goal.F-post g l.entry k r → r.now ≡ f k) → found f l.part l.digit ≡ found f l.part 10)
