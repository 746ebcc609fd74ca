-- THE KINDS OF A RECORD, by number. Assumes nothing.
use Rattle.std.specs.Prelude.{◌≡◌, ℕ, ◌<◌, Result, MatchResult}
use Rattle.refusals.specs.declared.Refusal.{Refusal}
use Rattle.refusals.specs.declared.Refusal.TheVariants.{KindUnknown}
use Rattle.event.specs.declared.kind.EventKind.{EventKind}
use Rattle.event.specs.declared.kind.EventKind.TheVariants.{Write, Read, Clocks, Card, Insert, Lines}

-- a kind's number
abbrev pub number_of_kind : EventKind → ℕ
number_of_kind Write = 0
number_of_kind Read = 1
number_of_kind Clocks = 2
number_of_kind Card = 3
number_of_kind Insert = 4
number_of_kind Lines = 5

-- the kind with this number; a number above 5 is no kind's
abbrev pub Decodes : ℕ → Result EventKind Refusal → Type 0
Decodes n r = MatchResult r (λ k. number_of_kind k ≡ n) (λ e. (e ≡ KindUnknown) × (5 < n))
