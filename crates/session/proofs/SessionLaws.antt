-- The single clock of a record is that record with the count 1, "else alike". Assumes nothing.
use Rattle.std.specs.Prelude.{◌≡◌, refl}
use Rattle.std.proofs.Common.{ap}
use Rattle.event.specs.declared.Event.{Event}
use Rattle.session.specs.Session.{single_of, ElseAlike}

-- "else alike": the single clock differs from its record in the count alone
pub single_alike : (e : Event) → ElseAlike (single_of e) e
single_alike e = refl

pub single_count : (e : Event) → (single_of e).count ≡ 1
single_count e = refl

-- so a record of count 1 is its own, and records that differ in their counts alone have one single clock
pub single_own : (e : Event) → e.count ≡ 1 → single_of e ≡ e
single_own e n = rw (← n) refl

pub single_same : (e f : Event) → ElseAlike e f → single_of e ≡ single_of f
single_same e f a = ap single_of a
