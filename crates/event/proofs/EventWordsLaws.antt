-- A record is read back from its words; any words give a record that fits the machine's types.
-- Assumes nothing.
use Rattle.std.specs.Prelude.{◌≡◌, List, ℕ}
use Rattle.std.proofs.Common.{ap}
use Rattle.laws.proofs.WordsLaws.{cut_fits, cut_same}
use Rattle.event.specs.declared.Event.{Event}
use Rattle.event.specs.EventWords.{event_widths, event_words, event_from, event_of, TypedEvent}

pub event_back : (e : Event) → TypedEvent e → event_of (event_words e) ≡ e
unfolding event_of
event_back e t = ap event_from (cut_same event_widths (event_words e) t)

pub event_typed : (xs : List ℕ) → TypedEvent (event_of xs)
unfolding event_of
event_typed xs = cut_fits event_widths xs 0
