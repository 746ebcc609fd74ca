-- The records of words fit their widths; and the words of records stand for them, and for no others: reading them back gives the records.
-- Assumes nothing.
use Rattle.std.specs.Prelude.{◌≡◌, refl, List, [], ◌∷◌, ℕ}
use Rattle.std.proofs.Common.{arith}
use Rattle.laws.specs.Lists.{Each}
use Rattle.event.specs.declared.Event.{Event}
use Rattle.event.specs.EventWords.{event_of, TypedEvent}
use Rattle.event.proofs.EventWordsLaws.{event_typed}
use Rattle.event_words.specs.Words.{record_of, event_at, events_of, Words, words_of, all_words}

-- the records of words fit their widths
pub events_typed : (ws : List ℕ) → Each TypedEvent (events_of ws)
unfolding Each events_of record_of
events_typed [] = tt
events_typed (a ∷ []) = tt
events_typed (a ∷ b ∷ []) = tt
events_typed (a ∷ b ∷ c ∷ ws) = (event_typed _, events_typed ws)

-- each field is read back from a record's words
module _ (e : Event) (t : TypedEvent e) where
  abbrev back : Event
  back = event_at (words_of e) 0

  fields_back : (back.number ≡ e.number) × (back.count ≡ e.count) × (back.address ≡ e.address) × (back.kind ≡ e.kind) × (back.value ≡ e.value)
  unfolding record_of event_of
  fields_back = (
    omega (arith, t),
    omega (arith, t),
    omega (arith, t),
    omega (arith, t),
    omega (arith, t),
  )

  lines_back : (back.chip ≡ e.chip) × (back.scl ≡ e.scl) × (back.sda ≡ e.sda)
  unfolding record_of event_of
  lines_back = (omega (arith, t), omega (arith, t), omega (arith, t))

pub words_back : (es : List Event) → Each TypedEvent es → events_of (all_words es) ≡ es
unfolding events_of all_words Each
words_back [] t = refl
words_back (e ∷ es) t =
    let f = fields_back e t.0 in
    let l = lines_back e t.0 in
    rw (f.0, f.1, f.2, f.3, f.4, l.0, l.1, l.2, words_back es t.1) refl

-- the words of records that fit their widths are below 2^64
pub all_words_lem : (es : List Event) → Each TypedEvent es → Words (all_words es)
unfolding Each all_words
all_words_lem [] t = tt
all_words_lem (e ∷ es) t =
    let f = t.0 in
    (f.1.1.1.1.0, (omega (arith, f), (omega (arith, f), all_words_lem es t.1)))
