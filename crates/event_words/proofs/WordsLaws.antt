-- Laws of records as words. Assumes nothing.
use Rattle.std.specs.Prelude.{◌≡◌, refl, List, [], ◌∷◌, ℕ, suc, ◌+◌, ◌*◌, ◌/◌, ◌≤◌, length, drop}
use Rattle.std.proofs.Common.{arith, drop-cons}
use Rattle.event_words.specs.Words.{event_at, events_of}

-- as many records as whole threes of words
pub length_events : (ws : List ℕ) → length (events_of ws) ≡ length ws / 3
unfolding events_of
length_events [] = refl
length_events (a ∷ []) = refl
length_events (a ∷ b ∷ []) = refl
length_events (a ∷ b ∷ c ∷ ws) = let k = length_events ws in omega (arith, k)

-- record i stands in front of those from the next one on
pub events_from : (ws : List ℕ) (i : ℕ) → 3 * i + 3 ≤ length ws → events_of (drop (3 * i) ws) ≡ event_at ws i ∷ events_of (drop (3 * (i + 1)) ws)
unfolding events_of
events_from ws i h =
    let one : suc (3 * i) ≡ 3 * i + 1 = omega arith in
    let two : suc (3 * i + 1) ≡ 3 * i + 2 = omega arith in
    let three : suc (3 * i + 2) ≡ 3 * (i + 1) = omega arith in
    rw (drop-cons ws (3 * i) 0 (omega arith), one, drop-cons ws (3 * i + 1) 0 (omega arith), two, drop-cons ws (3 * i + 2) 0 (omega arith), three) refl
