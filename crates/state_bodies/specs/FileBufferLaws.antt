-- Laws of how the code builds a file: what a byte more makes, the loops' next turns, and that what has room stands at the front.
-- Assumes nothing.
use Rattle.std.specs.Prelude.{◌≡◌, refl, ◌⊎◌, Bool, true, false, ltb, List, [], ◌∷◌, ◌++◌, ℕ, zero, suc, ◌+◌, ◌-◌, ◌/◌, ◌%◌, ◌≤◌, ◌<◌, length, get_or, take, drop, min, set}
use Rattle.std.proofs.Common.{sym, ap, ◌∙◌, inl, inr, add-one, arith, ltb-true, ltb-false, length-take, drop-drop}
use mathlib.Core.List.{append_assoc}
use Rattle.std.proofs.lemmas.List.Edits.{sets, sets-eq}
use Rattle.laws.specs.Append.{append_all}
use Rattle.laws.proofs.AppendLaws.{append_one, append_two, append_room, append_full, append_fitting, append_blank}
use Rattle.laws.specs.Lists.{blank}
use Rattle.laws.proofs.ListsLaws.{length_padded, take_padded}
use Rattle.laws.specs.Words.{bytes_of, packed}
use Rattle.state_bodies.specs.declared.file_buffer.FileBuffer.{FileBuffer}
use Rattle.state_bodies.specs.FileBuffer.{capacity, buffer_of, appended}

-- nothing more, two lists one after the other, and a byte, where there is room and where there is none
pub appended_none : (file : FileBuffer) → appended file [] ≡ file
unfolding appended append_all
appended_none file = refl

pub appended_two : (file : FileBuffer) (a b : List ℕ) → appended file (a ++ b) ≡ appended (appended file a) b
unfolding appended
appended_two file a b = ap buffer_of (append_two capacity (file.bytes, file.length) a b)

pub appended_room : (file : FileBuffer) (x : ℕ) → file.length < capacity → appended file (x ∷ []) ≡ record { length = file.length + 1; bytes = set file.bytes file.length x }
unfolding appended
appended_room file x h = rw (append_one, append_room capacity file.bytes file.length x h) refl

pub appended_full : (file : FileBuffer) (x : ℕ) → capacity ≤ file.length → appended file (x ∷ []) ≡ file
unfolding appended
appended_full file x h = rw (append_one, append_full capacity file.bytes file.length x h) refl

-- as many bytes as have room, copied whole: from the place on, or from the end where the place is past it
sets_from : (t p : List ℕ) (at start : ℕ) → (at ≡ start) ⊎ (length p ≡ 0) → sets t at p ≡ sets t start p
sets_from t p at start (inl e) = ap (λ (n : ℕ). sets t n p) e
sets_from t [] at start (inr z) = refl
sets_from t (x ∷ p) at start (inr z) = absurd (omega arith)

take_again : (m : ℕ) (l : List ℕ) → take (length (take m l)) l ≡ take m l
take_again zero l = refl
take_again (suc m) [] = refl
take_again (suc m) (x ∷ l) = ap (λ (p : List ℕ). x ∷ p) (take_again m l)

room_or_none : (at start n : ℕ) → start ≡ min at capacity → n ≤ capacity - start → (at ≡ start) ⊎ (n ≡ 0)
room_or_none at start n s h = go (ltb at capacity) refl
  where
    go : (b : Bool) → ltb at capacity ≡ b → (at ≡ start) ⊎ (n ≡ 0)
    go true e = inl (omega (arith, ltb-true at capacity e))
    go false e = inr (omega (arith, ltb-false at capacity e))

pub appended_copy : (file : FileBuffer) (l : List ℕ) (start : ℕ) → start ≡ min file.length capacity → length file.bytes ≡ capacity →
    ◌≡◌ {A = FileBuffer}
    (record { length = file.length + length (take (capacity - start) l); bytes = take start file.bytes ++ (take (capacity - start) l ++ drop (start + length (take (capacity - start) l) - start) (drop start file.bytes)) })
    (appended file l)
unfolding appended
appended_copy file l start s w =
    let p : List ℕ = take (capacity - start) l in
    let n : length p ≡ min (capacity - start) (length l) = length-take (capacity - start) l in
    let fits : length p ≡ min (length l) (capacity - file.length) = omega arith in
    let moved = sets_from file.bytes p file.length start (room_or_none file.length start (length p) s (omega arith)) in
    let e : sets file.bytes start p ≡ take start file.bytes ++ p ++ drop (start + length p) file.bytes = sets-eq p file.bytes start (omega arith) in
    let back : start + length p - start ≡ length p = omega arith in
    let gone : drop (start + length p) file.bytes ≡ drop (start + length p - start) (drop start file.bytes) = rw back (sym (drop-drop (length p) start file.bytes)) in
    sym (ap buffer_of (append_fitting capacity file.bytes file.length l (length p) fits ∙ rw (take_again (capacity - start) l, moved, e, gone, append_assoc) refl))

-- the loop over the bytes of a word
pub word_turn : (file : FileBuffer) (left n : ℕ) → 0 < left → appended (appended file (n % 256 ∷ [])) (bytes_of (left - 1) (n / 256)) ≡ appended file (bytes_of left n)
unfolding bytes_of
word_turn file zero n h = absurd (omega arith)
word_turn file (suc k) n h =
    let e : suc k - 1 ≡ k = omega arith in
    rw e (sym (appended_two file (n % 256 ∷ []) (bytes_of k (n / 256))))

pub word_end : (file : FileBuffer) (n : ℕ) → appended file (bytes_of 0 n) ≡ file
unfolding bytes_of
word_end file n = appended_none file

-- the loop over words; past the last width a word has no bytes
packed_more : (ws xs : List ℕ) (i : ℕ) → i < length xs → packed (drop i ws) (drop i xs) ≡ bytes_of (get_or ws i 0) (get_or xs i 0) ++ packed (drop (suc i) ws) (drop (suc i) xs)
unfolding packed bytes_of
packed_more ws [] i h = absurd (omega arith)
packed_more [] (x ∷ xs) zero h = refl
packed_more [] (x ∷ xs) (suc i) h = refl
packed_more (w ∷ ws) (x ∷ xs) zero h = refl
packed_more (w ∷ ws) (x ∷ xs) (suc i) h = packed_more ws xs i (omega arith)

packed_nil : (ws : List ℕ) → packed ws [] ≡ []
unfolding packed
packed_nil [] = refl
packed_nil (w ∷ ws) = refl

pub pack_turn : (file : FileBuffer) (ws xs : List ℕ) (i : ℕ) → i < length xs →
    appended (appended file (bytes_of (get_or ws i 0) (get_or xs i 0))) (packed (drop (i + 1) ws) (drop (i + 1) xs)) ≡ appended file (packed (drop i ws) (drop i xs))
pack_turn file ws xs i h = rw (packed_more ws xs i h, add-one i) (sym (appended_two file _ _))

packed_past : (ws xs : List ℕ) (i : ℕ) → min (length ws) (length xs) ≤ i → packed (drop i ws) (drop i xs) ≡ []
unfolding packed
packed_past [] xs zero h = refl
packed_past [] xs (suc i) h = refl
packed_past (w ∷ ws) [] zero h = refl
packed_past (w ∷ ws) [] (suc i) h = packed_nil (drop i ws)
packed_past (w ∷ ws) (x ∷ xs) zero h = absurd (omega arith)
packed_past (w ∷ ws) (x ∷ xs) (suc i) h = packed_past ws xs i (omega arith)

pub pack_end : (file : FileBuffer) (ws xs : List ℕ) (i : ℕ) → min (length ws) (length xs) ≤ i → appended file (packed (drop i ws) (drop i xs)) ≡ file
pack_end file ws xs i h = rw (packed_past ws xs i h) (appended_none file)

-- a file that has room is the first bytes of the buffer
module _ (f : FileBuffer) (l : List ℕ) (h : length l ≤ capacity) (e : f ≡ buffer_of (append_all capacity (blank capacity, 0) l)) where
  pub file_front : take f.length f.bytes ≡ l
  file_front = rw (e, append_blank capacity l h) (take_padded capacity l)

  pub file_length_lem : f.length ≡ length l
  file_length_lem = rw (e, append_blank capacity l h) refl

  pub file_long : length f.bytes ≡ capacity
  file_long = rw (e, append_blank capacity l h) (length_padded capacity l h)
