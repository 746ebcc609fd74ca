-- How a file grows by a word and by words, on a list and its length: the same as word_turn, word_end, pack_turn and pack_end (FileBufferLaws) say
-- of a file buffer. Assumes nothing.
use Rattle.std.specs.Prelude.{◌≡◌, refl, List, [], ◌∷◌, ◌++◌, ℕ, zero, suc, ◌+◌, ◌-◌, ◌/◌, ◌%◌, ◌≤◌, ◌<◌, length, get_or, drop}
use Rattle.std.proofs.Common.{sym, add-one, arith, drop_of_length-le}
use Rattle.laws.specs.Append.{append, append_all}
use Rattle.laws.proofs.AppendLaws.{append_none, append_two}
use Rattle.laws.specs.Words.{bytes_of, packed}
use Rattle.state_bodies.specs.FileBuffer.{capacity}

-- the loop over the bytes of a word
pub push_word_turn : (s : List ℕ × ℕ) (left n : ℕ) → 0 < left → append_all capacity (append capacity s (n % 256)) (bytes_of (left - 1) (n / 256)) ≡ append_all capacity s (bytes_of left n)
unfolding append_all bytes_of
push_word_turn s zero n h = absurd (omega arith)
push_word_turn s (suc k) n h =
    let e : suc k - 1 ≡ k = omega arith in
    rw e

pub push_word_end : (s : List ℕ × ℕ) (n : ℕ) → append_all capacity s (bytes_of 0 n) ≡ s
unfolding append_all bytes_of
push_word_end s n = refl

-- the loop over words; past the last width a word has no bytes
more : (ws xs : List ℕ) (i : ℕ) → i < length xs → packed (drop i ws) (drop i xs) ≡ bytes_of (get_or ws i 0) (get_or xs i 0) ++ packed (drop (suc i) ws) (drop (suc i) xs)
unfolding packed bytes_of
more ws [] i h = absurd (omega arith)
more [] (x ∷ xs) zero h = refl
more [] (x ∷ xs) (suc i) h = refl
more (w ∷ ws) (x ∷ xs) zero h = refl
more (w ∷ ws) (x ∷ xs) (suc i) h = more ws xs i (omega arith)

none : (ws : List ℕ) → packed ws [] ≡ []
unfolding packed
none [] = refl
none (w ∷ ws) = refl

pub push_words_turn : (s : List ℕ × ℕ) (ws xs : List ℕ) (i : ℕ) → i < length xs →
    append_all capacity (append_all capacity s (bytes_of (get_or ws i 0) (get_or xs i 0))) (packed (drop (i + 1) ws) (drop (i + 1) xs)) ≡ append_all capacity s (packed (drop i ws) (drop i xs))
push_words_turn s ws xs i h = rw (more ws xs i h, add-one i) (sym (append_two capacity s _ _))

pub push_words_end : (s : List ℕ × ℕ) (ws xs : List ℕ) (i : ℕ) → length xs ≤ i → append_all capacity s (packed (drop i ws) (drop i xs)) ≡ s
push_words_end s ws xs i h = rw (drop_of_length-le xs h, none (drop i ws)) (append_none capacity s)
