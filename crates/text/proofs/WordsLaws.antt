-- Laws of words: the first word of a line and what follows it, by the places that `skip_spaces` and `word_end` answer.
-- Assumes nothing.
use Rattle.std.specs.Prelude.{◌≡◌, List, [], ◌∷◌, Bool, true, false, ℕ, suc, ◌+◌, ◌-◌, ◌≤◌, ◌<◌, drop}
use Rattle.std.proofs.Math.Path.{refl, ap}
use Rattle.std.proofs.Common.{sym, ◌∙◌, length-drop, drop-drop}
use native.Mathlib.Omega.{arith}
use Rattle.std.proofs.Math.ListN.{length, take, drop_of_length-le}
use Rattle.std.proofs.Math.Seq.{take-nil}
use Rattle.std.proofs.Math.Dec.{leb}
use Rattle.std.proofs.Math.Decide.{dec_lt}
use borrow.Author.Tests.{lt-leb, le-leb}
use Rattle.laws.specs.Choice.{pick}
use Rattle.text.specs.Words.{is_space, in_word, run, opens, joined, words, first, rest, none}

pub run_le : (f : ℕ → Bool) (l : List ℕ) → run f l ≤ length l
unfolding run
run_le f [] = omega arith
run_le f (x ∷ l) = go (f x) (run_le f l)
  where
    go : (t : Bool) → run f l ≤ length l → pick t (suc (run f l)) 0 ≤ suc (length l)
    go true h = omega arith
    go false h = omega arith

-- nothing is left of a run past it
pub run_done : (f : ℕ → Bool) (l : List ℕ) → run f (drop (run f l) l) ≡ 0
unfolding run
run_done f [] = refl
run_done f (x ∷ l) = go (f x) refl (run_done f l)
  where
    go : (t : Bool) → f x ≡ t → run f (drop (run f l) l) ≡ 0 → run f (drop (pick t (suc (run f l)) 0) (x ∷ l)) ≡ 0
    go true e h = h
    go false e h = rw e refl

-- spaces before the words
words_spaces : (l : List ℕ) → words l ≡ words (drop (run is_space l) l)
unfolding words run
words_spaces [] = refl
words_spaces (b ∷ l) = go (is_space b) refl (words_spaces l)
  where
    go : (t : Bool) → is_space b ≡ t → words l ≡ words (drop (run is_space l) l) → words (b ∷ l) ≡ words (drop (pick t (suc (run is_space l)) 0) (b ∷ l))
    go true e h = rw e h
    go false e h = refl

-- the first word and those after it
words_word : (b : ℕ) (l : List ℕ) → is_space b ≡ false → words (b ∷ l) ≡ take (run in_word (b ∷ l)) (b ∷ l) ∷ words (drop (run in_word (b ∷ l)) (b ∷ l))
unfolding words run opens joined
words_word b [] e = rw e refl
words_word b (x ∷ l) e = go (is_space x) refl (words_word x l)
  where
    go : (t : Bool) → is_space x ≡ t → (is_space x ≡ false → words (x ∷ l) ≡ take (run in_word (x ∷ l)) (x ∷ l) ∷ words (drop (run in_word (x ∷ l)) (x ∷ l))) → words (b ∷ x ∷ l) ≡ take (run in_word (b ∷ x ∷ l)) (b ∷ x ∷ l) ∷ words (drop (run in_word (b ∷ x ∷ l)) (b ∷ x ∷ l))
    go true q h = rw (e, q, q) refl
    go false q h = let r = rw q at (h q) in rw (e, q, r) refl

word_some : (l : List ℕ) → run is_space l ≡ 0 → 0 < length l → 1 ≤ run in_word l
unfolding run
word_some [] e h = absurd (omega arith)
word_some (b ∷ l) e h = go (is_space b) refl e
  where
    go : (t : Bool) → is_space b ≡ t → pick t (suc (run is_space l)) 0 ≡ 0 → 1 ≤ pick (in_word b) (suc (run in_word l)) 0
    go true q k = absurd (omega arith)
    go false q k = rw q (omega arith)

word_first : (l : List ℕ) → run is_space l ≡ 0 → 0 < length l → words l ≡ take (run in_word l) l ∷ words (drop (run in_word l) l)
unfolding run
word_first [] e h = absurd (omega arith)
word_first (b ∷ l) e h = go (is_space b) refl e
  where
    go : (t : Bool) → is_space b ≡ t → pick t (suc (run is_space l)) 0 ≡ 0 → words (b ∷ l) ≡ take (run in_word (b ∷ l)) (b ∷ l) ∷ words (drop (run in_word (b ∷ l)) (b ∷ l))
    go true q k = absurd (omega arith)
    go false q k = words_word b l q

-- from a place on, `start` is past the spaces and `stop` past the word there
module _ (code : List ℕ) (from start stop : ℕ) (es : start ≡ from + run is_space (drop from code)) (ew : stop ≡ start + run in_word (drop start code)) where
  from_start : drop start code ≡ drop (run is_space (drop from code)) (drop from code)
  from_start = rw (es, drop-drop (run is_space (drop from code)) from code) refl

  pub no_space : run is_space (drop start code) ≡ 0
  no_space = rw from_start (run_done is_space (drop from code))

  pub start_in : from ≤ length code → start ≤ length code
  start_in h = let k = run_le is_space (drop from code) in let d = length-drop from code in omega arith

  pub stop_in : from ≤ length code → stop ≤ length code
  stop_in h = let s = start_in h in let k = run_le in_word (drop start code) in let d = length-drop start code in omega arith

  pub stop_past : start < length code → start < stop
  stop_past h = let k = word_some (drop start code) no_space (rw (length-drop start code) (omega arith)) in omega arith

  pub start_le : start ≤ stop
  start_le = omega arith

  -- a word stands there
  pub words_some : start < length code → words (drop from code) ≡ take (stop - start) (drop start code) ∷ words (drop stop code)
  words_some h =
      let n : stop - start ≡ run in_word (drop start code) = omega arith in
      let f = word_first (drop start code) no_space (rw (length-drop start code) (omega arith)) in
      words_spaces (drop from code) ∙ rw (← from_start) (f ∙ rw (n, ew, drop-drop (run in_word (drop start code)) start code) refl)

  -- none stands there
  pub words_none : length code ≤ start → words (drop from code) ≡ []
  unfolding words
  words_none h = words_spaces (drop from code) ∙ rw (← from_start, drop_of_length-le code h) refl

  -- the words past the spaces
  pub words_skip : words (drop from code) ≡ words (drop start code)
  words_skip = words_spaces (drop from code) ∙ ap words (sym from_start)

  -- the first word, or the empty one; the words after it; whether there is none
  pub first_at : first (words (drop from code)) ≡ take (stop - start) (drop start code)
  unfolding first
  first_at = go (dec_lt start (length code))
    where
      go : Dec (start < length code) → first (words (drop from code)) ≡ take (stop - start) (drop start code)
      go (yes h) = rw (words_some h) refl
      go (no n) = let k : length code ≤ start = omega arith in rw (words_none k, drop_of_length-le code k, take-nil (stop - start)) refl

  pub rest_at : rest (words (drop from code)) ≡ words (drop stop code)
  unfolding rest words
  rest_at = go (dec_lt start (length code))
    where
      go : Dec (start < length code) → rest (words (drop from code)) ≡ words (drop stop code)
      go (yes h) = ap rest (words_some h)
      go (no n) = let k : length code ≤ start = omega arith in let m : length code ≤ stop = omega arith in ap rest (words_none k) ∙ ap words (sym (drop_of_length-le code m))

  pub none_at : none (words (drop from code)) ≡ leb (length code) start
  unfolding none
  none_at = go (dec_lt start (length code))
    where
      go : Dec (start < length code) → none (words (drop from code)) ≡ leb (length code) start
      go (yes h) = rw (words_some h, lt-leb (length code) start h) refl
      go (no n) = let k : length code ≤ start = omega arith in rw (words_none k, le-leb (length code) start k) refl
