-- The turns of the loop that reads numbers; and a word has a byte at least. Assumes nothing.
use Rattle.std.proofs.Common.{◌≡◌, refl, List, [], ◌∷◌, Bool, true, false, ℕ, ◌≤◌, length, arith, Result, Ok, Err}
use Rattle.laws.specs.Choice.{pick}
use Rattle.text.specs.Words.{is_space, opens, joined, words}
use Rattle.number.specs.Number.{Number, as_number, number_of}
use Rattle.number.specs.declared.NumberError.{NumberError}
use Rattle.number.specs.declared.NumberError.TheVariants.{NotANumber, TooLarge}
use Rattle.script.specs.Faults.{error_number, IsFaultOf}
use Rattle.script.specs.declared.Line.{Line as Parsed}
use Rattle.std.specs.Result.{IsErrAnd}
use Rattle.script.specs.declared.fault.LineFault.{LineFault}
use Rattle.commands.specs.declared.Command.{Command}
use Rattle.script.specs.Script.{Numbers, with_number, read_words, numbers_of, fault_of, fault_line, as_line, numbers_line}

-- a number, or what is wrong with a word; and no word is left
pub read_more : (s : Numbers) (w : List ℕ) (ws l : List (List ℕ)) (v : ℕ) → l ≡ w ∷ ws → ◌≡◌ {A = Number} (record { value = v; fault = 0 }) (number_of w) → read_words (with_number s v) ws ≡ read_words s l
unfolding read_words
read_more s w ws l v e n = rw (e, ← n) refl

pub read_fault : (s : Numbers) (w : List ℕ) (ws l : List (List ℕ)) (e : NumberError) → l ≡ w ∷ ws → as_number (Err e) ≡ number_of w → error_number e ≡ (read_words s l).fault
unfolding read_words
read_fault s w ws l NotANumber e f = rw (e, ← f) refl
read_fault s w ws l TooLarge e f = rw (e, ← f) refl

pub read_end : (s : Numbers) (l : List (List ℕ)) → l ≡ [] → read_words s l ≡ s
unfolding read_words
read_end s l e = rw e refl

-- words of which one is no number are a line with its fault
refused_at : (c : Command) (chr : Bool) (ws : List (List ℕ)) (e : NumberError) → error_number e ≡ (numbers_of ws).fault → fault_line (error_number e) ≡ numbers_line c chr ws
unfolding numbers_line fault_of
refused_at c chr ws NotANumber h = rw (← h) refl
refused_at c chr ws TooLarge h = rw (← h) refl

pub numbers_refused : (c : Command) (chr : Bool) (ws : List (List ℕ)) (e : NumberError) (r : Result Parsed LineFault) → error_number e ≡ (numbers_of ws).fault → IsErrAnd r (IsFaultOf e) → as_line r ≡ numbers_line c chr ws
numbers_refused c chr ws e (Ok x) h k = absurd k
numbers_refused c chr ws e (Err f) h k = rw k (refused_at c chr ws e h)

-- a word is not empty
pub word_long : (l w : List ℕ) (ws : List (List ℕ)) → words l ≡ w ∷ ws → 1 ≤ length w
unfolding words joined
word_long [] w ws e = absurd (cc)
word_long (b ∷ l) w ws e = go (is_space b) (opens l) (words l) (word_long l w ws) e
  where
    go : (t p : Bool) (vs : List (List ℕ)) → (vs ≡ w ∷ ws → 1 ≤ length w) → pick t vs (pick p (joined b vs) ((b ∷ []) ∷ vs)) ≡ w ∷ ws → 1 ≤ length w
    go true p vs ih e = ih e
    go false true [] ih e = let k : b ∷ [] ≡ w = cc in rw (← k) (omega arith)
    go false true (v ∷ vs) ih e = let k : b ∷ v ≡ w = cc in rw (← k) (omega arith)
    go false false vs ih e = let k : b ∷ [] ≡ w = cc in rw (← k) (omega arith)
