-- What the check reads off a list of modules, and its answer. Read downwards: digit_in, shown8, shown13, decoded_of.
-- It looks at no guard, quiet zone or check digit: what it reads it encodes again and compares. The theorems are in DecodeLaws.
-- Assumes nothing.
use Rattle.std.specs.Prelude.{◌≡◌, Bool, List, [], ◌∷◌, ◌++◌, ℕ, zero, suc, ◌^◌, ◌≤◌, ◌<◌, length, take, drop, replicate, Result, Ok, Err}
use Rattle.laws.specs.Choice.{pick}
use Rattle.laws.specs.Lists.{same}
use Rattle.laws.specs.Search.{found}
use Rattle.refusals.specs.declared.Refusal.{Refusal}
use Rattle.refusals.specs.Refusals.{refusal_number}
use Rattle.digits.specs.declared.Digits.{Digits}
use Rattle.digits.specs.Digits.{digits_of, digits_in}
use Rattle.barcode.specs.Barcode.{left_odd, left_even, right, pattern_of, parity_of, modules_of}

-- the digit whose pattern in a set is p, 0 where there is none
unfoldable pub digit_in : ℕ → List ℕ → ℕ
digit_in s p = found (pattern_of s) p 10

-- the set of a pattern left of the centre: left even where it is one of those, else left odd
unfoldable pub set_of : List ℕ → ℕ
set_of p = pick (same p (pattern_of left_even (digit_in left_even p))) left_even left_odd

-- the leading digit that gives these sets, 0 where there is none
unfoldable pub leading_of : List ℕ → ℕ
leading_of ss = found parity_of ss 10

-- the digits that stand at the front of l, seven modules each, each by its set
unfoldable pub read_in : List ℕ → List ℕ → List ℕ
read_in [] l = []
read_in (s ∷ ss) l = digit_in s (take 7 l) ∷ read_in ss (drop 7 l)

-- the sets of the n digits that stand at the front of l
unfoldable pub sets_in : ℕ → List ℕ → List ℕ
sets_in zero l = []
sets_in (suc n) l = set_of (take 7 l) ∷ sets_in n (drop 7 l)

-- the digits of a list as an 8-digit card's: four left of the centre, four right of it, the check digit last
unfoldable pub shown8 : List ℕ → List ℕ
shown8 l = read_in (replicate 4 left_odd) (drop 36 l) ++ read_in (replicate 4 right) (drop 69 l)

-- as a 13-digit card's: the leading digit by the sets of the six left of the centre, these six, and six right of it
unfoldable pub shown13 : List ℕ → List ℕ
shown13 l =
    leading_of (sets_in 6 (drop 36 l)) ∷ (read_in (sets_in 6 (drop 36 l)) (drop 36 l) ++ read_in (replicate 6 right) (drop 83 l))

-- an answer: the digits that a list shows, or the number of its refusal and no digits
pub record Decoded : Type 0 where
  pub digits : Digits
  pub refusal : ℕ

-- an outcome of the code as an answer
abbrev pub answer_of : Result Digits Refusal → Decoded
answer_of (Ok d) = record { digits = d; refusal = 0 }
answer_of (Err e) = record { digits = digits_in []; refusal = refusal_number e }

-- the two kinds of answer
unfoldable pub accept : List ℕ → Decoded
accept ds = record { digits = digits_in ds; refusal = 0 }

unfoldable pub refuse : Decoded
refuse = record { digits = digits_in []; refusal = 16 }

-- the modules of these digits are the list, no more and no less
abbrev pub is_yielded : List ℕ → List ℕ → Bool
is_yielded ds l = same (modules_of ds) l

-- the answer: the digits that yield the list when they are encoded again, else 16
unfoldable pub decoded_of : List ℕ → Decoded
decoded_of l =
    pick (is_yielded (shown8 l) l) (accept (shown8 l))
    (pick (is_yielded (shown13 l) l) (accept (shown13 l)) refuse)

-- a card, of a number of 64 bits and a count of at most 20, has n digits, and the list is what it shows
pub record YieldsBy (shown : ℕ → ℕ → List ℕ) (n : ℕ) (l : List ℕ) : Type 0 where
  pub number : ℕ
  pub count : ℕ
  pub fits : number < 2 ^ 64
  pub counted : count ≤ 20
  pub digits : length (digits_of number count) ≡ n
  pub modules : shown number count ≡ l

-- by the modules of its digits. Crate card_insert has it by a board's reader
abbrev pub Yields : ℕ → List ℕ → Type 0
Yields n l = YieldsBy (λ number count. modules_of (digits_of number count)) n l
