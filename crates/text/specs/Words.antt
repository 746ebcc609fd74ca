-- The words of a line, apart by spaces, and what stands before its comment. Characters are their codes in ASCII. Read downwards.
-- Assumes nothing.
use Rattle.std.specs.Prelude.{List, [], ◌∷◌, Bool, true, false, ◌||◌, not, ℕ, suc, eqb, take}
use Rattle.laws.specs.Choice.{pick}

-- space, tab and carriage return
abbrev pub is_space : ℕ → Bool
is_space b = (eqb b 32 || eqb b 9) || eqb b 13

abbrev pub in_word : ℕ → Bool
in_word b = not (is_space b)

-- before a comment: not the number sign
abbrev pub in_code : ℕ → Bool
in_code b = not (eqb b 35)

-- before a line's end
abbrev pub in_line : ℕ → Bool
in_line b = not (eqb b 10)

-- how many entries at a list's front are such
unfoldable pub run : (ℕ → Bool) → List ℕ → ℕ
run f [] = 0
run f (x ∷ l) = pick (f x) (suc (run f l)) 0

-- a line without its comment
abbrev pub code_of : List ℕ → List ℕ
code_of l = take (run in_code l) l

-- whether a word begins a list
unfoldable pub opens : List ℕ → Bool
opens [] = false
opens (b ∷ l) = in_word b

-- a byte put before the first word
unfoldable pub joined : ℕ → List (List ℕ) → List (List ℕ)
joined b [] = (b ∷ []) ∷ []
joined b (w ∷ ws) = (b ∷ w) ∷ ws

-- the words of a line: a byte that is no space belongs to the word that comes right after it, or is a word of its own
unfoldable pub words : List ℕ → List (List ℕ)
words [] = []
words (b ∷ l) = pick (is_space b) (words l) (pick (opens l) (joined b (words l)) ((b ∷ []) ∷ words l))

-- the first word, empty where there is none, and the words after it
unfoldable pub first : List (List ℕ) → List ℕ
first [] = []
first (w ∷ ws) = w

unfoldable pub rest : List (List ℕ) → List (List ℕ)
rest [] = []
rest (w ∷ ws) = ws

unfoldable pub none : List (List ℕ) → Bool
none [] = true
none (w ∷ ws) = false
