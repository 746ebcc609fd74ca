-- The whole lines of a text from a place on, by the place that `line_end` answers; and the turns of the loop that collects events.
-- Assumes nothing.
use mathlib.Core.Path.{◌≡◌, refl, ap, ◌∙◌}
use mathlib.Core.List.{List, [], ◌∷◌}
use mathlib.Core.Bool.{Bool, true, false, ◌||◌, not}
use Prim.Native.Nat.{ℕ, suc, ◌+◌, ◌-◌, ◌≤◌, ◌<◌}
use native.Mathlib.Omega.{arith}
use lib.Dec.{eqb, leb}
use lib.ListN.{length, take, drop, length-drop}
use lib.Seq.{drop-drop, length-take-le}
use Rattle.laws.specs.Choice.{pick}
use Rattle.laws.proofs.ChoiceLaws.{never_both}
use Rattle.text.specs.Words.{in_line, run}
use Rattle.script.specs.Script.{Line, line_of}
use Rattle.script_lines.specs.declared.LineKind.{LineKind}
use Rattle.script_lines.specs.declared.LineKind.TheVariants.{Blank, Event, Other}
use Rattle.script_lines.specs.ScriptLines.{before, whole_lines, kind_of, kept_by, count_by, kind_number, IsKindOf, kind_kept, kind_count, taken_from}

whole : (l : List ℕ) → run in_line l < length l → whole_lines l ≡ take (run in_line l) l ∷ whole_lines (drop (suc (run in_line l)) l)
unfolding whole_lines before run
whole [] h = absurd (omega arith)
whole (b ∷ l) h = go (eqb b 10) refl h (whole l)
  where
    go : (t : Bool) → eqb b 10 ≡ t → pick (not t) (suc (run in_line l)) 0 < suc (length l) → (run in_line l < length l → whole_lines l ≡ take (run in_line l) l ∷ whole_lines (drop (suc (run in_line l)) l)) → whole_lines (b ∷ l) ≡ take (run in_line (b ∷ l)) (b ∷ l) ∷ whole_lines (drop (suc (run in_line (b ∷ l))) (b ∷ l))
    go true e k ih = rw e refl
    go false e k ih = rw (e, ih (omega arith)) refl

none : (l : List ℕ) → length l ≤ run in_line l → whole_lines l ≡ []
unfolding whole_lines before run
none [] h = refl
none (b ∷ l) h = go (eqb b 10) refl h (none l)
  where
    go : (t : Bool) → eqb b 10 ≡ t → suc (length l) ≤ pick (not t) (suc (run in_line l)) 0 → (length l ≤ run in_line l → whole_lines l ≡ []) → whole_lines (b ∷ l) ≡ []
    go true e k ih = absurd (omega arith)
    go false e k ih = rw (e, ih (omega arith)) refl

module _ (text : List ℕ) (at end : ℕ) (e : end ≡ at + run in_line (drop at text)) where
  pub at_le : at ≤ end
  at_le = omega arith

  -- the line that stands there ends in the text
  pub line_there : end < length text → whole_lines (drop at text) ≡ take (end - at) (drop at text) ∷ whole_lines (drop (end + 1) text)
  line_there h =
      let d = length-drop at text in
      let n : end - at ≡ run in_line (drop at text) = omega arith in
      let m : end + 1 ≡ at + suc (run in_line (drop at text)) = omega arith in
      whole (drop at text) (omega arith) ∙ rw (n, m, drop-drop (suc (run in_line (drop at text))) at text) refl

  -- none ends there
  pub no_line : length text ≤ end → whole_lines (drop at text) ≡ []
  no_line h = let d = length-drop at text in none (drop at text) (omega arith)

  -- the place past the line
  pub past : end < length text → at + (length (take (end - at) (drop at text)) + 1) ≡ end + 1
  past h = let d = length-drop at text in let n : end - at ≤ length (drop at text) = omega arith in rw (length-take-le (end - at) (drop at text) n) (omega arith)

-- neither of two tests is true
pub neither : (p q : Bool) → (p || q) ≡ false → q ≡ false
neither true q h = absurd (never_both true refl h)
neither false q h = h

-- a turn: no line is left, a line stops it, a line is taken
pub taken_end : (at n k : ℕ) (ws : List ℕ) (ls : List (List ℕ)) → ls ≡ [] → taken_from at n k ws ls ≡ (record { at = at; count = n; lines = k; other = false }, ws)
unfolding taken_from
taken_end at n k ws ls e = rw e refl

pub taken_stop : (at n k : ℕ) (ws l : List ℕ) (rest ls : List (List ℕ)) → ls ≡ l ∷ rest → (eqb (kind_of (line_of l)) 2 || leb 64 n) ≡ true → taken_from at n k ws ls ≡ (record { at = at; count = n; lines = k; other = eqb (kind_of (line_of l)) 2 }, ws)
unfolding taken_from
taken_stop at n k ws l rest ls e t = rw (e, t) refl

pub taken_more : (at n k : ℕ) (ws l : List ℕ) (rest ls : List (List ℕ)) → ls ≡ l ∷ rest → (eqb (kind_of (line_of l)) 2 || leb 64 n) ≡ false → taken_from at n k ws ls ≡ taken_from (at + (length l + 1)) (count_by (kind_of (line_of l)) n) (k + 1) (kept_by (kind_of (line_of l)) ws n (line_of l)) rest
unfolding taken_from
taken_more at n k ws l rest ls e t = rw (e, t) refl

-- by the kind of a line
pub kind_is : (k : LineKind) (l m : Line) → IsKindOf k l → l ≡ m → kind_number k ≡ kind_of m
kind_is Blank l m h e = h ∙ ap kind_of e
kind_is (Event x) l m h e = h.0 ∙ ap kind_of e
kind_is Other l m h e = h ∙ ap kind_of e

pub kept_is : (k : LineKind) (l m : Line) (ws : List ℕ) (n : ℕ) → IsKindOf k l → l ≡ m → kind_kept k ws n ≡ kept_by (kind_of m) ws n m
kept_is Blank l m ws n h e = rw (← e, ← h) refl
kept_is (Event x) l m ws n h e = rw (← e, ← h.0, h.1) refl
kept_is Other l m ws n h e = rw (← e, ← h) refl

pub count_is : (k : LineKind) (l m : Line) (n : ℕ) → IsKindOf k l → l ≡ m → kind_count k n ≡ count_by (kind_of m) n
count_is Blank l m n h e = rw (← e, ← h) refl
count_is (Event x) l m n h e = rw (← e, ← h.0) refl
count_is Other l m n h e = rw (← e, ← h) refl
