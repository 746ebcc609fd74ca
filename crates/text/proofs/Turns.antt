-- A run at a list's front as `take_while` counts it, and two lists as `==` compares them. Assumes nothing.
use Rattle.std.specs.Prelude.{◌≡◌, refl, List, [], ◌∷◌, Bool, true, false, ◌&&◌, cond, ℕ, suc, ◌+◌, eqb, length, take}
use Rattle.std.proofs.Common.{ap, arith, sym, ◌∙◌}
use Rattle.std.proofs.lemmas.List.Folds.{length-prefix_len}
use Rattle.std.specs.List.{prefix_len}
use Rattle.std.specs.Cmp.Lexicographic.{pointwise}
use Rattle.laws.specs.Choice.{pick}
use Rattle.laws.specs.Lists.{same}
use Rattle.text.specs.Words.{run}

pub run_prefix : (f : ℕ → Bool) (l : List ℕ) → run f l ≡ prefix_len f l
unfolding run
run_prefix f [] = refl
run_prefix f (x ∷ l) = go (f x) (run_prefix f l)
  where
    go : (t : Bool) → run f l ≡ prefix_len f l → pick t (suc (run f l)) 0 ≡ cond t (1 + prefix_len f l) 0
    go true e = omega (arith, e)
    go false e = refl

pub same_pointwise : (a b : List ℕ) → pointwise eqb a b ≡ same a b
unfolding same
same_pointwise [] [] = refl
same_pointwise [] (y ∷ b) = refl
same_pointwise (x ∷ a) [] = refl
same_pointwise (x ∷ a) (y ∷ b) = ap (λ (t : Bool). eqb x y && t) (same_pointwise a b)

-- as many as `take_while` gives
pub run_counted : (f : ℕ → Bool) (l : List ℕ) (r : ℕ) → r ≡ length (take (prefix_len f l) l) → r ≡ run f l
run_counted f l r e = e ∙ length-prefix_len f l ∙ sym (run_prefix f l)
