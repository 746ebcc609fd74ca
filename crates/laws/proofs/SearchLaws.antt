-- Laws of a search: it ends below its bound; the entries are distinct exactly if each is found at its own place; a loop's turns.
-- Assumes nothing.
use Rattle.std.specs.Prelude.{◌≡◌, Bool, true, false, List, eqb}
use Rattle.std.proofs.Math.Path.{refl}
use Rattle.std.proofs.Common.{sym, ap, ◌∙◌, eqb-true}
use Prim.Native.Nat.{ℕ, zero, suc, ◌-◌, ◌≤◌, ◌<◌}
use Rattle.std.proofs.Math.Decide.{ℕ_discrete}
use native.Mathlib.Omega.{arith}
use Rattle.laws.specs.Choice.{pick, below}
use Rattle.laws.proofs.ChoiceLaws.{never_both, below_at, pick_all}
use Rattle.laws.specs.Lists.{same}
use Rattle.laws.proofs.ListsLaws.{same_refl, same_true}
use Rattle.laws.specs.Search.{found}

pub found_below : (f : ℕ → List ℕ) (p : List ℕ) (n m : ℕ) → n ≤ m → 0 < m → found f p n < m
unfolding found
found_below f p zero m h z = z
found_below f p (suc n) m h z = pick_all (λ (k : ℕ). k < m) (same p (f n)) n (found f p n) (λ t. omega arith) (λ t. found_below f p n m (omega arith) z)

-- each entry is found at its own place: a test that is computed once over a whole table. Then the entries are distinct
unfoldable pub own : (ℕ → List ℕ) → ℕ → ℕ → Bool
own f n k = eqb (found f (f k) n) k

pub distinct : (f : ℕ → List ℕ) (n : ℕ) → below (own f n) n ≡ true → (j k : ℕ) → j < n → k < n → f j ≡ f k → j ≡ k
unfolding own
distinct f n all j k hj hk e =
    sym (eqb-true _ _ (below_at (own f n) n j all hj)) ∙ ap (λ (p : List ℕ). found f p n) e ∙ eqb-true _ _ (below_at (own f n) n k all hk)

-- and where they are distinct, each is found at its own place
pub found_own : (f : ℕ → List ℕ) (n : ℕ) → ((j k : ℕ) → j < n → k < n → f j ≡ f k → j ≡ k) → (d : ℕ) → d < n → found f (f d) n ≡ d
unfolding found
found_own f zero once d h = absurd (omega arith)
found_own f (suc n) once d h = go (ℕ_discrete d n) (same (f d) (f n)) refl (λ (k : d < n). found_own f n (λ i j hi hj. once i j (omega arith) (omega arith)) d k)
  where
    go : Dec (d ≡ n) → (t : Bool) → same (f d) (f n) ≡ t → (d < n → found f (f d) n ≡ d) → pick t n (found f (f d) n) ≡ d
    go w true e lower = sym (once d n h (omega arith) (same_true _ _ e))
    go (yes w) false e lower = absurd (never_both _ (sym (ap (λ (k : ℕ). same (f d) (f k)) w) ∙ same_refl (f d)) e)
    go (no w) false e lower = lower (omega (arith, w))

-- the turns of a loop that counts down: found at this turn, not at this turn, and the end
module _ (f : ℕ → List ℕ) (p : List ℕ) where
  pub found_here : (n : ℕ) → 0 < n → same p (f (n - 1)) ≡ true → n - 1 ≡ found f p n
  unfolding found
  found_here zero h e = absurd (omega arith)
  found_here (suc n) h e = let k : suc n - 1 ≡ n = omega arith in rw (k, (rw k at e)) refl

  pub found_on : (n : ℕ) → 0 < n → same p (f (n - 1)) ≡ false → found f p (n - 1) ≡ found f p n
  unfolding found
  found_on zero h e = absurd (omega arith)
  found_on (suc n) h e = let k : suc n - 1 ≡ n = omega arith in rw (k, (rw k at e)) refl

  pub found_none : (n : ℕ) → n ≤ 0 → 0 ≡ found f p n
  unfolding found
  found_none zero h = refl
  found_none (suc n) h = absurd (omega arith)
