-- Laws of tests and choice.
-- Assumes nothing.
use Rattle.std.specs.Prelude.{◌≡◌, refl, Bool, true, false, ◌&&◌, List, [], ◌∷◌, ◌++◌, ℕ, zero, suc, ◌<◌}
use Rattle.std.proofs.Common.{sym, arith}
use Rattle.std.proofs.Math.Decide.{ℕ_discrete}
use Rattle.laws.specs.Choice.{pick, below, all_true}

-- what is true of two tests together is true of each
pub both_true : (p q : Bool) → (p && q) ≡ true → (p ≡ true) × (q ≡ true)
both_true true q h = (refl, h)
both_true false q h = (h, cc)

pub true_both : (p q : Bool) → p ≡ true → q ≡ true → (p && q) ≡ true
true_both p q h k = rw (h, k) refl

-- a test is true or false
pub never_both : (p : Bool) → p ≡ true → p ≡ false → ⊥
never_both p h k = let z : ◌≡◌ {A = ℕ} (pick p 1 0) 1 = rw h refl in let y : ◌≡◌ {A = ℕ} (pick p 1 0) 0 = rw k refl in omega arith

-- two tests that are true in the same cases are one
pub test_same : (p q : Bool) → (p ≡ true → q ≡ true) → (q ≡ true → p ≡ true) → p ≡ q
test_same true q f g = sym (f refl)
test_same false true f g = g refl
test_same false false f g = refl

-- what holds of both choices holds of the one made
pub pick_all : {A : Type 0} (P : A → Type 0) (t : Bool) (a b : A) → (t ≡ true → P a) → (t ≡ false → P b) → P (pick t a b)
pick_all P true a b h k = h refl
pick_all P false a b h k = k refl

-- a test of each number below n is one of any such number
pub below_at : (f : ℕ → Bool) (n i : ℕ) → below f n ≡ true → i < n → f i ≡ true
below_at f zero i t h = absurd (omega arith)
below_at f (suc n) i t h = go (ℕ_discrete i n) (both_true (f n) (below f n) t) (λ (k : i < n). below_at f n i (both_true (f n) (below f n) t).1 k)
  where
    go : Dec (i ≡ n) → (f n ≡ true) × (below f n ≡ true) → (i < n → f i ≡ true) → f i ≡ true
    go (yes e) p ih = rw e p.0
    go (no ne) p ih = ih (omega arith)

-- all tests of two lists
pub all_append : (a b : List Bool) → all_true a ≡ true → all_true b ≡ true → all_true (a ++ b) ≡ true
all_append [] b h k = k
all_append (t ∷ a) b h k = let p = both_true t (all_true a) h in true_both t (all_true (a ++ b)) p.0 (all_append a b p.1 k)
