-- Laws of wraps at 16 bits: what std's wrapping subtract gives, as a number; one step down and then n are n + 1.
-- Assumes nothing.
use Rattle.std.specs.Prelude.{◌≡◌, refl, ℕ, zero, suc, ◌+◌, ◌-◌, ◌%◌, ◌<◌}
use Rattle.std.proofs.Common.{◌∙◌, arith}
use Rattle.std.proofs.Math.Decide.{ℕ_discrete}

-- the number that b added to wraps back to a
pub wraps_16 : (r a b : ℕ) → r < 65536 → a < 65536 → b < 65536 → (r + b) % 65536 ≡ a → r ≡ (a + 65536 - b) % 65536
wraps_16 r a b hr ha hb e = omega arith

same_down : (a m : ℕ) → (a ≡ 0 → ⊥) → a - 1 + 65536 - m ≡ a + 65536 - (m + 1)
same_down zero m nz = absurd (nz refl)
same_down (suc a) m nz = omega arith

down_more : (a m : ℕ) → a < 65536 → m < 65536 → ((a + 65536 - 1) % 65536 + 65536 - m) % 65536 ≡ (a + 65536 - (m + 1) % 65536) % 65536
down_more a m ha hm = go (ℕ_discrete m 65535) (ℕ_discrete a 0)
  where
    go : Dec (m ≡ 65535) → Dec (a ≡ 0) → ((a + 65536 - 1) % 65536 + 65536 - m) % 65536 ≡ (a + 65536 - (m + 1) % 65536) % 65536
    go (yes e) d = rw e (omega arith)
    go (no ne) (yes z) = let k : (m + 1) % 65536 ≡ m + 1 = omega arith in rw (k, z) (omega arith)
    go (no ne) (no nz) = let k : (m + 1) % 65536 ≡ m + 1 = omega arith in let l : (a + 65536 - 1) % 65536 ≡ a - 1 = omega arith in rw (k, l, same_down a m nz)

suc_wraps : (n : ℕ) → suc n % 65536 ≡ (n % 65536 + 1) % 65536
suc_wraps n = omega arith

-- one step down and then n, in all n + 1
pub down_suc : (a n : ℕ) → a < 65536 → ((a + 65536 - 1) % 65536 + 65536 - n % 65536) % 65536 ≡ (a + 65536 - suc n % 65536) % 65536
down_suc a n ha = down_more a (n % 65536) ha (omega arith) ∙ rw (suc_wraps n)
