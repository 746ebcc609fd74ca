-- What a chain of iterators answers, as the definitions on lists here: a test of each entry, and where the first entry is that fails one.
-- Assumes nothing.
use Rattle.std.specs.Prelude.{◌≡◌, ℕ, zero, suc, ◌<◌, Bool, true, false, List, [], ◌∷◌, length, ◌&&◌, fold, MatchBool}
use Rattle.std.proofs.Common.{refl, arith, sym, ◌∙◌}
use Rattle.std.proofs.Math.Bool.{and_assoc, and-true}
use Rattle.std.specs.List.{HoldsAt, AllWithin}
use Rattle.laws.specs.Lists.{every}

and_false : (b : Bool) → (b && false) ≡ false
and_false true = refl
and_false false = refl

-- `all` with a test answers `every` of it
pub every_all : (f : ℕ → Bool) (l : List ℕ) (r : Bool) → MatchBool r (AllWithin (λ x. f x ≡ true) l 0 (length l)) ((k : ℕ) × (k < length l) × HoldsAt (λ x. f x ≡ false) l k) → r ≡ every f l
unfolding every
every_all f [] true h = refl
every_all f [] false h = absurd (omega (arith, h.1))
every_all f (x ∷ l) true h =
    let e : f x ≡ true = h 0 0 (omega arith) (omega arith) in
    rw e (every_all f l true (λ k d a b. h (suc k) d (omega arith) (omega arith)))
every_all f (x ∷ l) false h = go h.0 h.1 h.2 (λ k b e. every_all f l false (k, b, e))
  where
    go : (k : ℕ) → k < suc (length l) → HoldsAt (λ x. f x ≡ false) (x ∷ l) k → ((k : ℕ) → k < length l → HoldsAt (λ x. f x ≡ false) l k → false ≡ every f l) → false ≡ (f x && every f l)
    go zero b e more = let p : f x ≡ false = e 0 in rw p refl
    go (suc k) b e more = let p : false ≡ every f l = more k (omega arith) e in rw (← p) (sym (and_false (f x)))

-- so does a fold that goes through each entry with no early exit
pub every_fold : (f : ℕ → Bool) (l : List ℕ) (so : Bool) → fold (λ (t : Bool) x. t && f x) so l ≡ (so && every f l)
unfolding every
every_fold f [] so = sym (and-true so)
every_fold f (x ∷ l) so = every_fold f l (so && f x) ∙ and_assoc so (f x) (every f l)
