-- The turns of the loops that read numbers.
-- Assumes nothing.
use mathlib.Core.Path.{◌≡◌, refl, sym}
use mathlib.Core.List.{List, [], ◌∷◌, ◌++◌, map}
use mathlib.Core.Bool.{Bool, true, false}
use Prim.Native.Nat.{ℕ, ◌+◌, ◌*◌, ◌%◌, ◌≤◌, ◌<◌}
use native.Mathlib.Numerals.{add-one}
use native.Mathlib.Omega.{arith}
use lib.ListN.{length, get_or, drop, drop_of_length-le}
use lib.Seq.{drop-cons}
use Rattle.std.specs.Prelude.{Option, Some, None, Ok, Err, SomeIff}
use Rattle.std.specs.Option.{ok_or}
use Rattle.laws.specs.Decimal.{value_from}
use Rattle.output.specs.Put.{put, put_all}
use Rattle.output.specs.PutLaws.{put_none, put_first}
use Rattle.number.specs.declared.NumberError.{NumberError}
use Rattle.number.specs.declared.NumberError.TheVariants.{TooLarge}
use Rattle.number.specs.Number.{digit_of, base_of, bytes_of}

-- the value of digits
pub value_more : (hex : Bool) (v : ℕ) (l : List ℕ) (i : ℕ) → i < length l → value_from (base_of hex) (v * base_of hex + digit_of (get_or l i 0)) (map digit_of (drop (i + 1) l)) ≡ value_from (base_of hex) v (map digit_of (drop i l))
unfolding value_from
value_more hex v l i h = rw (drop-cons l i 0 h, add-one i) refl

pub value_end : (hex : Bool) (v : ℕ) (l : List ℕ) (i : ℕ) → length l ≤ i → value_from (base_of hex) v (map digit_of (drop i l)) ≡ v
unfolding value_from
value_end hex v l i h = rw (drop_of_length-le l h) refl

-- more digits make no smaller value
pub value_least : (hex : Bool) (v : ℕ) (l : List ℕ) → v ≤ value_from (base_of hex) v l
unfolding value_from
value_least hex v [] = omega arith
value_least true v (d ∷ l) = let h = value_least true (v * 16 + d) l in omega arith
value_least false v (d ∷ l) = let h = value_least false (v * 10 + d) l in omega arith

-- a number with a digit more, or none
pub more_ok : (r : Option ℕ) (P : Type 0) (v x : ℕ) → SomeIff r P v → ok_or r TooLarge ≡ Ok x → P × (x ≡ v)
more_ok None P v x h e = cc
more_ok (Some y) P v x h e = let k : y ≡ x = cc in (h.0, cc)

pub more_none : (r : Option ℕ) (P : Type 0) (v : ℕ) (x : NumberError) → SomeIff r P v → ok_or r TooLarge ≡ Err x → (P → ⊥) × (x ≡ TooLarge)
more_none None P v x h e = (h, cc)
more_none (Some y) P v x h e = cc

-- bytes by two digits
pub bytes_more : (s : List ℕ × ℕ) (p l : List ℕ) → length p ≡ 2 → put_all (put s (digit_of (get_or p 0 0) % 16 * 16 + digit_of (get_or p 1 0) % 16)) (bytes_of l) ≡ put_all s (bytes_of (p ++ l))
unfolding bytes_of
bytes_more s [] l h = absurd (omega arith)
bytes_more s (a ∷ []) l h = absurd (omega arith)
bytes_more s (a ∷ b ∷ []) l h = sym (put_first s _ _)
bytes_more s (a ∷ b ∷ x ∷ p) l h = absurd (omega arith)

pub bytes_end : (s : List ℕ × ℕ) (l : List ℕ) → length l < 2 → put_all s (bytes_of l) ≡ s
unfolding bytes_of
bytes_end s [] h = put_none s
bytes_end s (a ∷ []) h = put_none s
bytes_end s (a ∷ b ∷ l) h = absurd (omega arith)
