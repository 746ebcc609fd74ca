-- Laws of bytes that are put: part by part, the turns of loops, whole where there is room, and as much as has room. Assumes nothing.
use Rattle.std.specs.Prelude.{◌≡◌, refl, List, [], ◌∷◌, ◌++◌, map, ℕ, suc, ◌+◌, ◌-◌, ◌≤◌, ◌<◌, min, length, get_or, take, drop}
use Rattle.std.proofs.Common.{sym, ◌∙◌, zero-add, add-one, arith, length-take, drop_of_length-le, take_all, take_at, drop-cons}
use Rattle.std.proofs.Math.Decide.{dec_lt}
use Rattle.laws.proofs.AppendLaws.{length_append_one, append_none, append_one, append_first, append_two, length_append_all, append_fitting, append_whole}
use Rattle.laws.specs.Lists.{blank}
use Rattle.laws.proofs.ListsLaws.{length_blank, sets_front}
use Rattle.output.specs.Put.{put, put_all}

-- none, one, and the first of several
pub put_none : (s : List ℕ × ℕ) → put_all s [] ≡ s
unfolding put_all
put_none s = append_none (length s.0) s

pub put_one : (s : List ℕ × ℕ) (b : ℕ) → put_all s (b ∷ []) ≡ put s b
unfolding put put_all
put_one s b = append_one (length s.0) s b

pub put_first : (s : List ℕ × ℕ) (b : ℕ) (l : List ℕ) → put_all s (b ∷ l) ≡ put_all (put s b) l
unfolding put put_all
put_first s b l = rw (length_append_one (length s.0) s b) (append_first (length s.0) s b l)

-- parts one after the other
pub put_append : (s : List ℕ × ℕ) (a b : List ℕ) → put_all s (a ++ b) ≡ put_all (put_all s a) b
unfolding put_all
put_append s a b = rw (length_append_all (length s.0) s a) (append_two (length s.0) s a b)

-- a byte after a part, and what follows it
pub put_then : (s : List ℕ × ℕ) (a : List ℕ) (b : ℕ) (l : List ℕ) → put_all s (a ++ (b ∷ l)) ≡ put_all (put (put_all s a) b) l
put_then s a b l = put_append s a (b ∷ l) ∙ put_first (put_all s a) b l

pub put_last : (s : List ℕ × ℕ) (a : List ℕ) (b : ℕ) → put_all s (a ++ (b ∷ [])) ≡ put (put_all s a) b
put_last s a b = put_append s a (b ∷ []) ∙ put_one (put_all s a) b

-- the turns of a loop that puts a byte for each entry of a list
pub each_more : (f : ℕ → ℕ) (s : List ℕ × ℕ) (l : List ℕ) (i : ℕ) → i < length l → put_all (put s (f (get_or l i 0))) (map f (drop (i + 1) l)) ≡ put_all s (map f (drop i l))
each_more f s l i h = rw (drop-cons l i 0 h, add-one i) (sym (put_first s (f (get_or l i 0)) (map f (drop (suc i) l))))

pub each_end : (f : ℕ → ℕ) (s : List ℕ × ℕ) (l : List ℕ) (i : ℕ) → length l ≤ i → put_all s (map f (drop i l)) ≡ s
each_end f s l i h = rw (drop_of_length-le l h) (put_none s)

-- the bytes of a buffer before a place
abbrev pub written : List ℕ × ℕ → List ℕ
written s = take s.1 s.0

-- what has room is put whole
pub put_whole : (s : List ℕ × ℕ) (l : List ℕ) → s.1 + length l ≤ length s.0 → written (put_all s l) ≡ written s ++ l
unfolding put_all
put_whole s l k = append_whole (length s.0) s l (omega arith) k

-- at the front of an array of zeros, as much as has room
pub put_front : (n : ℕ) (l : List ℕ) → written (put_all (blank n, 0) l) ≡ take n l
unfolding put_all
put_front n l =
    let k = min (length l) n in
    let z : k ≡ min (length l) (length (blank n) - 0) = rw length_blank (omega arith) in
    let b : length (take k l) ≤ length (blank n) = rw (length-take, length_blank) (omega arith) in
    let w : length (take k l) ≡ k = rw length-take (omega arith) in
    rw (append_fitting (length (blank n)) (blank n) 0 l k z, zero-add, sets_front (blank n) (take k l) b, take_at (take k l) _ k w) (front (dec_lt (length l) n))
  where
    front : Dec (length l < n) → take (min (length l) n) l ≡ take n l
    front (yes h) = let m : min (length l) n ≡ length l = omega arith in rw m (take_all (length l) l (omega arith) ∙ sym (take_all n l (omega arith)))
    front (no h) = let m : min (length l) n ≡ n = omega arith in rw m refl
