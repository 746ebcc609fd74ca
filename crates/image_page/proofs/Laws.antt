-- What the proofs of the functions need: where a page lies, a store in a lent page.
-- Assumes nothing.
use Rattle.std.specs.Prelude.{Some, None}
use mathlib.Core.Path.{◌≡◌, refl}
use mathlib.Core.List.{List, ◌++◌}
use mathlib.Core.Bool.{Bool, true, false}
use Prim.Native.Nat.{ℕ, ◌+◌, ◌≤◌, ◌<◌}
use native.Mathlib.Decide.{dec_lt}
use native.Mathlib.Omega.{arith}
use lib.Dec.{ltb, leb}
use lib.ListN.{length, take, drop, set, length-take, length-drop, take-append-drop}
use lib.Seq.{set_out}
use borrow.Author.Tests.{leb-true, le-leb, lt-ltb, le-ltb}
use Rattle.laws.specs.Choice.{pick}
use Rattle.laws.proofs.ListsLaws.{part_set}
use Rattle.image_page.specs.Page.{page_end, poke_of}

-- a page that has an end lies within the bytes; one that has none does not
pub page_ends : (n o e : ℕ) → Some e ≡ page_end n o → (e ≡ o + 1024) × (o + 1024 ≤ n)
page_ends n o e h = go (leb (o + 1024) n) refl h
  where
    go : (t : Bool) → leb (o + 1024) n ≡ t → Some e ≡ pick t (Some (o + 1024)) None → (e ≡ o + 1024) × (o + 1024 ≤ n)
    go true t h = (cc, leb-true (o + 1024) n t)
    go false t h = cc

pub page_has_no_end : (n o : ℕ) → None ≡ page_end n o → leb (o + 1024) n ≡ false
page_has_no_end n o h = go (leb (o + 1024) n) refl h
  where
    go : (t : Bool) → leb (o + 1024) n ≡ t → None ≡ pick t (Some (o + 1024)) None → leb (o + 1024) n ≡ false
    go true t h = cc
    go false t h = t

-- a store in the page that is lent is a store in the image
pub poke_part : (s : List ℕ) (o k v : ℕ) → o + 1024 ≤ length s → take o s ++ (set (take 1024 (drop o s)) k v ++ drop 1024 (drop o s)) ≡ poke_of s o k v
unfolding poke_of
poke_part s o k v h = rw (le-leb _ _ h) (go (dec_lt k 1024))
  where
    go : Dec (k < 1024) → take o s ++ (set (take 1024 (drop o s)) k v ++ drop 1024 (drop o s)) ≡ pick (ltb k 1024) (set s (o + k) v) s
    go (yes lt) = rw (lt-ltb _ _ lt) (part_set s o 1024 k v lt h)
    go (no ge) =
        let n : length (take 1024 (drop o s)) ≤ k = rw (length-take, length-drop) (omega arith) in
        rw (le-ltb k 1024 (omega arith), set_out (take 1024 (drop o s)) k v n, take-append-drop 1024 (drop o s)) (take-append-drop o s)
