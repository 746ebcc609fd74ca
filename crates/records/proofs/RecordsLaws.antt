-- A record's words copied to their place. Assumes nothing.
use borrow.Rule.Slice.PartMut.{put_mid}
use Rattle.std.proofs.Common.{◌≡◌, arith, List, [], ◌∷◌, ℕ, ◌+◌, ◌≤◌, length, get_or, set}
use Rattle.session.proofs.TurnsLaws.{three_copied}

pub record_copied : (ws : List ℕ) (at k : ℕ) (r : List ℕ) → length r ≡ 3 → k ≡ 3 → at + 3 ≤ length ws →
    put_mid at k ws r ≡ set (set (set ws at (get_or r 0 0)) (at + 1) (get_or r 1 0)) (at + 2) (get_or r 2 0)
record_copied ws at k [] n e h = absurd (omega arith)
record_copied ws at k (x ∷ []) n e h = absurd (omega arith)
record_copied ws at k (x ∷ y ∷ []) n e h = absurd (omega arith)
record_copied ws at k (x ∷ y ∷ z ∷ []) n e h = three_copied ws at k x y z e h
record_copied ws at k (x ∷ y ∷ z ∷ w ∷ r) n e h = absurd (omega arith)
