-- Laws of what the code builds: the loops' next turns, and what the whole is.
-- Assumes nothing.
use Rattle.std.proofs.Common.{◌≡◌, refl, sym, ◌∙◌, List, [], ◌∷◌, ◌++◌, ℕ, ◌+◌, ◌-◌, ◌≤◌, ◌<◌, ◌⊎◌, inl, inr, arith, length, take, drop, drop_of_length-le, Option, Some, None, Bor}
use Rattle.std.proofs.lemmas.List.{take_rest}
use Rattle.std.proofs.Math.Seq.{take-nil}
use Rattle.std.specs.Option.{unwrap_or}
use Rattle.std.specs.Slice.{IsGetRangeResult}
use Rattle.laws.specs.Append.{append_all}
use Rattle.laws.proofs.AppendLaws.{append_two, append_blank}
use Rattle.laws.specs.Lists.{blank}
use Rattle.digits.specs.Digits.{check_digit_of}
use Rattle.barcode.specs.Barcode.{modules_in, pattern_of, patterns_of, right, left_of, right_of, lights, guard, centre, modules_of}
use Rattle.barcode.proofs.BarcodeLaws.{length_modules}

-- what `get` lends of a range, and nothing where it lends none: a part that is whole or past the end, and the rest
pub part_lent : (xs : List ℕ) (from n : ℕ) (r : Option (Bor (List ℕ))) (d : Bor (List ℕ)) → d.now ≡ [] → IsGetRangeResult xs from (from + n) r →
    (length xs < from + n → length xs ≤ from) → (unwrap_or r d).now ≡ take n (drop from xs)
part_lent xs from n None d e h past = go h.0
  where
    go : (from + n < from) ⊎ (length xs < from + n) → d.now ≡ take n (drop from xs)
    go (inl k) = absurd (omega arith)
    go (inr k) = rw (drop_of_length-le xs (past k), take-nil n) e
part_lent xs from n (Some x) d e h past = let k : from + n - from ≡ n = omega arith in rw k at h.0.2

pub rest_lent : (xs : List ℕ) (from : ℕ) (r : Option (Bor (List ℕ))) (d : Bor (List ℕ)) → d.now ≡ [] → IsGetRangeResult xs from (length xs) r →
    (unwrap_or r d).now ≡ drop from xs
rest_lent xs from None d e h = go h.0
  where
    go : (length xs < from) ⊎ (length xs < length xs) → d.now ≡ drop from xs
    go (inl k) = let past : length xs ≤ from = omega arith in rw (drop_of_length-le xs past) e
    go (inr k) = absurd (omega arith)
rest_lent xs from (Some x) d e h = h.0.2 ∙ take_rest xs from

-- the loop over sets and digits: a turn, and the end
pub patterns_more : (s : List ℕ × ℕ) (x d : ℕ) (ss ds ss' ds' : List ℕ) → ss ≡ x ∷ ss' → ds ≡ d ∷ ds' →
    append_all 160 (append_all 160 s (pattern_of x d)) (patterns_of ss' ds') ≡ append_all 160 s (patterns_of ss ds)
unfolding patterns_of
patterns_more s x d ss ds ss' ds' e f = rw (e, f) (sym (append_two 160 s (pattern_of x d) (patterns_of ss' ds')))

pub patterns_end : (s : List ℕ × ℕ) (ss ds : List ℕ) → (ss ≡ []) ⊎ (ds ≡ []) → append_all 160 s (patterns_of ss ds) ≡ s
unfolding patterns_of append_all
patterns_end s ss ds (inl e) = rw e refl
patterns_end s [] ds (inr e) = refl
patterns_end s (x ∷ ss) ds (inr e) = rw e refl

-- the whole, part by part, in an array of zeros
abbrev parts : List ℕ → List ℕ × ℕ
parts ds = append_all 160 (append_all 160 (append_all 160 (append_all 160 (append_all 160 (blank 160, 0) (lights 33)) guard) (left_of ds ++ (centre ++ (right_of ds ++ pattern_of right (check_digit_of ds))))) guard) (lights 32)

whole : (ds : List ℕ) → append_all 160 (blank 160, 0) (modules_of ds) ≡ parts ds
unfolding modules_of
whole ds = simp append_two

pub modules_parts : (s : List ℕ × ℕ) (ds : List ℕ) → s ≡ parts ds → record { count = s.1; modules = s.0 } ≡ modules_in (modules_of ds)
unfolding modules_in
modules_parts s ds h = rw (h, ← whole ds, append_blank 160 (modules_of ds) (length_modules ds)) refl
