-- The search for a space, and a line part by part. Assumes nothing.
use mathlib.Core.Path.{◌≡◌, refl, sym, ◌∙◌}
use mathlib.Core.List.{List, [], ◌∷◌, ◌++◌, map}
use mathlib.Core.Bool.{Bool, true, false, not, cond}
use Prim.Native.Nat.{ℕ, suc, ◌+◌, ◌≤◌, ◌<◌}
use native.Mathlib.Omega.{arith}
use lib.Dec.{eqb}
use lib.ListN.{length, get_or, take, drop}
use Rattle.std.specs.List.{prefix_len}
use Rattle.std.proofs.lemmas.List.Folds.{length-prefix_len}
use Rattle.laws.specs.Choice.{pick}
use Rattle.laws.specs.Decimal.{decimal, zeros_before}
use Rattle.laws.specs.Lists.{blank, padded}
use Rattle.barcode.specs.Barcode.{refused, modules_in}
use Rattle.output.specs.Put.{put, put_all, decimal_of}
use Rattle.output.specs.PutLaws.{put_then, each_more}
use Rattle.gs1_cards.specs.Cards.{word_length, bar, card_text}

-- as many bytes as `take_while` gives
word_prefix : (line : List ℕ) → word_length line ≡ prefix_len (λ b. not (eqb b 32)) line
unfolding word_length
word_prefix [] = refl
word_prefix (b ∷ line) = go (eqb b 32) (word_prefix line)
  where
    go : (t : Bool) → word_length line ≡ prefix_len (λ b. not (eqb b 32)) line → pick t 0 (suc (word_length line)) ≡ cond (not t) (1 + prefix_len (λ b. not (eqb b 32)) line) 0
    go true e = refl
    go false e = omega (arith, e)

pub word_counted : (line : List ℕ) (n : ℕ) → n ≡ length (take (prefix_len (λ b. not (eqb b 32)) line) line) → n ≡ word_length line
word_counted line n e = e ∙ length-prefix_len (λ b. not (eqb b 32)) line ∙ sym (word_prefix line)

pub word_within : (line : List ℕ) → word_length line ≤ length line
unfolding word_length
word_within [] = omega arith
word_within (b ∷ line) = go (eqb b 32) (word_within line)
  where
    go : (t : Bool) → word_length line ≤ length line → pick t 0 (suc (word_length line)) ≤ suc (length line)
    go true h = omega arith
    go false h = omega arith

-- a card's line part by part
pub text_parts : (s : List ℕ × ℕ) (a b bars : List ℕ) → put_all (put (put_all (put (put_all s a) 32) b) 32) bars ≡ put_all s (a ++ (32 ∷ (b ++ (32 ∷ bars))))
text_parts s a b bars = sym (put_then s a 32 (b ++ (32 ∷ bars)) ∙ put_then (put (put_all s a) 32) b 32 bars)

-- the bars, one more of them
pub bars_more : (s : List ℕ × ℕ) (l : List ℕ) (i : ℕ) → i < length l → put_all (put s (bar (get_or l i 0))) (map bar (drop (i + 1) l)) ≡ put_all s (map bar (drop i l))
bars_more s l i h = each_more bar s l i h

-- a refused card has no modules and the check digit 0
pub refused_text : (e : ℕ) → card_text (refused e) ≡ 48 ∷ 32 ∷ 48 ∷ 32 ∷ []
unfolding card_text decimal_of decimal zeros_before refused modules_in padded blank
refused_text e = refl
