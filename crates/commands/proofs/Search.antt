-- The numbers of a command against their widths, the pairs in turn; and the command that a word names in a table of words.
-- Assumes nothing.
use Rattle.std.proofs.Common.{◌≡◌, refl, ap, ◌∙◌, sym, List, [], ◌∷◌, ◌++◌, map, Bool, true, false, cond, ◌&&◌, ℕ, suc, ◌+◌, ◌≤◌, ◌^◌, eqb, ltb, length, get_or, drop, arith, add-one, drop-cons, Bor, Option, Some, None}
use Rattle.std.specs.List.{zip, list_all, find}
use Rattle.std.specs.Option.{MatchOption, option_map}
use Rattle.laws.specs.Lists.{same}
use Rattle.laws.specs.Choice.{pick}
use Rattle.commands.specs.Commands.{names, kinds, place_of, command_of, within}
use Rattle.commands.specs.declared.Command.{Command}
use Rattle.commands.specs.declared.Command.TheVariants.{Unknown}

-- a number fits its width
abbrev pub fitting : ℕ × ℕ → Bool
fitting p = ltb p.1 (256 ^ p.0)

and_true : (b : Bool) → (b && true) ≡ b
and_true true = refl
and_true false = refl

and_and : (a b c : Bool) → ((a && b) && c) ≡ (a && (b && c))
and_and true b c = refl
and_and false b c = refl

-- the pairs of widths and numbers, as far as there are both
within_from : (so : Bool) (i : ℕ) (ws v : List ℕ) → i + length ws ≤ length v → within so i ws v ≡ (so && list_all fitting (zip ws (drop i v)))
within_from so i [] v h = sym (and_true so)
within_from so i (w ∷ ws) v h =
    rw (drop-cons v i 0 (omega arith), ← add-one i) (within_from (so && ltb (get_or v i 0) (256 ^ w)) (i + 1) ws v (omega arith) ∙ and_and so _ _)

pub within_all : (ws v : List ℕ) → length ws ≤ length v → within true 0 ws v ≡ list_all fitting (zip ws v)
within_all ws v h = within_from true 0 ws v (omega arith)

-- an entry of the table: a word, and the command that it names
abbrev pub Named : Type 0
Named = Bor (List ℕ) × Command

-- the command of the first entry with that word
abbrev kind_in : List ℕ → List Named → Command
kind_in w [] = Unknown
kind_in w (x ∷ xs) = cond (same w x.0.now) x.1 (kind_in w xs)

found : (w : List ℕ) (xs : List Named) (o : Option (Bor Named)) (r : Command) (P : Bor Named → Type 0) → option_map (λ (x : Bor Named). x.now) o ≡ find (λ (p : Named). same w p.0.now) xs → MatchOption o (r ≡ Unknown) P → ((x : Bor Named) → P x → r ≡ x.now.1) → r ≡ kind_in w xs
found w [] None r P e h more = h
found w [] (Some y) r P e h more = absurd (cc)
found w (x ∷ xs) o r P e h more = go (same w x.0.now) o e h (λ e h. found w xs o r P e h more)
  where
    go : (t : Bool) → (o : Option (Bor Named)) → option_map (λ (x : Bor Named). x.now) o ≡ cond t (Some x) (find (λ (p : Named). same w p.0.now) xs) → MatchOption o (r ≡ Unknown) P → (option_map (λ (x : Bor Named). x.now) o ≡ find (λ (p : Named). same w p.0.now) xs → MatchOption o (r ≡ Unknown) P → r ≡ kind_in w xs) → r ≡ cond t x.1 (kind_in w xs)
    go true None e h next = absurd (cc)
    go true (Some y) e h next = let k : y.now ≡ x = cc in more y h ∙ ap (λ (p : Named). p.1) k
    go false o e h next = next e h

place_in : (w : List ℕ) (xs : List Named) → kind_in w xs ≡ get_or (map (λ (x : Named). x.1) xs ++ (Unknown ∷ [])) (place_of w (map (λ (x : Named). x.0.now) xs)) Unknown
unfolding place_of
place_in w [] = refl
place_in w (x ∷ xs) = go (same w x.0.now) (place_in w xs)
  where
    go : (t : Bool) → kind_in w xs ≡ get_or (map (λ (x : Named). x.1) xs ++ (Unknown ∷ [])) (place_of w (map (λ (x : Named). x.0.now) xs)) Unknown → cond t x.1 (kind_in w xs) ≡ get_or (x.1 ∷ (map (λ (x : Named). x.1) xs ++ (Unknown ∷ []))) (pick t 0 (suc (place_of w (map (λ (x : Named). x.0.now) xs)))) Unknown
    go true h = refl
    go false h = h

-- a table of the words and of their commands in order
pub named : (w : List ℕ) (o : Option (Bor Named)) (r : Command) (P : Bor Named → Type 0) {rest xs : List Named} (is : rest ≡ xs) → map (λ (x : Named). x.0.now) xs ≡ names → (map (λ (x : Named). x.1) xs ++ (Unknown ∷ [])) ≡ kinds → option_map (λ (x : Bor Named). x.now) o ≡ find (λ (p : Named). same w p.0.now) xs → MatchOption o (r ≡ Unknown) P → ((x : Bor Named) → P x → r ≡ x.now.1) → r ≡ command_of w
unfolding command_of
named w o r P {rest} {xs} is ns ks e h more = found w xs o r P e h more ∙ place_in w xs ∙ rw (ns, ks) refl
