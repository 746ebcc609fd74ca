-- When two cards are alike, in the words of document 02. AlikeLaws has the theorem that these are the cards with the same modules.
-- Assumes nothing.
use Rattle.std.specs.Prelude.{◌≡◌, List, ℕ, length, take}

-- both have 13 digits and share the first twelve, or neither has 13 and they agree in the first seven
pub data Alike (ds es : List ℕ) : Type 0 where
  long : length ds ≡ 13 → length es ≡ 13 → take 12 ds ≡ take 12 es → Alike ds es
  short : (length ds ≡ 13 → ⊥) → (length es ≡ 13 → ⊥) → take 7 ds ≡ take 7 es → Alike ds es
