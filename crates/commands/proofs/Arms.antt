-- The arms of a match over commands: what holds of each command of an arm holds in the arm. A command's number is its place in the enum.
-- Assumes nothing.
use mathlib.Core.Path.{◌≡◌, refl, sym, subst}
use mathlib.Core.Logic.{inl, inr}
use mathlib.Core.List.{List, [], ◌∷◌}
use mathlib.Core.Bool.{true}
use Prim.Native.Nat.{ℕ}
use lib.Dec.{eqb}
use lib.ListN.{get_or}
use types.Run.{OneOf}
use denote.Enum.Declared.{tag_of}
use borrow.Author.Tests.{eqb-true}
use Rattle.laws.specs.Lists.{Each, every}
use Rattle.laws.proofs.ListsLaws.{every_each}
use Rattle.commands.specs.declared.Command.{Command}
use Rattle.commands.specs.declared.Command.TheVariants.{Nothing, Fit, Write, Read, Clocks, Card, Insert, Lines, Event, Counts, Stop, File, Resume, Pages, State, Bars, Image, View, Poke, Module, View2, Poke2, Decode, Unknown}
use Rattle.commands.specs.contracts.Command.{the_type}

abbrev pub order : List Command
order =
    Nothing ∷ Fit ∷ Write ∷ Read ∷ Clocks ∷ Card ∷ Insert ∷ Lines ∷ Event ∷ Counts ∷ Stop ∷ File ∷ Resume ∷ Pages ∷ State ∷ Bars ∷ Image ∷ View ∷ Poke ∷ Module ∷ View2 ∷ Poke2 ∷ Decode ∷ Unknown ∷ []

abbrev pub numbered : ℕ → Command
numbered n = get_or order n Unknown

known : (c : Command) → numbered (tag_of the_type c) ≡ c
known Nothing = refl
known Fit = refl
known Write = refl
known Read = refl
known Clocks = refl
known Card = refl
known Insert = refl
known Lines = refl
known Event = refl
known Counts = refl
known Stop = refl
known File = refl
known Resume = refl
known Pages = refl
known State = refl
known Bars = refl
known Image = refl
known View = refl
known Poke = refl
known Module = refl
known View2 = refl
known Poke2 = refl
known Decode = refl
known Unknown = refl

picked : (P : ℕ → Type 0) (ks : List ℕ) → Each P ks → (x : ℕ) → OneOf ks x → P x
unfolding Each
picked P [] ps x h = absurd h
picked P (k ∷ []) ps x h = subst P (sym h) ps.0
picked P (k ∷ l ∷ ks) ps x (inl h) = subst P (sym h) ps.0
picked P (k ∷ l ∷ ks) ps x (inr h) = picked P (l ∷ ks) ps.1 x h

pub arm : (P : Command → Type 0) (ks : List ℕ) → Each (λ k. P (numbered k)) ks → (c : Command) → OneOf ks (tag_of the_type c) → P c
arm P ks ps c h = subst P (known c) (picked (λ k. P (numbered k)) ks ps (tag_of the_type c) h)

-- a number that is the same of each command of an arm, by a test that is computed
pub arm_is : (f : Command → ℕ) (n : ℕ) (ks : List ℕ) → every (λ k. eqb (f (numbered k)) n) ks ≡ true → (c : Command) → OneOf ks (tag_of the_type c) → f c ≡ n
arm_is f n ks t = arm (λ (c : Command). f c ≡ n) ks (every_each (λ k. eqb (f (numbered k)) n) (λ k. f (numbered k) ≡ n) (λ k e. eqb-true (f (numbered k)) n e) ks t)
