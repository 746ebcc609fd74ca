-- `image::fill::image_byte` meets its contract: the product modulo 2^21 has the same bits 13 to 20.
-- Assumes nothing.
use mathlib.Core.Path.{◌≡◌, refl, sym, ap, ◌∙◌}
use Prim.Native.Nat.{ℕ, ◌+◌, ◌*◌, ◌/◌, ◌%◌}
use native.Mathlib.Omega.{arith}
use borrow.Author.Tests.{lt-ltb, le-ltb}
use Rattle.image.specs.Image.{image_byte}
use Rattle.image.proofs.fill.image_byte.Goals as goal

parts : (o : ℕ) → o * 2654435761 ≡ o / 2097152 * 2654435761 * 256 * 8192 + o % 2097152 * 2654435761
parts o = omega arith

divided : (y x : ℕ) → (y * 8192 + x) / 8192 ≡ y + x / 8192
divided y x = omega arith

left : (y x : ℕ) → (y * 256 + x) % 256 ≡ x % 256
left y x = omega arith

low : (o : ℕ) → o % 2097152 * 2654435761 / 8192 % 256 ≡ o * 2654435761 / 8192 % 256
low o =
    sym (ap (λ x. x / 8192 % 256) (parts o)
    ∙ ap (λ x. x % 256) (divided (o / 2097152 * 2654435761 * 256) (o % 2097152 * 2654435761))
    ∙ left (o / 2097152 * 2654435761) (o % 2097152 * 2654435761 / 8192))

pub returns-then-offset-lt1024 : goal.returns-then-offset-lt1024
unfolding image_byte
returns-then-offset-lt1024 c = rw (lt-ltb _ _ c.if-offset-lt1024.true) refl

pub returns-else-offset-lt1024 : goal.returns-else-offset-lt1024
unfolding image_byte
returns-else-offset-lt1024 c = rw (le-ltb _ _ c.if-offset-lt1024.false) (low _)
