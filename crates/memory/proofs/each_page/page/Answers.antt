-- `memory::each_page::page` meets its contract: the mask is the remainder (`offset_is`); then by the flag.
-- Assumes nothing.
use mathlib.Core.Path.{sym, ap, ◌∙◌}
use Prim.Native.Nat.{ℕ, ◌+◌, ◌%◌}
use native.Mathlib.Nat.{add-zero, lt_of_le_of_lt, add-le-add, le_refl}
use native.Mathlib.Omega.{arith}
use lib.Bits.{and_le_r}
use Rattle.image_page.specs.Page.{page_of}
use Rattle.memory.proofs.Laws.{offset_is}
use Rattle.memory.proofs.each_page.page.Goals as goal

pub overflow_cast-at : goal.overflow_cast-at
overflow_cast-at c = record { fits = lt_of_le_of_lt (and_le_r c.args.offset _) (omega arith) }

pub overflow_add-result : goal.overflow_add-result
overflow_add-result c = record { fits = lt_of_le_of_lt (add-le-add (and_le_r c.args.offset _) (le_refl _)) (omega arith) }

pub returns-then-writable : goal.returns-then-writable
unfolding page_of
returns-then-writable c = rw c.if-writable.true (ap (λ (x : ℕ). x + 0x80000000) (offset_is c.args.offset))

pub returns-else-writable : goal.returns-else-writable
unfolding page_of
returns-else-writable c = rw c.if-writable.false (offset_is c.args.offset ∙ sym (add-zero (c.args.offset % 0x40000000)))
