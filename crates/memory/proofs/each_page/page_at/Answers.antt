-- `memory::each_page::page_at` meets its contract: the region's start goes by its remainder, as an entry does (`page_sum`).
-- Assumes nothing.
use mathlib.Core.Path.{◌≡◌, refl, ◌∙◌}
use Prim.Native.Nat.{◌+◌}
use native.Mathlib.Omega.{arith}
use borrow.Author.Tests.{eq-eqb, ne_eqb}
use Rattle.image_page.specs.Page.{page_of}
use Rattle.memory.specs.Walked.{page_at}
use Rattle.memory.proofs.Laws.{offset_small, page_sum}
use Rattle.memory.proofs.each_page.page_at.Goals as goal

pub overflow_add-window : goal.overflow_add-window
overflow_add-window c =
    omega (arith, offset_small c.args.window.start, c.requires)

pub returns-then-window-eq0 : goal.returns-then-window-eq0
unfolding page_at
returns-then-window-eq0 c = rw (eq-eqb _ _ c.if-window-eq0.true) refl

pub returns-else-window-eq0 : goal.returns-else-window-eq0
unfolding page_at
returns-else-window-eq0 c =
    let a = c.args in
    let w = a.window in
    let e : c.page.result ≡ page_of (w.start + a.at) w.writable = c.page.ensures ∙ page_sum w.start a.at w.writable in
    rw (e, ne_eqb _ _ c.if-window-eq0.false) refl
