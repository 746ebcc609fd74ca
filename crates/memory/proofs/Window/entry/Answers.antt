-- `memory::Window::entry` meets its contract: before the region's end the page lies straight on (`walked_straight`), past it the walk finds
-- it.
-- Assumes nothing.
use mathlib.Core.Path.{◌≡◌, sym, ap, ◌∙◌}
use Prim.Native.Nat.{◌+◌, ◌*◌}
use native.Mathlib.Omega.{arith}
use Rattle.memory.specs.Walked.{walked_at, page_at, walked_entry}
use Rattle.memory.proofs.WalkedLaws.{walked_straight}
use Rattle.memory.proofs.Window.entry.Goals as goal

pub returns-then-straight-self : goal.returns-then-straight-self
unfolding walked_entry
returns-then-straight-self c =
    let a = c.args in
    let e : walked_at a.self a.i ≡ a.self.base + a.i * 1024 = walked_straight a.self a.i (omega arith) in
    c.page_at.ensures ∙ ap (page_at a.self) (sym e)

pub returns-else-straight-self : goal.returns-else-straight-self
unfolding walked_entry
returns-else-straight-self c =
    let a = c.args in
    c.page_at-else-straight-self.ensures ∙ ap (page_at a.self) c.walk.ensures.0
