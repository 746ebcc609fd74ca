-- `memory::each_page::walk` meets its contract: after k turns it has gone k pages.
-- Assumes nothing.
use mathlib.Core.Path.{◌≡◌, refl, ap, ◌∙◌}
use native.Mathlib.Omega.{arith}
use Rattle.memory.specs.Walked.{next_page, walked_at}
use Rattle.memory.proofs.Laws.{walked_next, reach}
use Rattle.memory.proofs.each_page.walk.Goals as goal

pub loop-k-init : goal.loop-k-init
unfolding walked_at
loop-k-init c = refl

pub next_page-at-requires : goal.next_page-at-requires
next_page-at-requires c =
    let l = c.loop-k in
    reach c.args.window l.at l._k l.invariant (omega arith) (omega arith)

pub loop-k-preserved : goal.loop-k-preserved
loop-k-preserved c =
    let l = c.loop-k in
    c.next_page-at.ensures ∙ ap (next_page c.args.window.len) l.invariant ∙ walked_next c.args.window l._k

pub returns : goal.returns
returns c =
    let l = c.loop-k in
    let a = c.args in
    let e : l._k ≡ a.i = omega arith in
    (l.invariant ∙ ap (walked_at a.window) e, reach a.window l.at l._k l.invariant (omega arith) (omega arith))
