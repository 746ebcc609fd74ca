-- `script_lines::collect` meets its contract: the invariant is what is left to take.
-- Assumes nothing.
use mathlib.Core.Path.{refl, sym, ap, ◌∙◌}
use Prim.Native.Nat.{ℕ}
use native.Mathlib.Omega.{arith}
use lib.Dec.{eqb}
use borrow.Author.Tests.{leb-false}
use Rattle.script_lines.specs.ScriptLines.{taken_of}
use Rattle.script_lines.proofs.Whole.{at_le, line_there, no_line, past, neither, taken_end, taken_stop, taken_more, kind_is, kept_is, count_is}
use Rattle.script_lines.proofs.collect.Goals as goal

pub loop-at-init : goal.loop-at-init
unfolding taken_of
loop-at-init c = (omega arith, refl)

pub returns-then-end-text : goal.returns-then-end-text
returns-then-end-text c =
    let l = c.loop-at in
    let text = c.args.text.now in
    let e = c.line_end-end.ensures in
    sym (taken_end l.at l.count l.lines l.pending _ (no_line text l.at _ e c.if-end-text.true)) ∙ l.invariant.1

pub returns-then-other-count : goal.returns-then-other-count
returns-then-other-count c =
    let l = c.loop-at in
    let text = c.args.text.now in
    let e = c.line_end-end.ensures in
    let k = kind_is c.kind_of-kind.result _ _ c.kind_of-kind.ensures c.parse.ensures in
    let o = c.is_other-other.ensures ∙ ap (λ (n : ℕ). eqb n 2) k in
    let t = rw o at c.if-other-count.true in
    rw o (sym (taken_stop l.at l.count l.lines l.pending _ _ _ (line_there text l.at _ e c.if-end-text.false) t) ∙ l.invariant.1)

pub add_event-count-requires : goal.add_event-count-requires
add_event-count-requires c = leb-false 64 _ (neither c.is_other-other.result _ c.if-other-count.false)

pub loop-at-preserved : goal.loop-at-preserved
loop-at-preserved c =
    let l = c.loop-at in
    let text = c.args.text.now in
    let e = c.line_end-end.ensures in
    let kind = c.kind_of-kind in
    let p = c.parse.ensures in
    let k = kind_is kind.result _ _ kind.ensures p in
    let o = c.is_other-other.ensures ∙ ap (λ (n : ℕ). eqb n 2) k in
    let t = rw o at c.if-other-count.false in
    let h = c.if-end-text.false in
    let le = at_le text l.at _ e in
    let m = rw (past text l.at _ e h) at (taken_more l.at l.count l.lines l.pending _ _ _ (line_there text l.at _ e h) t) in
    let add = c.add_event-count.ensures in
    (omega (arith, le, l.invariant.0), rw (add.0, add.1, kept_is kind.result _ _ l.pending l.count kind.ensures p, count_is kind.result _ _ l.count kind.ensures p) (sym m ∙ l.invariant.1))

pub returns : goal.returns
returns c =
    let l = c.loop-at in
    let text = c.args.text.now in
    sym (taken_end l.at l.count l.lines l.pending _ (no_line text l.at _ refl (omega (arith, c.loop-at-test.false)))) ∙ l.invariant.1
