-- `FileBuffer::push_word` meets its contract: the invariant is what is left to push.
-- Assumes nothing.
use mathlib.Core.Path.{◌≡◌, sym, ◌∙◌}
use Prim.Native.Nat.{◌+◌, ◌-◌}
use native.Mathlib.Omega.{arith}
use Rattle.state_bodies.specs.FileBufferLaws.{word_turn, word_end}
use Rattle.state_bodies.proofs.file_buffer.FileBuffer.push_word.Goals as goal

pub loop-preserved : goal.loop-preserved
loop-preserved c =
    let l = c.loop in
    let a = c.args in
    let e : a.width - (l.counter + 1) ≡ a.width - l.counter - 1 = omega arith in
    rw (c.push.ensures, e) (word_turn l.self (a.width - l.counter) l.rest (omega arith) ∙ l.invariant)

pub returns : goal.returns
returns c =
    let l = c.loop in
    let e : c.args.width - l.counter ≡ 0 = omega arith in
    sym (word_end l.self l.rest) ∙ (rw e at l.invariant)
