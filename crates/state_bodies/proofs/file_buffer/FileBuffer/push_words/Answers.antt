-- `FileBuffer::push_words` meets its contract: the invariant is what is left of the widths and the words.
-- Assumes nothing.
use mathlib.Core.Path.{sym, ◌∙◌}
use lib.ListN.{length}
use native.Mathlib.Omega.{arith}
use Rattle.std.proofs.lemmas.List.{length_push}
use Rattle.std.proofs.lemmas.Slice.Zip.{zip_turn, zip_end}
use Rattle.state_bodies.specs.FileBufferLaws.{pack_turn, pack_end}
use Rattle.state_bodies.proofs.file_buffer.FileBuffer.push_words.Goals as goal

pub loop-width-preserved : goal.loop-width-preserved
loop-width-preserved c =
    let l = c.loop-width in
    let a = c.args in
    let t = zip_turn a.widths.now a.words.now l.yielded c.into_iter-width-iterator.result l.width-iterator c.next.new.self c.next.result (cc) (cc) l.yielded_by (c.in-Some.width, c.in-Some.word) c.in-Some.is c.next.ensures.steps in
    rw (length_push l.yielded (c.in-Some.width, c.in-Some.word), c.push_word.ensures, t.2 0, t.3 0)
    (pack_turn l.self a.widths.now a.words.now (length l.yielded) t.1 ∙ l.invariant)

pub returns : goal.returns
returns c =
    let l = c.loop-width in
    let a = c.args in
    let e = zip_end a.widths.now a.words.now l.yielded c.into_iter-width-iterator.result l.width-iterator c.next.new.self c.next.result (cc) (cc) l.yielded_by c.in-None.is c.next.ensures.steps in
    sym (pack_end l.self a.widths.now a.words.now (length l.yielded) (omega (arith, e))) ∙ l.invariant
