-- `script::words::Words` yields the words of what is left: the next by its places.
-- Assumes nothing.
use Rattle.std.proofs.Common.{◌<◌, length, drop, refl, arith, rules}
use Rattle.std.proofs.lemmas.List.{take_rest}
use Rattle.text.specs.Words.{words}
use Rattle.text.proofs.WordsLaws.{words_some, words_none, stop_in}
use Rattle.script.proofs.words.WordsIterator.next.Goals as goal

pub returns-then-start-code-clause-steps : goal.returns-then-start-code-clause-steps
returns-then-start-code-clause-steps c =
    let no = words_none c.args.self.now.code.now 0 _ _ c.skip_spaces-start.ensures refl c.if-start-code.true in
    (no, no)

pub slice_bounds-self-count : goal.slice_bounds-self-count
slice_bounds-self-count c = stop_in c.args.self.now.code.now 0 _ _ c.skip_spaces-start.ensures c.word_end-stop.ensures (omega arith)

pub slice_bounds-self-start : goal.slice_bounds-self-start
slice_bounds-self-start c = stop_in c.args.self.now.code.now 0 _ _ c.skip_spaces-start.ensures c.word_end-stop.ensures (omega arith)

pub slice_bounds-result-end : goal.slice_bounds-result-end
slice_bounds-result-end c = stop_in c.args.self.now.code.now 0 _ _ c.skip_spaces-start.ensures c.word_end-stop.ensures (omega arith)

pub returns-clause-steps : goal.returns-clause-steps
returns-clause-steps c =
    let code = c.args.self.now.code.now in
    rw (take_rest code c.word_end-stop.result) (words_some code 0 _ _ c.skip_spaces-start.ensures c.word_end-stop.ensures c.if-start-code.false)

pub returns-clause-goes : goal.returns-clause-goes
returns-clause-goes c =
    let code = c.args.self.now.code.now in
    let e = words_some code 0 _ _ c.skip_spaces-start.ensures c.word_end-stop.ensures c.if-start-code.false in
    let n : length (words (drop c.word_end-stop.result code)) < length (words code) = rw e (omega arith) in
    record { on = λ f. rw (take_rest code c.word_end-stop.result) (search rules); keeps = search rules; rests = search rules }
