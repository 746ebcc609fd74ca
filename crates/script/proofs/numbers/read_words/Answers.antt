-- `script::numbers::read_words` meets its contract: the invariant is what is left to read.
-- Assumes nothing.
use Rattle.std.proofs.Common.{◌≡◌, ◌∙◌, sym, ap, rules}
use Rattle.text.specs.Words.{words}
use Rattle.script.specs.Faults.{error_number}
use Rattle.script.specs.Script.{Numbers, as_numbers, numbers_of}
use Rattle.script.proofs.Turns.{read_more, read_fault, read_end}
use Rattle.script.proofs.numbers.read_words.Goals as goal

pub returns-in_err-number_of-clause-fault : goal.returns-in_err-number_of-clause-fault
returns-in_err-number_of-clause-fault c =
    let l = c.loop-word in
    let e = c.in_err-number_of.field-0.0 in
    let f : error_number e ≡ (numbers_of (words c.args.list.code.now)).fault = read_fault (as_numbers l.all) _ _ _ e c.in-Some.ensures.steps c.in_err-number_of.ensures ∙ ap (λ (n : Numbers). n.fault) l.invariant.2 in
    search rules

pub loop-word-preserved : goal.loop-word-preserved
loop-word-preserved c =
    let l = c.loop-word in
    (tt, tt, rw c.kept-all.ensures (read_more (as_numbers l.all) _ _ _ c.in_ok-number_of.field-0 c.in-Some.ensures.steps c.in_ok-number_of.ensures ∙ l.invariant.2))

pub returns-clause-fault : goal.returns-clause-fault
returns-clause-fault c =
    let l = c.loop-word in
    ap (λ (n : Numbers). n.fault) (sym (read_end (as_numbers l.all) _ c.in-None.ensures.steps.0) ∙ l.invariant.2)

pub returns-clause-ok : goal.returns-clause-ok
returns-clause-ok c =
    let l = c.loop-word in
    sym (read_end (as_numbers l.all) _ c.in-None.ensures.steps.0) ∙ l.invariant.2
