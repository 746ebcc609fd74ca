-- `regs::Regs::write` meets its contract: the interrupt's two bytes, each by the function that its closure computes. Assumes nothing.
use Rattle.std.proofs.Common.{ℕ, sym, ap, ◌∙◌, rules}
use Rattle.regs.specs.Regs.{low_byte, high_byte, write_regs}
use Rattle.regs.proofs.Regs.write.Goals as goal

pub returns-then-reg-eq11 : goal.returns-then-reg-eq11
unfolding write_regs
returns-then-reg-eq11 c =
    let a = c.args in
    c.write_irq_latch.ensures (λ (word : ℕ). low_byte word a.val) (λ x y p. search rules) ∙ ap (λ (k : ℕ). write_regs a.cart k a.val a.self) (sym c.if-reg-eq11.true)

pub returns-then-reg-eq12 : goal.returns-then-reg-eq12
unfolding write_regs
returns-then-reg-eq12 c =
    let a = c.args in
    c.write_irq_latch-then-reg-eq12.ensures (λ (word : ℕ). high_byte word a.val) (λ x y p. search rules) ∙ ap (λ (k : ℕ). write_regs a.cart k a.val a.self) (sym c.if-reg-eq12.true)
