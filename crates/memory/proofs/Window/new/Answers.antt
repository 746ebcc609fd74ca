-- `memory::Window::new` meets its contract: the bank by its remainder, times the size, fits the field of the base.
-- Assumes nothing.
use mathlib.Core.Path.{refl}
use native.Mathlib.Omega.{arith}
use Rattle.memory.specs.Walked.{window_in}
use Rattle.memory.proofs.Laws.{base_fits}
use Rattle.memory.proofs.Window.new.Goals as goal

pub overflow_mul-base : goal.overflow_mul-base
overflow_mul-base c =
    let a = c.args in
    omega (arith, base_fits c.wrapped.result a.bank a.banks c.from.result c.wrapped.ensures (omega arith) (omega (arith, c.from.ensures)))

pub overflow_cast-result : goal.overflow_cast-result
overflow_cast-result c =
    let a = c.args in
    omega (arith, base_fits c.wrapped.result a.bank a.banks c.from.result c.wrapped.ensures (omega arith) (omega (arith, c.from.ensures)))

pub returns : goal.returns
unfolding window_in
returns c = rw (c.wrapped.ensures, c.from.ensures) refl
