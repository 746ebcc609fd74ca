-- `play::dispatch::run_line` meets its contract: the number of a fault is not 0.
-- Assumes nothing.
use Rattle.std.proofs.Common.{◌≡◌, ◌==◌, List, ℕ, refl, ap}
use Rattle.laws.specs.Choice.{pick}
use Rattle.script.specs.declared.fault.LineFault.{LineFault}
use Rattle.script.specs.declared.fault.LineFault.TheVariants.{NotANumber, Above64Bits, Missing, TooMany, CannotHold, NotHexadecimal, NoMemory, UnknownWord, TooLong}
use Rattle.script.specs.Faults.{fault_number}
use Rattle.script.specs.Script.{fault_line, line_of}
use Rattle.player.specs.declared.Player.{Player}
use Rattle.player.specs.Player.{report_of}
use Rattle.play.specs.Play.{with, counted, line_run}
use Rattle.play.proofs.dispatch.run_line.Goals as goal

some_fault : {A : Type 0} (f : LineFault) (a b : A) → b ≡ pick (fault_number f == 0) a b
some_fault NotANumber a b = refl
some_fault Above64Bits a b = refl
some_fault Missing a b = refl
some_fault TooMany a b = refl
some_fault CannotHold a b = refl
some_fault NotHexadecimal a b = refl
some_fault NoMemory a b = refl
some_fault UnknownWord a b = refl
some_fault TooLong a b = refl

refused : (p : Player) (line out image : List ℕ) (f : LineFault) → fault_line (fault_number f) ≡ line_of line → with (report_of (counted 1 p) (fault_number f) out) image ≡ line_run p line out image
unfolding line_run fault_line
refused p line out image f h = rw (← h) (some_fault f _ _)

pub returns-in-Err : goal.returns-in-Err
returns-in-Err c =
    let a = c.args in
    let e = c.report.ensures in
    rw (ap (λ x. x.0) e, ap (λ x. x.1) e, c.counted-p.ensures, c.number.ensures) (refused a.player a.line.now a.out.now a.image.now c.in-Err.fault c.in-Err.ensures)
