-- THE CHECKED MODULE READ: 12 first for a call with a state, and every other value 0. Assumes nothing.
use Rattle.std.specs.Prelude.{ℕ, Result, Ok, Err}
use Rattle.laws.specs.Choice.{pick}
use Rattle.bandai_fcg.specs.declared.board.Board.{Board}
use Rattle.bandai_fcg.specs.Board.{module_read_of}
use Rattle.validity.specs.Valid.{valid_board}
use Rattle.bandai_fcg.specs.declared.module_read.ModuleRead.{ModuleRead}
use Rattle.refusals.specs.declared.Refusal.{Refusal}
use Rattle.refusals.specs.Refusals.{refusal_number}

-- the refusal or 0; the module's number; the clocks spent in it, 0 to 999; its light, 8 or 0
pub record ModuleTold : Type 0 where
  pub number : ℕ
  pub spent : ℕ
  pub light : ℕ
  pub refusal : ℕ

-- the same of a result, with the number of its refusal
abbrev pub as_told : Result ModuleRead Refusal → ModuleTold
as_told (Ok m) = record { number = m.number; spent = m.spent; light = m.light; refusal = 0 }
as_told (Err e) = record { number = 0; spent = 0; light = 0; refusal = refusal_number e }

unfoldable pub module_told_of : Board → ModuleTold
module_told_of b =
    let module-read = module_read_of b in
    pick (valid_board b)
    (record { refusal = 0; number = module-read.number; spent = module-read.spent; light = module-read.light })
    (record { refusal = 12; number = 0; spent = 0; light = 0 })
