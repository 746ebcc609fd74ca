-- `digits::Digits::push_decimal` meets its contract: nothing left to write, or one digit after those before it.
-- Assumes nothing.
use Rattle.std.proofs.Common.{◌∙◌, arith}
use Rattle.digits.proofs.Steps.{from_none, from_ended, from_more}
use Rattle.digits.proofs.Digits.+push_decimal.Goals as goal
use Rattle.digits.proofs.Digits.+push_decimal.Goals.{else-room-gt0-via-then-room-gt0+else-n-gt0, then-need-gt0, else-need-gt0, else-room-gt0-via-else-room-gt0}

pub returns-then-n-gt0 : goal.returns-then-n-gt0
returns-then-n-gt0 t c =
    c.push.ensures ∙ rw (c.push_decimal.ensures, c.saturating_sub.ensures) (from_more _ _ _ _ c.if-room-gt0.true (elim c.if-need-gt0.branch [ then-need-gt0 w ↦ omega arith | else-need-gt0 w ↦ omega arith ]))

pub returns-else-room-gt0 : goal.returns-else-room-gt0
returns-else-room-gt0 t c =
    elim c.else-room-gt0.branch [
      | else-room-gt0-via-then-room-gt0+else-n-gt0 w ↦ from_ended _ _ _ _ (elim w.if-need-gt0.branch [ then-need-gt0 u ↦ omega arith | else-need-gt0 u ↦ omega arith ])
      | else-room-gt0-via-else-room-gt0 w ↦ from_none _ _ _ _ w.if-room-gt0.false
    ]
