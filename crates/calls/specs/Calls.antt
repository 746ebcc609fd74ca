-- THE CHECKED CALLS: 12 first for a call with a state, then the record's own refusals; on a refusal the board as given and every other
-- value 0. Assumes nothing.
use Rattle.std.specs.Prelude.{Option, Bool, false, ℕ, Result, Ok, Err}
use Rattle.laws.specs.Choice.{pick}
use Rattle.bandai_fcg.specs.declared.board.Board.{Board}
use Rattle.bandai_fcg.specs.Board.{peeked, peek_of}
use Rattle.validity.specs.Valid.{valid_board}
use Rattle.event.specs.declared.Event.{Event}
use Rattle.event.specs.declared.Stepped.{Stepped}
use Rattle.calls.specs.declared.Changed.{Changed}
use Rattle.event.specs.Event.{step_of}
use Rattle.refusals.specs.declared.Refusal.{Refusal}
use Rattle.refusals.specs.Refusals.{refusal_number}

-- what a device read answers, and a question for a number; of a result, with the number of its refusal
pub record DeviceRead : Type 0 where
  pub refusal : ℕ
  pub answered : Bool
  pub value : ℕ

pub record Told : Type 0 where
  pub refusal : ℕ
  pub value : ℕ

abbrev pub as_read : Result (Option ℕ) Refusal → DeviceRead
as_read (Ok answer) = record { refusal = 0; answered = (peeked answer).answered; value = (peeked answer).value }
as_read (Err e) = record { refusal = refusal_number e; answered = false; value = 0 }

abbrev pub as_told : Result ℕ Refusal → Told
as_told (Ok v) = record { refusal = 0; value = v }
as_told (Err e) = record { refusal = refusal_number e; value = 0 }

-- one event of any kind
unfoldable pub called_of : Event → Board → Stepped
called_of e b = pick (valid_board b) (step_of e b) (record { board = b; answer = record { refusal = 12; flags = 0; value = 0 } })

-- a register write, clocks, a card, an insert or lines: the board and the refusal of that event
unfoldable pub changed_of : Event → Board → Changed
changed_of e b = record { board = (called_of e b).board; refusal = (called_of e b).answer.refusal }

-- a device read
unfoldable pub read_of : ℕ → Board → DeviceRead
read_of address b =
    pick (valid_board b)
    (record { refusal = 0; answered = (peek_of address b).answered; value = (peek_of address b).value })
    (record { refusal = 12; answered = false; value = 0 })

-- whether an interrupt is pending; the mirroring in force
abbrev pub told_of : ℕ → Board → Told
told_of v b = pick (valid_board b) (record { refusal = 0; value = v }) (record { refusal = 12; value = 0 })

unfoldable pub pending_of : Board → Told
pending_of b = told_of (pick b.bandai.regs.irq_pending 1 0) b

unfoldable pub mirroring_of : Board → Told
mirroring_of b = told_of b.bandai.regs.mirroring b
