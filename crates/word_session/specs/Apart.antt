-- A session on its way, put together with the board's arrays, and its counts without them. Assumes nothing.
use Rattle.std.specs.Prelude.{ℕ, ◌≤◌}
use Rattle.refusals.specs.Refusals.{number_of_refusal}
use Rattle.event_step.specs.declared.Arrays.{Arrays}
use Rattle.event_step.specs.Step.{board_of}
use Rattle.session.specs.Session.{Ended}
use Rattle.word_session.specs.declared.Run.{Run}

unfoldable pub end_of : Run → Arrays → Ended
end_of r a = record { board = board_of r.bandai a; records = r.records; refused = r.refused; refusal = number_of_refusal r.refusal }

-- no more records are counted than had a turn
unfoldable pub RunWithin : Run → ℕ → Type 0
RunWithin r i = r.refused ≤ i
