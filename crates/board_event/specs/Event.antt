-- THE EVENT ACROSS THE BOUNDARY: the checked event on the board of the codes (`board_of`), its board handed back as codes (`board_c`); 12 first
-- of all, and all as it was, where a code is unknown (`known_board`). Assumes nothing.
use Rattle.laws.specs.Choice.{pick}
use Rattle.event.specs.declared.Event.{Event}
use Rattle.calls.specs.Calls.{called_of}
use Rattle.board_codes.specs.declared.board.BoardC.{BoardC}
use Rattle.board_codes.specs.Codes.{known_board, board_of, board_c}
use Rattle.board_event.specs.declared.SteppedC.{SteppedC}

-- an event of any kind
unfoldable pub stepped_on : BoardC → Event → SteppedC
stepped_on b e = record { board = board_c (called_of e (board_of b)).board; answer = (called_of e (board_of b)).answer }

unfoldable pub unknown_on : BoardC → SteppedC
unknown_on b = record { board = b; answer = record { refusal = 12; flags = 0; value = 0 } }

unfoldable pub event_on : BoardC → Event → SteppedC
event_on b e = pick (known_board b) (stepped_on b e) (unknown_on b)
