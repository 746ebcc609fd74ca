-- The session across the boundary is the session on `board_in`, its end handed back as codes. Assumes nothing.
use Rattle.std.specs.Prelude.{◌≡◌, refl, Bool, true, false, List, ℕ}
use Rattle.runs.specs.Session.{session_refused, session}
use Rattle.cart.specs.Cart.{cart_refusal}
use Rattle.bandai_fcg.specs.Board.{fitted_state, fitted, empty_board}
use Rattle.validity.specs.Valid.{valid_board}
use Rattle.event.specs.declared.Event.{Event}
use Rattle.session.specs.Session.{board_rules, session_end}
use Rattle.board_codes.specs.declared.board.BoardC.{BoardC}
use Rattle.board_codes.specs.Codes.{known_board, board_in}
use Rattle.molbitak_session.specs.Sessions.{end_on, session_on}

-- the empty board is not valid
pub empty_invalid : valid_board empty_board ≡ false
unfolding valid_board empty_board fitted_state fitted cart_refusal
empty_invalid = refl

empty_session : (es : List Event) (buffer : List ℕ) → session board_rules empty_board es buffer ≡ session_refused 12 empty_board buffer
unfolding session board_rules
empty_session es buffer = rw empty_invalid refl

by_known : (b : BoardC) (es : List Event) (buffer : List ℕ) (known : Bool) → known_board b ≡ known → session_on b es buffer ≡ (end_on b (session_end (session board_rules (board_in b) es buffer)), (session board_rules (board_in b) es buffer).answers)
unfolding session_on end_on board_in
by_known b es buffer true e = rw e refl
by_known b es buffer false e = rw (e, empty_session es buffer) refl

pub session_on_lem : (b : BoardC) (es : List Event) (buffer : List ℕ) → session_on b es buffer ≡ (end_on b (session_end (session board_rules (board_in b) es buffer)), (session board_rules (board_in b) es buffer).answers)
session_on_lem b es buffer = by_known b es buffer (known_board b) refl
