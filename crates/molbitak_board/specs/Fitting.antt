-- FITTING AND VALIDITY ACROSS THE BOUNDARY. Assumes nothing.
use Rattle.std.specs.Prelude.{Bool, ◌&&◌}
use Rattle.cart.specs.declared.Cart.{Cart}
use Rattle.bandai_fcg.specs.Board.{load_of}
use Rattle.validity.specs.Valid.{valid_board}
use Rattle.board_codes.specs.declared.board.BoardC.{BoardC}
use Rattle.board_codes.specs.Codes.{known_board, board_of, board_c}
use Rattle.molbitak_board.specs.declared.call.LoadedC.{LoadedC}

unfoldable pub loaded_c : Cart → LoadedC
loaded_c c = record { refusal = (load_of c).refusal; board = board_c (load_of c).board }

unfoldable pub valid_on : BoardC → Bool
valid_on b = known_board b && valid_board (board_of b)
