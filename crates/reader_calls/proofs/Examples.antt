-- CHECKED MODULE READS, COMPUTED: of a reader at clock 2,500 and at the last valid clock, 2^62; one clock later the board is not valid, and the
-- empty board is not either. The first board meets the hypotheses of `clock_exact`. Assumes nothing.
use Rattle.std.specs.Prelude.{◌≡◌, refl, true, ℕ, ◌+◌, ◌^◌}
use Rattle.laws.specs.Lists.{blank, every}
use Rattle.eeprom.specs.Eeprom.{new_eeprom}
use Rattle.eeprom_valid.specs.Valid.{valid_eeprom}
use Rattle.cart.specs.Cart.{cart_refusal}
use Rattle.bandai_fcg.specs.Reader.{module_read_at}
use Rattle.bandai_fcg.specs.Board.{fitted_state, fitted, empty_board, module_read_of}
use Rattle.bandai_fcg.proofs.ModuleReadExamples.{board_at}
use Rattle.validity.specs.Valid.{reader_fits, standard_fits, extra_fits, valid_board}
use Rattle.reader_calls.specs.ReaderCalls.{ModuleTold, module_told_of}

-- refusal, number, clocks spent and light
abbrev told : ℕ → ℕ → ℕ → ℕ → ModuleTold
told r n s l = record { refusal = r; number = n; spent = s; light = l }

pub at_2500 : module_told_of (board_at 157 2500) ≡ told 0 2 500 0
unfolding module_told_of module_read_of module_read_at board_at fitted_state fitted blank new_eeprom cart_refusal reader_fits standard_fits extra_fits valid_board valid_eeprom every
at_2500 = refl

pub at_limit : module_told_of (board_at 157 (2 ^ 62)) ≡ told 0 4611686018427387 904 0
unfolding module_told_of module_read_of module_read_at board_at fitted_state fitted blank new_eeprom cart_refusal reader_fits standard_fits extra_fits valid_board valid_eeprom every
at_limit = refl

pub past_limit : module_told_of (board_at 157 (2 ^ 62 + 1)) ≡ told 12 0 0 0
unfolding module_told_of module_read_of module_read_at board_at fitted_state fitted blank new_eeprom cart_refusal reader_fits standard_fits extra_fits valid_board valid_eeprom every
past_limit = refl

pub of_empty : module_told_of empty_board ≡ told 12 0 0 0
unfolding module_told_of empty_board fitted_state fitted cart_refusal valid_board
of_empty = refl

-- the hypotheses of `clock_exact`, met
pub exact_met : (valid_board (board_at 157 2500) ≡ true) × ((board_at 157 2500).bandai.has_barcode_reader ≡ true)
unfolding board_at fitted_state fitted blank new_eeprom cart_refusal reader_fits standard_fits extra_fits valid_board valid_eeprom every
exact_met = (refl, refl)
