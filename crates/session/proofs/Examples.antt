-- A session's records, computed: each one after the first acts on the board that the last one left, and answers by it. Assumes nothing.
use Rattle.std.specs.Prelude.{◌≡◌, refl, List, [], ◌∷◌}
use Rattle.runs.specs.Session.{end_state, answer_bytes, refused_count}
use Rattle.eeprom.specs.Eeprom.{new_eeprom}
use Rattle.cart.specs.declared.Cart.{Cart}
use Rattle.cart.specs.CartWords.{cart_from}
use Rattle.regs.specs.Regs.{write_regs, tick_regs}
use Rattle.bandai_fcg.specs.declared.board.Board.{Board}
use Rattle.bandai_fcg.specs.Reader.{module_read_at}
use Rattle.bandai_fcg.specs.Board.{fitted_state, fitted, write_chips, write_register, tick, ticks, peek_of, module_read_of, eeprom_out}
use Rattle.event.specs.declared.Event.{Event}
use Rattle.event.specs.Event.{write_event, read_event, clocks_event, card_event, refusal_of, applied, peeked_by, after_of, answer_of}
use Rattle.session.specs.Session.{board_rules}

-- a fresh board of mapper 159, access as `load` sets it
pub cart : Cart
cart = cart_from (159 ∷ 0 ∷ 1 ∷ 0 ∷ 4 ∷ 32768 ∷ 8192 ∷ [])

pub start : Board
start = fitted cart

-- counting is switched on; a clock steps the counter from 0 and makes the interrupt pending; a read; two clocks; a card without a reader
pub events : List Event
events = write_event 0x800A 1 ∷ clocks_event 1 ∷ read_event 0x6000 ∷ clocks_event 2 ∷ card_event 1 1 ∷ []

-- all clocks were counted, whichever record brought them
pub counter_at_end : (end_state board_rules start events).bandai.regs.irq_counter ≡ 65533
unfolding end_state board_rules start cart events fitted_state fitted new_eeprom write_regs tick_regs write_chips write_register tick ticks refusal_of applied after_of
counter_at_end = refl

-- three bytes for each
pub answers_of_each : answer_bytes board_rules start events ≡ 0 ∷ 0 ∷ 0 ∷ 0 ∷ 2 ∷ 0 ∷ 0 ∷ 3 ∷ 0 ∷ 0 ∷ 2 ∷ 0 ∷ 4 ∷ 2 ∷ 0 ∷ []
unfolding answer_bytes board_rules start cart events fitted_state fitted new_eeprom write_regs tick_regs write_chips write_register tick ticks peek_of module_read_of module_read_at eeprom_out refusal_of applied peeked_by after_of answer_of
answers_of_each = refl

-- the last one is refused
pub one_refused : refused_count board_rules start events ≡ 1
unfolding refused_count board_rules start cart events fitted_state fitted new_eeprom write_regs tick_regs write_chips write_register tick ticks refusal_of applied after_of
one_refused = refl
