-- The paper's lines on counting, registers and device reads, computed. They are quoted in equivalence/specs/WorkedExamples.antt. Apart from
-- them, that clocks count alike in one record, and that the latch waits for register 10.
-- Assumes nothing.
use Rattle.std.specs.Prelude.{◌≡◌, refl, List, [], ◌∷◌, Bool, true, false, ◌&&◌, not, ℕ, eqb}
use Rattle.laws.specs.Choice.{all_true}
use Rattle.eeprom.specs.Eeprom.{new_eeprom}
use Rattle.cart.specs.declared.Cart.{Cart}
use Rattle.cart.specs.CartWords.{cart_from}
use Rattle.bandai_fcg.specs.declared.board.Board.{Board}
use Rattle.regs.specs.RegsSet.{with_irq}
use Rattle.regs.specs.Regs.{write_regs, tick_regs}
use Rattle.bandai_fcg.specs.BoardSet.{with_regs, with_bandai}
use Rattle.bandai_fcg.specs.Reader.{module_read_at}
use Rattle.bandai_fcg.specs.Board.{fitted_state, fitted, write_chips, write_register, tick, ticks, peek_of, module_read_of, eeprom_out}
use Rattle.event.specs.Event.{write_event, read_event, clocks_event, refusal_of, applied, peeked_by, after_of, answer_of}

-- a cart of a mapper and a submapper, access as `load` sets it
pub mapper_cart : ℕ → ℕ → Cart
mapper_cart m s = cart_from (m ∷ s ∷ 1 ∷ 0 ∷ 4 ∷ 32768 ∷ 8192 ∷ [])

-- counting is on, nothing is pending, and the counter is at n
pub counting : ℕ → Board
counting n = let b = after_of (write_event 0x800A 1) (fitted (mapper_cart 159 0)) in with_bandai (with_regs (with_irq n false b.bandai.regs) b.bandai) b

-- the counter and pending
pub irq : Board → ℕ → Bool → Bool
irq b n true = eqb b.bandai.regs.irq_counter n && b.bandai.regs.irq_pending
irq b n false = eqb b.bandai.regs.irq_counter n && not b.bandai.regs.irq_pending

-- 11 gets 0x34 and 12 gets 0x12
pub counter_set : Board → Board
counter_set b = after_of (write_event 0x800C 0x12) (after_of (write_event 0x800B 0x34) b)

-- a device's answer to a read at 0x6000 of a fresh board: none, or this value
pub silent : Board → Bool
silent b = eqb (answer_of (read_event 0x6000) b).flags 0 && eqb (answer_of (read_event 0x6000) b).value 0

pub answers : Board → ℕ → Bool
answers b v = eqb (answer_of (read_event 0x6000) b).flags 1 && eqb (answer_of (read_event 0x6000) b).value v

-- THE PAPER'S LINES
pub four_clocks : Bool
four_clocks =
    irq (counting 3) 3 false && irq (after_of (clocks_event 3) (counting 3)) 0 false && irq (after_of (clocks_event 1) (after_of (clocks_event 3) (counting 3))) 65535 true

pub latched : Bool
latched = irq (after_of (write_event 0x800A 1) (counter_set (fitted (mapper_cart 159 0)))) 0x1234 false

pub direct : Bool
direct = irq (counter_set (fitted (mapper_cart 16 4))) 0x1234 false

pub no_device : Bool
no_device = silent (fitted (mapper_cart 153 0))

pub reader_answers : Bool
reader_answers = answers (fitted (mapper_cart 157 0)) 0

unfoldable pub count_lines : List Bool
count_lines = four_clocks ∷ latched ∷ direct ∷ []

pub count_lines_lem : all_true count_lines ≡ true
unfolding count_lines four_clocks latched direct mapper_cart counting irq counter_set fitted_state fitted new_eeprom write_regs tick_regs write_chips write_register tick ticks refusal_of applied after_of
count_lines_lem = refl

unfoldable pub read_lines : List Bool
read_lines = no_device ∷ reader_answers ∷ []

pub read_lines_lem : all_true read_lines ≡ true
unfolding read_lines no_device reader_answers silent answers mapper_cart fitted_state fitted new_eeprom peek_of module_read_of module_read_at eeprom_out refusal_of applied peeked_by answer_of
read_lines_lem = refl

-- OTHER BOARDS: the fourth clock in one record with the three; the counter of 159 before register 10
unfoldable pub boards : List Bool
boards = irq (after_of (clocks_event 4) (counting 3)) 65535 true ∷ irq (counter_set (fitted (mapper_cart 159 0))) 0 false ∷ []

pub boards_are : all_true boards ≡ true
unfolding boards mapper_cart counting irq counter_set fitted_state fitted new_eeprom write_regs tick_regs write_chips write_register tick ticks refusal_of applied after_of
boards_are = refl
