-- DEMAND 3 IS NOT EMPTY: a list of calls on a Datach board, with a count of 0, a count that goes over the counter's wrap, a card, refused
-- records of several numbers, a session and a checkpoint whose buffers are too short, and a checkpoint that is written and read. The stepwise
-- run is computed; it refuses no clocks; so by the theorem the batched run's answers and its end state are the computed ones.
-- Assumes nothing.
use Rattle.std.specs.Prelude.{◌≡◌, refl, true, List, [], ◌∷◌, map, ℕ}
use Rattle.std.proofs.Common.{ap, ◌∙◌}
use Rattle.std.proofs.lemmas.Bool.{false≢true}
use Rattle.laws.specs.Lists.{blank, padded, Each}
use Rattle.laws.proofs.WordsLaws.{cut_fits}
use Rattle.runs.specs.Log.{Entry, events_of}
use Rattle.runs.specs.Batched.{Call, Session, Checkpoint, batched}
use Rattle.runs.specs.Stepwise.{feed, stepwise}
use Rattle.runs.specs.Claim.{TypedCall, NoClocksRefused, others, Agrees}
use Rattle.runs.specs.Ways.{records}
use Rattle.runs.proofs.Theorem.{log_records}
use Rattle.cart.specs.declared.Cart.{Cart}
use Rattle.bandai_fcg.specs.declared.board.Board.{Board}
use Rattle.cart.specs.CartWords.{cart_widths, cart_words, cart_from}
use Rattle.cart.specs.Cart.{cart_refusal}
use Rattle.barcode.specs.Barcode.{modules_in, modules_of, patterns, pattern_of, patterns_of, parities, parity_of, left_of, right_of, lights, guard, centre}
use Rattle.laws.specs.Decimal.{decimal, zeros_before}
use Rattle.digits.specs.Digits.{digits_of, weighed, weights, check_digit_of}
use Rattle.eeprom.specs.declared.EepromModel.TheVariants.{X24C01, X24C02}
use Rattle.eeprom.specs.Eeprom.{new_eeprom}
use Rattle.regs.specs.RegsSet.{with_prg_page, with_interrupt}
use Rattle.regs.specs.Regs.{new_regs, tick_regs, write_regs}
use Rattle.bandai_fcg.specs.Reader.{at_clock, module_read_at}
use Rattle.bandai_fcg.specs.BoardSet.{with_reader, with_bandai}
use Rattle.bandai_fcg.specs.Board.{fitted_state, fitted, tick, ticks, write_register, write_chips, with_input, init_of, standard_write, extra_write, peek_of, module_read_of, eeprom_out}
use Rattle.validity.specs.Valid.{clock_limit}
use Rattle.validity.specs.Good.{Good}
use Rattle.validity.specs.GoodLaws.{fresh_good}
use Rattle.event.specs.declared.Event.{Event}
use Rattle.event.specs.Event.{write_event, read_event, clocks_event, card_event, insert_event, lines_event, refusal_of, applied, after_of, answer_of, peeked_by}
use Rattle.event.specs.EventWords.{event_words, event_from, event_of, TypedEvent}
use Rattle.event.proofs.EventWordsLaws.{event_typed}
use Rattle.session.specs.Session.{board_rules}
use Rattle.equivalence.specs.BoardMachine.{machine}
use Rattle.equivalence.specs.BoardLaws.{board_laws}
use Rattle.equivalence.specs.Theorem.{demand_3}

-- a Datach cart, access as `load` sets it
pub datach : Cart
datach = cart_from (157 ∷ 0 ∷ 0 ∷ 0 ∷ 4 ∷ 262144 ∷ 0 ∷ 8192 ∷ 0 ∷ 384 ∷ [])

pub start : Board
start = fitted datach

start_good : Good start
unfolding start datach cart_refusal
start_good = fresh_good datach (cut_fits cart_widths (cart_words datach) 0) refl

pub unknown : Event
unknown = event_from (255 ∷ [])

-- registers; no clocks, and three clocks in one record, over the counter's wrap; a card with too many digits; a card, its insertion and a
-- read; lines of a chip above 1, and a line above 1; a kind above 5
pub first : List Event
first =
    write_event 0x8008 5 ∷ write_event 0x800A 1 ∷ clocks_event 0 ∷ clocks_event 3 ∷ card_event 1 21 ∷ card_event 4901234567894 13 ∷ insert_event ∷ read_event 0x6000 ∷ lines_event 2 0 0 ∷ lines_event 0 2 0 ∷ unknown ∷ []

-- a session; a checkpoint and a session whose buffers are too short; a checkpoint with room to spare; a session
pub calls : List (Call Event)
calls =
    Session first (blank 36) ∷ Checkpoint [] ∷ Session first (blank 32) ∷ Checkpoint (blank 700) ∷ Session (read_event 0x6000 ∷ []) (blank 3) ∷ []

-- what the stepwise run is fed
pub events : List Event
events =
    write_event 0x8008 5 ∷ write_event 0x800A 1 ∷ clocks_event 0 ∷ clocks_event 1 ∷ clocks_event 1 ∷ clocks_event 1 ∷ card_event 1 21 ∷ card_event 4901234567894 13 ∷ insert_event ∷ read_event 0x6000 ∷ lines_event 2 0 0 ∷ lines_event 0 2 0 ∷ unknown ∷ read_event 0x6000 ∷ []

-- a record with each word cut to its width: for those below, the record itself
unfoldable pub fitting : Event → Event
fitting e = event_of (event_words e)

pub all_typed : (es : List Event) → Each TypedEvent (map fitting es)
unfolding fitting Each
all_typed [] = tt
all_typed (e ∷ es) = (event_typed (event_words e), all_typed es)

first_typed : Each TypedEvent first
unfolding fitting event_of first unknown
first_typed = all_typed first

last_typed : Each TypedEvent (read_event 0x6000 ∷ [])
unfolding fitting event_of
last_typed = all_typed (read_event 0x6000 ∷ [])

calls_typed : Each (TypedCall TypedEvent) calls
unfolding Each TypedCall calls
calls_typed = (first_typed, (tt, (first_typed, (tt, (last_typed, tt)))))

-- the records that are fed do not depend on the run: those of the sessions whose buffers have room
feed_is : feed machine (events_of (batched machine start calls).log) ≡ events
unfolding board_rules feed records calls first unknown events blank
feed_is = rw (log_records machine Good TypedEvent board_laws start calls start_good calls_typed) refl

stepwise_passes : NoClocksRefused machine (stepwise machine start events).log
unfolding board_rules NoClocksRefused Each stepwise events unknown start datach fitted_state fitted new_eeprom refusal_of applied after_of answer_of peeked_by ticks tick tick_regs write_regs write_register write_chips with_input init_of standard_write extra_write
stepwise_passes =
    (λ z. absurd (false≢true z), (λ z. absurd (false≢true z), (λ _. refl, (λ _. refl, (λ _. refl, (λ _. refl, (λ z. absurd (false≢true z), (λ z. absurd (false≢true z), (λ z. absurd (false≢true z), (λ z. absurd (false≢true z), (λ z. absurd (false≢true z), (λ z. absurd (false≢true z), (λ z. absurd (false≢true z), (λ z. absurd (false≢true z), tt))))))))))))))

-- so the theorem speaks of this list of calls
pub agrees : Agrees machine (batched machine start calls).log (batched machine start calls).end (stepwise machine start events)
agrees = rw feed_is at ((demand_3 start calls start_good calls_typed).agrees (rw feed_is stepwise_passes))

-- the three bytes of each record of a log
unfoldable pub bytes_in : List (Entry Event) → List ℕ
bytes_in [] = []
bytes_in (x ∷ xs) = x.refusal ∷ x.flags ∷ x.value ∷ bytes_in xs

-- and the answers to all records but clocks, of the stepwise run, computed: those of the batched run
pub answers_are : bytes_in (others machine (batched machine start calls).log) ≡
    0 ∷ 0 ∷ 0 ∷ 0 ∷ 0 ∷ 0 ∷ 5 ∷ 2 ∷ 0 ∷ 0 ∷ 2 ∷ 0 ∷ 0 ∷ 2 ∷ 0 ∷ 0 ∷ 3 ∷ 8 ∷ 8 ∷ 2 ∷ 0 ∷ 7 ∷ 2 ∷ 0 ∷ 13 ∷ 2 ∷ 0 ∷ 0 ∷ 3 ∷ 8 ∷ []
unfolding board_rules bytes_in others stepwise events unknown start datach fitted_state fitted new_eeprom refusal_of applied after_of answer_of peeked_by ticks tick tick_regs write_regs write_register write_chips with_input init_of standard_write extra_write peek_of module_read_of module_read_at eeprom_out modules_in modules_of digits_of decimal zeros_before blank padded patterns pattern_of patterns_of parities parity_of weighed weights check_digit_of left_of right_of lights guard centre
answers_are = ap bytes_in agrees.same_others ∙ refl

-- the end state of the stepwise run, computed: the page that was written; three clocks, over the wrap; the card, inserted at clock 3, with its
-- modules; chips and memories as they were fitted
pub ended : Board
ended =
    record {
      bandai =
          record {
            barcode_reader = record { master_clock = 3; insert_cycle = 3; new_barcode = 4901234567894; new_barcode_digit_count = 13; module_count = 160 };
            cart = datach;
            regs = with_interrupt 65533 0 true true (with_prg_page 5 (new_regs 0));
            standard_eeprom = new_eeprom X24C02;
            extra_eeprom = new_eeprom X24C01;
            has_barcode_reader = true;
            has_standard_eeprom = true;
            has_extra_eeprom = true;
          };
      modules = modules_of (digits_of 4901234567894 13);
      standard_rom = blank 256;
      extra_rom = blank 256;
    }

-- it is that of the batched run
pub end_is : (batched machine start calls).end ≡ ended
unfolding board_rules ended stepwise events unknown start datach fitted_state fitted new_eeprom refusal_of applied after_of ticks tick tick_regs write_regs write_register write_chips with_input init_of standard_write extra_write modules_in modules_of digits_of decimal zeros_before blank padded patterns pattern_of patterns_of parities parity_of weighed weights check_digit_of left_of right_of lights guard centre
end_is = agrees.same_end ∙ refl

-- the two numbers that such a list cannot hold: a card on a board without a reader, and clocks past the limit of the reader's clock
pub other : Cart
other = cart_from (159 ∷ 0 ∷ 0 ∷ 0 ∷ 4 ∷ 262144 ∷ 131072 ∷ 0 ∷ 0 ∷ 128 ∷ [])

pub without_reader : (answer_of (card_event 1 1) (fitted other)).refusal ≡ 4
unfolding answer_of refusal_of fitted_state fitted other
without_reader = refl

pub past_limit : (answer_of (clocks_event 1) (with_bandai (with_reader (at_clock clock_limit start.bandai.barcode_reader) start.bandai) start)).refusal ≡ 6
unfolding answer_of refusal_of start datach fitted_state fitted
past_limit = refl
