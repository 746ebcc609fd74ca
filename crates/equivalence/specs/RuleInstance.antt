-- DEMAND 3 UNDER THE DATASHEET'S RULE IS NOT EMPTY: a master sends 0xA0, high bit first, to a board of rule 1; the run stops in the middle of the
-- byte, goes through its file and resumes; clocks are joined; the chip's acknowledge is read. The stepwise run is computed.
-- Assumes nothing.
use Rattle.std.specs.Prelude.{◌≡◌, refl, true, false, List, [], ◌∷◌}
use Rattle.std.proofs.Common.{ap, ◌∙◌}
use Rattle.std.proofs.lemmas.Bool.{false≢true}
use Rattle.laws.specs.Lists.{blank, Each}
use Rattle.laws.proofs.WordsLaws.{cut_fits}
use Rattle.runs.specs.Log.{events_of}
use Rattle.runs.specs.Batched.{Call, Session, Checkpoint, batched}
use Rattle.runs.specs.Stepwise.{feed, stepwise}
use Rattle.runs.specs.Claim.{TypedCall, NoClocksRefused, others, Agrees}
use Rattle.runs.specs.Ways.{records}
use Rattle.runs.proofs.Theorem.{log_records}
use Rattle.cart.specs.declared.Cart.{Cart}
use Rattle.bandai_fcg.specs.declared.board.Board.{Board}
use Rattle.cart.specs.CartWords.{cart_widths, cart_words, cart_from}
use Rattle.cart.specs.Cart.{cart_refusal}
use Rattle.eeprom.specs.declared.EepromModel.TheVariants.{X24C01, X24C02}
use Rattle.eeprom.specs.declared.EepromMode.TheVariants.{Addr}
use Rattle.eeprom.specs.Eeprom.{new_eeprom, step_of, stores, eeprom_after, rom_after}
use Rattle.regs.specs.Regs.{new_regs, tick_regs}
use Rattle.bandai_fcg.specs.Reader.{module_read_at}
use Rattle.bandai_fcg.specs.Board.{fitted_state, fitted, tick, ticks, standard_write, peek_of, module_read_of, eeprom_out}
use Rattle.validity.specs.Good.{Good}
use Rattle.validity.specs.GoodLaws.{fresh_good}
use Rattle.event.specs.declared.Event.{Event}
use Rattle.event.specs.Event.{read_event, clocks_event, lines_event, refusal_of, applied, after_of, answer_of, peeked_by}
use Rattle.event.specs.EventWords.{event_of, TypedEvent}
use Rattle.session.specs.Session.{board_rules}
use Rattle.equivalence.specs.BoardMachine.{machine}
use Rattle.equivalence.specs.BoardLaws.{board_laws}
use Rattle.equivalence.specs.Theorem.{demand_3}
use Rattle.equivalence.specs.Instance.{fitting, all_typed, bytes_in}

-- a Datach cart with rule 1 and no extra chip, so that a device read shows the X24C02's output
pub ruled : Cart
ruled = cart_from (157 ∷ 0 ∷ 1 ∷ 0 ∷ 4 ∷ 262144 ∷ 0 ∷ 8192 ∷ 0 ∷ 256 ∷ 0 ∷ 0 ∷ 1 ∷ [])

pub ruled_start : Board
ruled_start = fitted ruled

start_good : Good ruled_start
unfolding ruled_start ruled cart_refusal
start_good = fresh_good ruled (cut_fits cart_widths (cart_words ruled) 0) refl

-- START and five bits of 0xA0; two clocks
pub first_records : List Event
first_records =
    lines_event 0 1 1 ∷ lines_event 0 1 0 ∷ lines_event 0 0 0 ∷ lines_event 0 0 1 ∷ lines_event 0 1 1 ∷ lines_event 0 0 0 ∷ lines_event 0 1 0 ∷ lines_event 0 0 1 ∷ lines_event 0 1 1 ∷ lines_event 0 0 0 ∷ lines_event 0 1 0 ∷ lines_event 0 0 0 ∷ lines_event 0 1 0 ∷ clocks_event 2 ∷ []

-- its last three bits, and the fall after them; a read; three clocks; the acknowledge clock, with a read while SCL is high
pub last_records : List Event
last_records =
    lines_event 0 0 0 ∷ lines_event 0 1 0 ∷ lines_event 0 0 0 ∷ lines_event 0 1 0 ∷ lines_event 0 0 0 ∷ lines_event 0 1 0 ∷ lines_event 0 0 0 ∷ read_event 0x6000 ∷ clocks_event 3 ∷ lines_event 0 1 0 ∷ read_event 0x6000 ∷ lines_event 0 0 0 ∷ []

-- the run stops in the middle of the byte
pub ruled_calls : List (Call Event)
ruled_calls = Session first_records (blank 42) ∷ Checkpoint (blank 700) ∷ Session last_records (blank 36) ∷ []

-- what the stepwise run is fed
pub ruled_events : List Event
ruled_events =
    lines_event 0 1 1 ∷ lines_event 0 1 0 ∷ lines_event 0 0 0 ∷ lines_event 0 0 1 ∷ lines_event 0 1 1 ∷ lines_event 0 0 0 ∷ lines_event 0 1 0 ∷ lines_event 0 0 1 ∷ lines_event 0 1 1 ∷ lines_event 0 0 0 ∷ lines_event 0 1 0 ∷ lines_event 0 0 0 ∷ lines_event 0 1 0 ∷ clocks_event 1 ∷ clocks_event 1 ∷ lines_event 0 0 0 ∷ lines_event 0 1 0 ∷ lines_event 0 0 0 ∷ lines_event 0 1 0 ∷ lines_event 0 0 0 ∷ lines_event 0 1 0 ∷ lines_event 0 0 0 ∷ read_event 0x6000 ∷ clocks_event 1 ∷ clocks_event 1 ∷ clocks_event 1 ∷ lines_event 0 1 0 ∷ read_event 0x6000 ∷ lines_event 0 0 0 ∷ []

first_typed : Each TypedEvent first_records
unfolding fitting event_of first_records
first_typed = all_typed first_records

second_typed : Each TypedEvent last_records
unfolding fitting event_of last_records
second_typed = all_typed last_records

calls_typed : Each (TypedCall TypedEvent) ruled_calls
unfolding Each TypedCall ruled_calls
calls_typed = (first_typed, (tt, (second_typed, tt)))

feed_is : feed machine (events_of (batched machine ruled_start ruled_calls).log) ≡ ruled_events
unfolding board_rules feed records ruled_calls first_records last_records ruled_events blank
feed_is = rw (log_records machine Good TypedEvent board_laws ruled_start ruled_calls start_good calls_typed) refl

stepwise_passes : NoClocksRefused machine (stepwise machine ruled_start ruled_events).log
unfolding board_rules NoClocksRefused Each stepwise ruled_events ruled_start ruled fitted_state fitted new_eeprom refusal_of applied after_of answer_of peeked_by ticks tick tick_regs standard_write
stepwise_passes =
    (λ z. absurd (false≢true z), (λ z. absurd (false≢true z), (λ z. absurd (false≢true z), (λ z. absurd (false≢true z), (λ z. absurd (false≢true z), (λ z. absurd (false≢true z), (λ z. absurd (false≢true z), (λ z. absurd (false≢true z), (λ z. absurd (false≢true z), (λ z. absurd (false≢true z), (λ z. absurd (false≢true z), (λ z. absurd (false≢true z), (λ z. absurd (false≢true z), (λ _. refl, (λ _. refl, (λ z. absurd (false≢true z), (λ z. absurd (false≢true z), (λ z. absurd (false≢true z), (λ z. absurd (false≢true z), (λ z. absurd (false≢true z), (λ z. absurd (false≢true z), (λ z. absurd (false≢true z), (λ z. absurd (false≢true z), (λ _. refl, (λ _. refl, (λ _. refl, (λ z. absurd (false≢true z), (λ z. absurd (false≢true z), (λ z. absurd (false≢true z), tt)))))))))))))))))))))))))))))

pub ruled_agrees : Agrees machine (batched machine ruled_start ruled_calls).log (batched machine ruled_start ruled_calls).end (stepwise machine ruled_start ruled_events)
ruled_agrees = rw feed_is at ((demand_3 ruled_start ruled_calls start_good calls_typed).agrees (rw feed_is stepwise_passes))

-- the answers to all records but clocks: the first read sees the data line let go, the second the acknowledge
pub answers_are : bytes_in (others machine (batched machine ruled_start ruled_calls).log) ≡
    0 ∷ 0 ∷ 0 ∷ 0 ∷ 0 ∷ 0 ∷ 0 ∷ 0 ∷ 0 ∷ 0 ∷ 0 ∷ 0 ∷ 0 ∷ 0 ∷ 0 ∷ 0 ∷ 0 ∷ 0 ∷ 0 ∷ 0 ∷ 0 ∷ 0 ∷ 0 ∷ 0 ∷ 0 ∷ 0 ∷ 0 ∷ 0 ∷ 0 ∷ 0 ∷ 0 ∷ 0 ∷ 0 ∷ 0 ∷ 0 ∷ 0 ∷ 0 ∷ 0 ∷ 0 ∷ 0 ∷ 0 ∷ 0 ∷ 0 ∷ 0 ∷ 0 ∷ 0 ∷ 0 ∷ 0 ∷ 0 ∷ 0 ∷ 0 ∷ 0 ∷ 0 ∷ 0 ∷ 0 ∷ 0 ∷ 0 ∷ 0 ∷ 0 ∷ 0 ∷ 0 ∷ 1 ∷ 16 ∷ 0 ∷ 0 ∷ 0 ∷ 0 ∷ 1 ∷ 0 ∷ 0 ∷ 0 ∷ 0 ∷ []
unfolding board_rules bytes_in others stepwise ruled_events ruled_start ruled fitted_state fitted new_eeprom refusal_of applied after_of answer_of peeked_by ticks tick tick_regs standard_write peek_of module_read_of module_read_at eeprom_out step_of stores eeprom_after rom_after blank
answers_are = ap bytes_in ruled_agrees.same_others ∙ refl

-- the end state: the chip awaits the word address; five clocks
pub ruled_end : Board
ruled_end =
    record {
      bandai =
          record {
            barcode_reader = record { master_clock = 5; insert_cycle = 0; new_barcode = 0; new_barcode_digit_count = 0; module_count = 0 };
            cart = ruled;
            regs = new_regs 0;
            standard_eeprom = record { model = X24C02; mode = Addr; next_mode = Addr; chip_addr = 0xA0; addr = 0; «data» = 0; counter = 0; output = 1; prev_scl = 0; prev_sda = 0 };
            extra_eeprom = new_eeprom X24C01;
            has_barcode_reader = true;
            has_standard_eeprom = true;
            has_extra_eeprom = false;
          };
      modules = blank 160;
      standard_rom = blank 256;
      extra_rom = blank 256;
    }

pub end_is : (batched machine ruled_start ruled_calls).end ≡ ruled_end
unfolding board_rules ruled_end stepwise ruled_events ruled_start ruled fitted_state fitted new_eeprom refusal_of applied after_of ticks tick tick_regs standard_write step_of stores eeprom_after rom_after blank
end_is = ruled_agrees.same_end ∙ refl
