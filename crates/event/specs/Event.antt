-- ONE EVENT RECORD on a board, in document 01's order: when it is refused, what it does, what it answers. Read `refusal_of`, `applied`,
-- `answer_of` and `step_of`. A refusal reads no array, so it is defined on the state. Each holds on every board, valid or not. Assumes nothing.
use Rattle.std.specs.Prelude.{Bool, false, ◌&&◌, ◌||◌, [], ◌∷◌, ℕ, ◌+◌, ◌*◌, eqb, leb, ltb}
use Rattle.laws.specs.Choice.{pick}
use Rattle.bandai_fcg.specs.declared.board.BandaiFCG.{BandaiFCG}
use Rattle.bandai_fcg.specs.declared.board.Board.{Board}
use Rattle.bandai_fcg.specs.BoardSet.{with_bandai}
use Rattle.bandai_fcg.specs.Board.{Peeked, write_register, peek_of, ticks, with_input, init_of, standard_write, extra_write}
use Rattle.validity.specs.Valid.{clock_limit}
use Rattle.event.specs.declared.Event.{Event}
use Rattle.event.specs.declared.Answer.{Answer}
use Rattle.event.specs.declared.Stepped.{Stepped}
use Rattle.event.specs.EventWords.{event_from}

-- the records of each kind, 0 in the fields that it does not name
abbrev pub write_event : ℕ → ℕ → Event
write_event a v = event_from (0 ∷ a ∷ v ∷ [])

abbrev pub read_event : ℕ → Event
read_event a = event_from (1 ∷ a ∷ [])

abbrev pub clocks_event : ℕ → Event
clocks_event n = event_from (2 ∷ 0 ∷ 0 ∷ n ∷ [])

abbrev pub card_event : ℕ → ℕ → Event
card_event n digits = event_from (3 ∷ 0 ∷ 0 ∷ digits ∷ n ∷ [])

abbrev pub insert_event : Event
insert_event = event_from (4 ∷ [])

abbrev pub lines_event : ℕ → ℕ → ℕ → Event
lines_event chip scl sda = event_from (5 ∷ 0 ∷ 0 ∷ 0 ∷ 0 ∷ chip ∷ scl ∷ sda ∷ [])

-- THE REFUSALS, each on the numbers that it reads; `fitted` is of the reader, or of the chip. 6: the reader's clock would pass 2^62
abbrev pub passes_limit : ℕ → ℕ → Bool
passes_limit clock count = ltb clock_limit (clock + count)

abbrev pub clocks_refusal : Bool → ℕ → ℕ → ℕ
clocks_refusal fitted clock count = pick (fitted && passes_limit clock count) 6 0

-- 4: card or insert, no reader; then 5: digit count above 20
abbrev pub card_refusal : Bool → ℕ → ℕ
card_refusal fitted digits = pick fitted (pick (ltb 20 digits) 5 0) 4

abbrev pub insert_refusal : Bool → ℕ
insert_refusal fitted = pick fitted 0 4

-- 8: chip (0 standard, 1 extra) not fitted, or above 1; then 7: line above 1
abbrev pub chip_fitted : ℕ → Bool → Bool → Bool
chip_fitted chip standard extra = eqb chip 0 && standard || eqb chip 1 && extra

abbrev pub lines_refusal : Bool → ℕ → ℕ → ℕ
lines_refusal fitted scl sda = pick fitted (pick (leb scl 1 && leb sda 1) 0 7) 8

-- 13: event kind above 5. Kinds 0 (register write) and 1 (device read) are never refused
unfoldable pub refusal_of : Event → BandaiFCG → ℕ
refusal_of e s =
    pick (leb e.kind 1) 0
    (pick (eqb e.kind 2) (clocks_refusal s.has_barcode_reader s.barcode_reader.master_clock e.count)
    (pick (eqb e.kind 3) (card_refusal s.has_barcode_reader e.count)
    (pick (eqb e.kind 4) (insert_refusal s.has_barcode_reader)
    (pick (eqb e.kind 5) (lines_refusal (chip_fitted e.chip s.has_standard_eeprom s.has_extra_eeprom) e.scl e.sda) 13))))

-- WHAT AN ACCEPTED RECORD DOES. 0 register write; 1 device read: nothing; 2 clocks; 3 card; 4 insert; 5 lines
abbrev pub lines_applied : Event → Board → Board
lines_applied e b = pick (eqb e.chip 0) (standard_write e.scl e.sda b) (extra_write e.scl e.sda b)

unfoldable pub applied : Event → Board → Board
applied e b =
    pick (eqb e.kind 0) (write_register e.address e.value b)
    (pick (eqb e.kind 2) (with_bandai (ticks e.count b.bandai) b)
    (pick (eqb e.kind 3) (with_bandai (with_input e.number e.count b.bandai) b)
    (pick (eqb e.kind 4) (init_of b)
    (pick (eqb e.kind 5) (lines_applied e b) b))))

-- WHAT IT ANSWERS. A device read's answer, else nothing
unfoldable pub peeked_by : Event → Board → Peeked
peeked_by e b = pick (eqb e.kind 1) (peek_of e.address b) (record { answered = false; value = 0 })

-- bit 0 "device answered", bit 1 "interrupt pending after it"
abbrev pub flags_of : Bool → Bool → ℕ
flags_of answered pending = pick answered 1 0 + 2 * pick pending 1 0

-- the board after a record: a refused one changes no state
unfoldable pub after_of : Event → Board → Board
after_of e b = pick (eqb (refusal_of e b.bandai) 0) (applied e b) b

-- the three answer bytes: a refused record answers its number, the pending bit as it was and 0
unfoldable pub answer_of : Event → Board → Answer
answer_of e b =
    pick (eqb (refusal_of e b.bandai) 0)
    (record { refusal = 0; flags = flags_of (peeked_by e b).answered (applied e b).bandai.regs.irq_pending; value = (peeked_by e b).value })
    (record { refusal = refusal_of e b.bandai; flags = flags_of false b.bandai.regs.irq_pending; value = 0 })

unfoldable pub step_of : Event → Board → Stepped
step_of e b = record { board = after_of e b; answer = answer_of e b }
