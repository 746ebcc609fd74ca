-- The list of modules that a card yields on a board: a card event, an insert event, and the reader's modules up to their count.
-- Assumes nothing.
use Rattle.std.specs.Prelude.{List, ℕ, take}
use Rattle.bandai_fcg.specs.declared.board.Board.{Board}
use Rattle.event.specs.Event.{card_event, insert_event, after_of}
use Rattle.card_decode.specs.Decode.{YieldsBy}

-- the board after the card was put in and inserted
abbrev pub inserted : ℕ → ℕ → Board → Board
inserted number count b = after_of insert_event (after_of (card_event number count) b)

-- the modules that the reader holds. Its array has zeros past them, which are none
abbrev pub reader_modules : Board → List ℕ
reader_modules b = take b.bandai.barcode_reader.module_count b.modules

-- a card has n digits and yields the list on the board
abbrev pub YieldsOn : Board → ℕ → List ℕ → Type 0
YieldsOn b n l = YieldsBy (λ number count. reader_modules (inserted number count b)) n l
