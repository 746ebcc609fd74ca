-- How the code builds the file, with each body's length from its part. For a board of the machine's types that is valid it is `encode_as`
-- (StepsLaws). Read `encoded_of` and `Encoded`, at the end. Assumes nothing.
use Rattle.std.specs.Prelude.{◌≡◌, Bool, true, List, [], ◌++◌, ℕ, ◌+◌, ◌≤◌, length, take}
use Rattle.laws.specs.Choice.{pick}
use Rattle.laws.specs.Append.{append_all}
use Rattle.laws.specs.Lists.{blank}
use Rattle.laws.specs.Words.{bytes_of, flag}
use Rattle.bandai_fcg.specs.declared.board.Board.{Board}
use Rattle.validity.specs.Valid.{valid_board}
use Rattle.state_bodies.specs.declared.file_buffer.FileBuffer.{FileBuffer}
use Rattle.state_bodies.specs.FileBuffer.{capacity, buffer_of}
use Rattle.state_bodies.specs.declared.cart_body.FileForm.{FileForm}
use Rattle.state_bodies.specs.Bodies.{cart_bytes, cart_length, regs_bytes, regs_length, reader_bytes, reader_length, eeprom_bytes, eeprom_length}
use Rattle.state_codec.specs.declared.encode.Kind.{Kind}
use Rattle.state_codec.specs.declared.encode.Kind.TheVariants.{Cart, Regs, Reader, Standard, Extra}
use Rattle.state_codec.specs.declared.encode.Rooms.{Rooms}
use Rattle.state_codec.specs.Encode.{entry, first_start, encode_as}
use Rattle.state_codec.specs.Decode.{fitted_length}

-- the number of a kind in its entry
abbrev pub kind_number : Kind → ℕ
kind_number Cart = 1
kind_number Regs = 2
kind_number Reader = 3
kind_number Standard = 4
kind_number Extra = 5

-- how many parts there are
abbrev pub part_count : Board → ℕ
part_count b = 2 + flag b.bandai.has_barcode_reader + flag b.bandai.has_standard_eeprom + flag b.bandai.has_extra_eeprom

-- an entry, a body that are there where the part is fitted
abbrev pub fitted_entry : Bool → ℕ → ℕ → ℕ → List ℕ
fitted_entry has kind len start = pick has (entry kind len start) []

abbrev pub fitted_body : Bool → List ℕ → List ℕ
fitted_body has body = pick has body []

-- the room of each part that may be missing
abbrev pub rooms_of : Board → Rooms
rooms_of b =
    record {
      reader = fitted_length b.bandai.has_barcode_reader (reader_length b.bandai.barcode_reader);
      standard = fitted_length b.bandai.has_standard_eeprom (eeprom_length b.bandai.standard_eeprom.model);
      extra = fitted_length b.bandai.has_extra_eeprom (eeprom_length b.bandai.extra_eeprom.model);
    }

abbrev pub Small : Rooms → Type 0
Small r = (r.reader ≤ 281) × ((r.standard ≤ 266) × (r.extra ≤ 266))

-- the contents: the number of parts, the entries of the two that are always there, and those of the others
abbrev pub head_of : FileForm → ℕ → List ℕ
head_of form n = bytes_of 1 n ++ (entry 1 (cart_length form) (first_start n) ++ entry 2 regs_length (first_start n + cart_length form))

abbrev pub others_from : Board → ℕ → List ℕ
others_from b start =
    let rooms = rooms_of b in
    fitted_entry b.bandai.has_barcode_reader 3 rooms.reader start
    ++ (fitted_entry b.bandai.has_standard_eeprom 4 rooms.standard (start + rooms.reader)
    ++ fitted_entry b.bandai.has_extra_eeprom 5 rooms.extra (start + rooms.reader + rooms.standard))

unfoldable pub contents_of : FileForm → Board → List ℕ
contents_of form b = head_of form (part_count b) ++ others_from b (first_start (part_count b) + cart_length form + regs_length)

abbrev pub chips_of : Board → List ℕ
chips_of b =
    fitted_body b.bandai.has_standard_eeprom (eeprom_bytes b.bandai.standard_eeprom b.standard_rom)
    ++ fitted_body b.bandai.has_extra_eeprom (eeprom_bytes b.bandai.extra_eeprom b.extra_rom)

unfoldable pub bodies_of : FileForm → Board → List ℕ
bodies_of form b =
    cart_bytes form b.bandai.cart
    ++ (regs_bytes b.bandai.regs
    ++ (fitted_body b.bandai.has_barcode_reader (reader_bytes b.bandai.barcode_reader b.modules)
    ++ chips_of b))

-- the length of contents and bodies
abbrev pub encoded_length : FileForm → Board → ℕ
encoded_length form b = let rooms = rooms_of b in first_start (part_count b) + cart_length form + regs_length + rooms.reader + rooms.standard + rooms.extra

-- THE CODE'S BUFFER, of any board
unfoldable pub encoded_of : FileForm → Board → FileBuffer
encoded_of form b = buffer_of (append_all capacity (blank capacity, 0) (contents_of form b ++ bodies_of form b))

-- what it holds of a valid board: the file, at its front
pub record Encoded (form : FileForm) (b : Board) (file : FileBuffer) : Type 0 where
  pub front : valid_board b ≡ true → take file.length file.bytes ≡ encode_as form b
  pub size : valid_board b ≡ true → file.length ≡ length (encode_as form b)
  pub room : valid_board b ≡ true → file.length ≤ length file.bytes
