-- THE FILE OF A BOARD, as document 01 lays it out: contents, then the bodies (those are in the state_bodies crate). It is defined for every
-- board, valid or not. The old form, whose body 1 has no chip rule, is read and never written. Assumes nothing.
use Rattle.std.specs.Prelude.{Bool, List, [], ◌∷◌, ◌++◌, ℕ, ◌+◌, ◌*◌, length, Result, Ok, Err}
use Rattle.refusals.specs.Refusals.{refusal_number}
use Rattle.refusals.specs.declared.Refusal.{Refusal}
use Rattle.laws.specs.Choice.{pick}
use Rattle.laws.specs.Words.{bytes_of, packed}
use Rattle.bandai_fcg.specs.declared.board.Board.{Board}
use Rattle.validity.specs.Valid.{valid_board}
use Rattle.state_bodies.specs.declared.cart_body.FileForm.{FileForm}
use Rattle.state_bodies.specs.declared.cart_body.FileForm.TheVariants.{Current}
use Rattle.state_bodies.specs.Bodies.{cart_bytes, regs_bytes, reader_bytes, eeprom_bytes}

-- A part of the file: its kind and its body
pub record Part : Type 0 where
  pub kind : ℕ
  pub body : List ℕ

abbrev pub part : ℕ → List ℕ → Part
part k body = record { kind = k; body = body }

-- a part that is there where it is fitted
abbrev pub fitted_part : Bool → ℕ → List ℕ → List Part
fitted_part has k body = pick has (part k body ∷ []) []

-- kinds ascend and are exactly those fitted: 1 description, 2 registers, 3 reader, 4 standard chip, 5 extra chip
unfoldable pub parts : FileForm → Board → List Part
parts form b =
    part 1 (cart_bytes form b.bandai.cart)
    ∷ part 2 (regs_bytes b.bandai.regs)
    ∷ (fitted_part b.bandai.has_barcode_reader 3 (reader_bytes b.bandai.barcode_reader b.modules)
    ++ (fitted_part b.bandai.has_standard_eeprom 4 (eeprom_bytes b.bandai.standard_eeprom b.standard_rom)
    ++ fitted_part b.bandai.has_extra_eeprom 5 (eeprom_bytes b.bandai.extra_eeprom b.extra_rom)))

-- an entry: kind, 0, length (u16), start (u16)
unfoldable pub entry : ℕ → ℕ → ℕ → List ℕ
entry kind len start = packed (1 ∷ 1 ∷ 2 ∷ 2 ∷ []) (kind ∷ 0 ∷ len ∷ start ∷ [])

-- the entries of parts whose bodies adjoin, the first at the place `start`
unfoldable pub entries : ℕ → List Part → List ℕ
entries start [] = []
entries start (p ∷ ps) = entry p.kind (length p.body) start ++ entries (start + length p.body) ps

-- the bodies, adjoining
unfoldable pub bodies : List Part → List ℕ
bodies [] = []
bodies (p ∷ ps) = p.body ++ bodies ps

-- starts count from the file's first byte: the first body starts after the byte n and n entries
abbrev pub first_start : ℕ → ℕ
first_start n = 1 + 6 * n

-- contents first: a byte n, then n entries; then the bodies in that order, ending the file
unfoldable pub file_of : List Part → List ℕ
file_of ps = bytes_of 1 (length ps) ++ (entries (first_start (length ps)) ps ++ bodies ps)

-- THE FILE OF A BOARD: in either form, and as it is written
unfoldable pub encode_as : FileForm → Board → List ℕ
encode_as form b = file_of (parts form b)

abbrev pub encode : Board → List ℕ
encode b = encode_as Current b

-- how many bytes a valid board's file has: the refusal, or 0, and the length, 0 where it is refused
pub record FileLength : Type 0 where
  pub length : ℕ
  pub refusal : ℕ

-- what `file_length` returns, as numbers
abbrev pub length_answer : Result ℕ Refusal → FileLength
length_answer (Ok n) = record { length = n; refusal = 0 }
length_answer (Err e) = record { length = 0; refusal = refusal_number e }

unfoldable pub file_length : Board → FileLength
file_length b = pick (valid_board b) (record { length = length (encode b); refusal = 0 }) (record { length = 0; refusal = 12 })
