-- Laws of the file's parts, in either form: the contents and the bodies where a part may be missing, their lengths, and that the file as the
-- code builds it is `encode_as`, for a valid board with arrays of their lengths. Assumes nothing.
use Rattle.std.specs.Prelude.{◌≡◌, Bool, true, false, ℕ, ◌+◌, ◌*◌, ◌%◌, ◌≤◌}
use Rattle.std.proofs.Math.Path.{refl, ap}
use Rattle.std.proofs.Common.{sym, ◌∙◌, arith, length-append}
use mathlib.Core.List.{List, [], ◌∷◌, ◌++◌, append_assoc, append-nil}
use Rattle.std.proofs.Math.Nat.{add-zero}
use Rattle.std.proofs.Math.ListN.{length}
use Rattle.laws.specs.Words.{bytes_of, packed, flag}
use Rattle.laws.proofs.WordsLaws.{length_bytes}
use Rattle.eeprom.specs.declared.EepromModel.{EepromModel}
use Rattle.eeprom.specs.declared.EepromModel.TheVariants.{X24C01, X24C02}
use Rattle.bandai_fcg.specs.declared.board.Board.{Board}
use Rattle.cart.specs.Cart.{has_extra}
use Rattle.validity.specs.Valid.{valid_board}
use Rattle.state_bodies.specs.FileBuffer.{capacity}
use Rattle.state_bodies.specs.declared.cart_body.FileForm.{FileForm}
use Rattle.state_bodies.specs.Bodies.{cart_length, regs_bytes, regs_length, reader_bytes, reader_length, eeprom_bytes, eeprom_length}
use Rattle.state_bodies.specs.BodiesLaws.{length_cart, cart_most, length_regs, length_reader, length_eeprom}
use Rattle.state_codec.specs.Encode.{Part, fitted_part, parts, entry, entries, bodies, first_start, file_of, encode_as}
use Rattle.state_codec.specs.Decode.{fitted_length}
use Rattle.state_codec.specs.Steps.{part_count, fitted_entry, fitted_body, others_from, contents_of, bodies_of, encoded_length}
use Rattle.state_codec.specs.ValidLaws.{Sized, valid_reader_lem, valid_extra, valid_extra_model}

-- how long the contents are
length_entry : (kind len start : ℕ) → length (entry kind len start) ≡ 6
unfolding entry packed
length_entry kind len start = simp (length-append, length_bytes)

pub length_entries : (start : ℕ) (ps : List Part) → length (entries start ps) ≡ 6 * length ps
unfolding entries
length_entries start [] = refl
length_entries start (p ∷ ps) = rw (length-append, length_entry, length_entries (start + length p.body) ps) (omega arith)

-- a part that may be missing
length_fitted : (has : Bool) (k : ℕ) (body : List ℕ) (ps : List Part) → length (fitted_part has k body ++ ps) ≡ flag has + length ps
length_fitted true k body ps = omega arith
length_fitted false k body ps = omega arith

entries_fitted : (has : Bool) (k : ℕ) (body : List ℕ) (ps : List Part) (start : ℕ) →
    entries start (fitted_part has k body ++ ps) ≡ fitted_entry has k (length (fitted_body has body)) start ++ entries (start + length (fitted_body has body)) ps
unfolding entries
entries_fitted true k body ps start = refl
entries_fitted false k body ps start = rw add-zero refl

bodies_fitted : (has : Bool) (k : ℕ) (body : List ℕ) (ps : List Part) → bodies (fitted_part has k body ++ ps) ≡ fitted_body has body ++ bodies ps
unfolding bodies
bodies_fitted true k body ps = refl
bodies_fitted false k body ps = refl

pub length_body : (has : Bool) (body : List ℕ) (n : ℕ) → length body ≡ n → length (fitted_body has body) ≡ fitted_length has n
length_body true body n h = h
length_body false body n h = refl

flag_small : (has : Bool) → flag has ≤ 1
flag_small true = omega arith
flag_small false = omega arith

-- a number of parts is a byte
pub count_byte : (n : ℕ) → n ≤ 5 → bytes_of 1 n ≡ n ∷ []
unfolding bytes_of
count_byte n h = let e : n % 256 ≡ n = omega arith in rw e refl

-- the parts, their number and their bodies
module _ (form : FileForm) (b : Board) where
  extras : List Part
  extras = fitted_part b.bandai.has_extra_eeprom 5 (eeprom_bytes b.bandai.extra_eeprom b.extra_rom)

  extras_nil : extras ≡ extras ++ []
  extras_nil = sym (append-nil extras)

  chips : List Part
  chips = fitted_part b.bandai.has_standard_eeprom 4 (eeprom_bytes b.bandai.standard_eeprom b.standard_rom) ++ extras

  length_extras : length extras ≡ flag b.bandai.has_extra_eeprom
  unfolding extras
  length_extras = ap length extras_nil ∙ length_fitted b.bandai.has_extra_eeprom 5 _ [] ∙ add-zero _

  pub length_parts : length (parts form b) ≡ part_count b
  unfolding parts extras
  length_parts = rw (length_fitted b.bandai.has_barcode_reader 3 _ _, length_fitted b.bandai.has_standard_eeprom 4 _ _, length_extras) (omega arith)

  pub few_parts : part_count b ≤ 5
  few_parts = omega (arith, flag_small b.bandai.has_barcode_reader, flag_small b.bandai.has_standard_eeprom, flag_small b.bandai.has_extra_eeprom)

  bodies_extras : bodies extras ≡ fitted_body b.bandai.has_extra_eeprom (eeprom_bytes b.bandai.extra_eeprom b.extra_rom)
  unfolding extras bodies
  bodies_extras = ap bodies extras_nil ∙ bodies_fitted b.bandai.has_extra_eeprom 5 _ [] ∙ append-nil _

  pub bodies_parts : bodies (parts form b) ≡ bodies_of form b
  unfolding parts bodies bodies_of extras
  bodies_parts = rw (bodies_fitted b.bandai.has_barcode_reader 3 _ _, bodies_fitted b.bandai.has_standard_eeprom 4 _ _, bodies_extras) refl

  entries_extras : (start : ℕ) → entries start extras ≡ fitted_entry b.bandai.has_extra_eeprom 5 (length (fitted_body b.bandai.has_extra_eeprom (eeprom_bytes b.bandai.extra_eeprom b.extra_rom))) start
  unfolding extras entries
  entries_extras start = ap (entries start) extras_nil ∙ entries_fitted b.bandai.has_extra_eeprom 5 _ [] start ∙ append-nil _

  module _ (z : Sized b) (v : valid_board b ≡ true) where
    reader_long : length (reader_bytes b.bandai.barcode_reader b.modules) ≡ reader_length b.bandai.barcode_reader
    reader_long = length_reader b.bandai.barcode_reader b.modules (omega (arith, z.modules, (valid_reader_lem b v).count))

    standard_long : length (eeprom_bytes b.bandai.standard_eeprom b.standard_rom) ≡ eeprom_length b.bandai.standard_eeprom.model
    standard_long = length_eeprom b.bandai.standard_eeprom b.standard_rom z.standard

    extra_long : length (eeprom_bytes b.bandai.extra_eeprom b.extra_rom) ≡ eeprom_length b.bandai.extra_eeprom.model
    extra_long = length_eeprom b.bandai.extra_eeprom b.extra_rom z.extra

    regs_long : length (regs_bytes b.bandai.regs) ≡ regs_length
    regs_long = length_regs b.bandai.regs

    entries_parts : (start : ℕ) → entries start (parts form b) ≡ entry 1 (cart_length form) start ++ (entry 2 regs_length (start + cart_length form) ++ others_from b (start + cart_length form + regs_length))
    unfolding parts entries extras
    entries_parts start =
        rw (
          length_cart form b.bandai.cart,
          regs_long,
          entries_fitted b.bandai.has_barcode_reader 3 _ _ _,
          entries_fitted b.bandai.has_standard_eeprom 4 _ _ _,
          entries_extras _,
          length_body b.bandai.has_barcode_reader _ _ reader_long,
          length_body b.bandai.has_standard_eeprom _ _ standard_long,
          length_body b.bandai.has_extra_eeprom _ _ extra_long,
        ) refl

    -- THE FILE AS THE CODE BUILDS IT
    pub stored_is : contents_of form b ++ bodies_of form b ≡ encode_as form b
    unfolding contents_of encode_as file_of
    stored_is = rw (length_parts, entries_parts (first_start (part_count b)), bodies_parts) (simp append_assoc)

    -- a file has at most 682 bytes, in the old form 681
    fitted_most : (has : Bool) (n most : ℕ) → n ≤ most → fitted_length has n ≤ most
    fitted_most true n most h = h
    fitted_most false n most h = omega arith

    chip_most : (m : EepromModel) → eeprom_length m ≤ 266
    chip_most X24C01 = omega arith
    chip_most X24C02 = omega arith

    extra_most : (has : Bool) → has_extra b.bandai.cart ≡ has → fitted_length has (eeprom_length b.bandai.extra_eeprom.model) ≤ 138
    extra_most true e = rw (valid_extra_model b v e) (omega arith)
    extra_most false e = omega arith

    pub length_file : length (encode_as form b) ≡ encoded_length form b
    unfolding encode_as file_of bodies_of
    length_file =
        let r = length_body b.bandai.has_barcode_reader (reader_bytes b.bandai.barcode_reader b.modules) (reader_length b.bandai.barcode_reader) reader_long in
        let s = length_body b.bandai.has_standard_eeprom (eeprom_bytes b.bandai.standard_eeprom b.standard_rom) (eeprom_length b.bandai.standard_eeprom.model) standard_long in
        let e = length_body b.bandai.has_extra_eeprom (eeprom_bytes b.bandai.extra_eeprom b.extra_rom) (eeprom_length b.bandai.extra_eeprom.model) extra_long in
        rw (length_parts, bodies_parts) (simp (length-append, length_bytes, length_entries, length_parts, length_cart, regs_long, r, s, e) (omega arith))

    pub file_within : length (encode_as form b) ≤ cart_length form + 647
    file_within =
        rw length_file
        (omega (arith, few_parts, fitted_most b.bandai.has_barcode_reader (reader_length b.bandai.barcode_reader) 186 (omega (arith, (valid_reader_lem b v).count)), fitted_most b.bandai.has_standard_eeprom (eeprom_length b.bandai.standard_eeprom.model) 266 (chip_most b.bandai.standard_eeprom.model), extra_most b.bandai.has_extra_eeprom (sym (valid_extra b v).has_is)))

    -- so it has room where the code builds it
    pub file_room : length (encode_as form b) ≤ capacity
    file_room = omega (arith, file_within, cart_most form)
