-- What is written of a valid board is decoded to that board in every field, in either form that has a place for its chip rule; what any bytes
-- are decoded to fits the machine's types.
-- Assumes nothing.
use Rattle.std.specs.Prelude.{◌≡◌, Bool, true, false, ℕ, ◌+◌, ◌^◌, ◌≤◌, ◌<◌, eqb, length}
use Rattle.std.proofs.Math.Path.{refl, sym}
use Rattle.std.proofs.Common.{ap, ◌∙◌, arith}
use mathlib.Core.List.{List, [], ◌++◌, append_assoc, append-nil}
use Rattle.std.proofs.Math.ListN.{length-append}
use Rattle.laws.specs.Choice.{pick}
use Rattle.laws.proofs.ChoiceLaws.{pick_all}
use Rattle.laws.specs.Lists.{blank, zeros_from, Each, Bytes}
use Rattle.laws.proofs.ListsLaws.{zeros_true}
use Rattle.laws.specs.Words.{bytes_of, word_at, packed}
use Rattle.laws.proofs.WordsLaws.{length_bytes, word_at_bytes, word_at_past_bytes}
use Rattle.eeprom.specs.declared.EepromModel.TheVariants.{X24C01}
use Rattle.eeprom.specs.declared.Eeprom.{Eeprom}
use Rattle.eeprom.specs.Eeprom.{size, new_eeprom}
use Rattle.eeprom.specs.Typed.{Typed}
use Rattle.bandai_fcg.specs.declared.barcode_reader.BarcodeReader.{BarcodeReader}
use Rattle.bandai_fcg.specs.declared.board.Board.{Board}
use Rattle.cart.specs.Cart.{has_reader, has_standard, has_extra}
use Rattle.bandai_fcg.specs.Reader.{new_reader}
use Rattle.bandai_fcg.specs.Typed.{TypedBoard, TypedReader}
use Rattle.validity.specs.Valid.{valid_board}
use Rattle.state_bodies.specs.declared.cart_body.FileForm.{FileForm}
use Rattle.state_bodies.specs.declared.cart_body.FileForm.TheVariants.{Old, Current}
use Rattle.state_bodies.specs.Bodies.{cart_bytes, cart_length, cart_at, regs_bytes, regs_length, regs_at, reader_bytes, reader_length, modules_at, eeprom_bytes, eeprom_length, rom_at}
use Rattle.state_bodies.specs.BodiesLaws.{Carries, read_none, length_cart, length_regs, length_reader, length_eeprom, cart_read, regs_read, reader_read, modules_read, eeprom_read, rom_read}
use Rattle.state_bodies.specs.BodiesTyped.{cart_at_typed, regs_at_typed, reader_at_typed, modules_typed, eeprom_at_typed, rom_typed}
use Rattle.state_codec.specs.Encode.{parts, entry, entries, first_start, file_of, encode_as}
use Rattle.state_codec.specs.Decode.{length_word, file_form, reader_for, eeprom_for, fitted_length, board_from, decode}
use Rattle.state_codec.specs.Steps.{part_count, fitted_body, bodies_of}
use Rattle.state_codec.specs.ValidLaws.{valid_reader_lem, valid_standard, valid_extra}
use Rattle.state_codec.specs.StepsLaws.{length_entries, length_parts, few_parts, bodies_parts, length_body}

-- zeros are read where nothing stands
blank_array : (l : List ℕ) (n : ℕ) → length l ≡ n → zeros_from 0 l ≡ true → blank n ≡ l
blank_array l n e z = rw (← e) (sym (zeros_true l z))

no_modules : (f : List ℕ) (at : ℕ) → modules_at f at 0 ≡ blank 160
unfolding modules_at
no_modules f at = sym (read_none (blank 160) f _)

no_rom : (f : List ℕ) (at : ℕ) → rom_at f at 0 ≡ blank 256
unfolding rom_at
no_rom f at = sym (read_none (blank 256) f _)

-- a reader that may be missing is read back
module _ (r : BarcodeReader) (modules p q : List ℕ) (t : TypedReader r) (digits : r.new_barcode_digit_count < 256) where
  reader_back : (has : Bool) → (has ≡ false → r ≡ new_reader) → reader_for has (p ++ (fitted_body has (reader_bytes r modules) ++ q)) (length p) ≡ r
  reader_back true absent = reader_read r modules p q t digits
  reader_back false absent = sym (absent refl)

  modules_back : (has : Bool) → (has ≡ false → r ≡ new_reader) → length modules ≡ 160 → r.module_count ≤ 160 → zeros_from r.module_count modules ≡ true →
      modules_at (p ++ (fitted_body has (reader_bytes r modules) ++ q)) (length p) r.module_count ≡ modules
  modules_back true absent el h z = modules_read r modules p q el h z
  modules_back false absent el h z =
      let n : r.module_count ≡ 0 = ap (λ (x : BarcodeReader). x.module_count) (absent refl) in
      rw n (no_modules (p ++ q) (length p) ∙ blank_array modules 160 el (rw n at z))

-- a chip that may be missing is read back
module _ (s : Eeprom) (rom p q : List ℕ) (t : Typed s rom) where
  eeprom_back : (has : Bool) → (has ≡ false → s ≡ new_eeprom X24C01) → eeprom_for has (p ++ (fitted_body has (eeprom_bytes s rom) ++ q)) (length p) ≡ s
  eeprom_back true absent = eeprom_read s rom t p q
  eeprom_back false absent = sym (absent refl)

  rom_back : (has : Bool) → (has ≡ true → zeros_from (size s.model) rom ≡ true) → (has ≡ false → zeros_from 0 rom ≡ true) →
      rom_at (p ++ (fitted_body has (eeprom_bytes s rom) ++ q)) (length p) (fitted_length has (size s.model)) ≡ rom
  rom_back true zeros absent = rom_read s rom t p q (zeros refl)
  rom_back false zeros absent = no_rom (p ++ q) (length p) ∙ blank_array rom 256 t.memory.long (absent refl)

-- THE LENGTH OF BODY 1 stands at place 3 of a file, and tells its form
own_form : (form : FileForm) → pick (eqb (cart_length form) (cart_length Old)) Old Current ≡ form
own_form Old = refl
own_form Current = refl

own_length : (form : FileForm) → cart_length form < 256 ^ 2
own_length Old = omega arith
own_length Current = omega arith

entry_length : (n kind len start : ℕ) (q : List ℕ) → len < 256 ^ 2 → word_at (bytes_of 1 n ++ (entry kind len start ++ q)) 3 2 ≡ len
unfolding entry packed
entry_length n kind len start q h =
    simp append_assoc
    (word_at_past_bytes 1 n _ 2 2 ∙ word_at_past_bytes 1 kind _ 1 2 ∙ word_at_past_bytes 1 0 _ 0 2 ∙ word_at_bytes 2 len _ h)

pub length_word_lem : (form : FileForm) (b : Board) → length_word (encode_as form b) ≡ cart_length form
unfolding encode_as file_of parts entries
length_word_lem form b =
    rw (length_cart form b.bandai.cart) (simp append_assoc (entry_length _ 1 (cart_length form) _ _ (own_length form)))

-- WHAT IS WRITTEN IS DECODED
module _ (form : FileForm) (b : Board) (t : TypedBoard b) (v : valid_board b ≡ true) (carries : Carries form b.bandai.cart) where
  -- the file in parts: the contents and the five bodies, each of which may be missing as the description says
  head : List ℕ
  head = bytes_of 1 (length (parts form b)) ++ entries (first_start (length (parts form b))) (parts form b)

  cart : List ℕ
  cart = cart_bytes form b.bandai.cart

  regs : List ℕ
  regs = regs_bytes b.bandai.regs

  reader : List ℕ
  reader = fitted_body (has_reader b.bandai.cart) (reader_bytes b.bandai.barcode_reader b.modules)

  standard : List ℕ
  standard = fitted_body (has_standard b.bandai.cart) (eeprom_bytes b.bandai.standard_eeprom b.standard_rom)

  extra : List ℕ
  extra = fitted_body (has_extra b.bandai.cart) (eeprom_bytes b.bandai.extra_eeprom b.extra_rom)

  in_parts : encode_as form b ≡ head ++ (cart ++ (regs ++ (reader ++ (standard ++ extra))))
  unfolding encode_as file_of bodies_of head cart regs reader standard extra
  in_parts =
      sym (append_assoc (bytes_of 1 (length (parts form b))) (entries (first_start (length (parts form b))) (parts form b)) _)
      ∙ rw (bodies_parts form b, (valid_reader_lem b v).has, (valid_standard b v).has_is, (valid_extra b v).has_is) refl

  -- the first words: how many parts there are; and the length of body 1, which says the form
  first_is : word_at (encode_as form b) 0 1 ≡ part_count b
  unfolding encode_as file_of
  first_is = word_at_bytes 1 (length (parts form b)) _ (rw (length_parts form b) (omega (arith, few_parts form b))) ∙ length_parts form b

  pub form_is : file_form (encode_as form b) ≡ form
  form_is = ap (λ (n : ℕ). pick (eqb n (cart_length Old)) Old Current) (length_word_lem form b) ∙ own_form form

  head_long : length head ≡ first_start (part_count b)
  unfolding head
  head_long = rw (length-append, length_bytes, length_entries, length_parts form b) refl

  cart_long : length (head ++ cart) ≡ length head + cart_length form
  unfolding cart
  cart_long = length-append head cart ∙ rw (length_cart form b.bandai.cart) refl

  regs_long : length ((head ++ cart) ++ regs) ≡ length head + cart_length form + regs_length
  unfolding regs
  regs_long = length-append (head ++ cart) regs ∙ rw (cart_long, length_regs b.bandai.regs) refl

  reader_start : ℕ
  reader_start = length head + cart_length form + regs_length

  standard_start : ℕ
  standard_start = reader_start + fitted_length (has_reader b.bandai.cart) (reader_length b.bandai.barcode_reader)

  extra_start : ℕ
  extra_start = standard_start + fitted_length (has_standard b.bandai.cart) (eeprom_length b.bandai.standard_eeprom.model)

  reader_long : length (((head ++ cart) ++ regs) ++ reader) ≡ standard_start
  unfolding reader standard_start reader_start
  reader_long =
      length-append ((head ++ cart) ++ regs) reader
      ∙ rw (regs_long, length_body (has_reader b.bandai.cart) (reader_bytes b.bandai.barcode_reader b.modules) (reader_length b.bandai.barcode_reader) (length_reader b.bandai.barcode_reader b.modules (omega (arith, t.modules.long, (valid_reader_lem b v).count)))) refl

  standard_long : length ((((head ++ cart) ++ regs) ++ reader) ++ standard) ≡ extra_start
  unfolding standard extra_start
  standard_long =
      length-append (((head ++ cart) ++ regs) ++ reader) standard
      ∙ rw (reader_long, length_body (has_standard b.bandai.cart) (eeprom_bytes b.bandai.standard_eeprom b.standard_rom) (eeprom_length b.bandai.standard_eeprom.model) (length_eeprom b.bandai.standard_eeprom b.standard_rom t.standard.memory.long)) refl

  at_regs : encode_as form b ≡ (head ++ cart) ++ (regs ++ (reader ++ (standard ++ extra)))
  at_regs = in_parts ∙ simp append_assoc

  at_reader : encode_as form b ≡ ((head ++ cart) ++ regs) ++ (reader ++ (standard ++ extra))
  at_reader = in_parts ∙ simp append_assoc

  at_standard : encode_as form b ≡ (((head ++ cart) ++ regs) ++ reader) ++ (standard ++ extra)
  at_standard = in_parts ∙ simp append_assoc

  at_extra : encode_as form b ≡ ((((head ++ cart) ++ regs) ++ reader) ++ standard) ++ (extra ++ [])
  at_extra = in_parts ∙ simp (append_assoc, append-nil)

  cart_is : cart_at form (encode_as form b) (length head) ≡ b.bandai.cart
  unfolding cart
  cart_is = rw in_parts (cart_read form b.bandai.cart t.cart carries head _)

  regs_is : regs_at (encode_as form b) (length head + cart_length form) ≡ b.bandai.regs
  unfolding regs
  regs_is = rw (at_regs, ← cart_long) (regs_read b.bandai.regs t.regs (head ++ cart) _)

  reader_is : reader_for (has_reader b.bandai.cart) (encode_as form b) reader_start ≡ b.bandai.barcode_reader
  unfolding reader reader_start
  reader_is =
      rw (at_reader, ← regs_long)
      (reader_back b.bandai.barcode_reader b.modules ((head ++ cart) ++ regs) (standard ++ extra) t.reader (valid_reader_lem b v).digits (has_reader b.bandai.cart) (valid_reader_lem b v).absent)

  modules_is : modules_at (encode_as form b) reader_start b.bandai.barcode_reader.module_count ≡ b.modules
  unfolding reader reader_start
  modules_is =
      let k = valid_reader_lem b v in
      rw (at_reader, ← regs_long)
      (modules_back b.bandai.barcode_reader b.modules ((head ++ cart) ++ regs) (standard ++ extra) t.reader k.digits (has_reader b.bandai.cart) k.absent t.modules.long k.count k.zeros)

  standard_is : eeprom_for (has_standard b.bandai.cart) (encode_as form b) standard_start ≡ b.bandai.standard_eeprom
  unfolding standard
  standard_is =
      rw (at_standard, ← reader_long)
      (eeprom_back b.bandai.standard_eeprom b.standard_rom (((head ++ cart) ++ regs) ++ reader) extra t.standard (has_standard b.bandai.cart) (valid_standard b v).absent)

  standard_rom_is : rom_at (encode_as form b) standard_start (fitted_length (has_standard b.bandai.cart) (size b.bandai.standard_eeprom.model)) ≡ b.standard_rom
  unfolding standard
  standard_rom_is =
      rw (at_standard, ← reader_long)
      (rom_back b.bandai.standard_eeprom b.standard_rom (((head ++ cart) ++ regs) ++ reader) extra t.standard (has_standard b.bandai.cart) (valid_standard b v).zeros (valid_standard b v).absent_rom)

  extra_is : eeprom_for (has_extra b.bandai.cart) (encode_as form b) extra_start ≡ b.bandai.extra_eeprom
  unfolding extra
  extra_is =
      rw (at_extra, ← standard_long)
      (eeprom_back b.bandai.extra_eeprom b.extra_rom ((((head ++ cart) ++ regs) ++ reader) ++ standard) [] t.extra (has_extra b.bandai.cart) (valid_extra b v).absent)

  extra_rom_is : rom_at (encode_as form b) extra_start (fitted_length (has_extra b.bandai.cart) (size b.bandai.extra_eeprom.model)) ≡ b.extra_rom
  unfolding extra
  extra_rom_is =
      rw (at_extra, ← standard_long)
      (rom_back b.bandai.extra_eeprom b.extra_rom ((((head ++ cart) ++ regs) ++ reader) ++ standard) [] t.extra (has_extra b.bandai.cart) (valid_extra b v).zeros (valid_extra b v).absent_rom)

  pub decode_encode : decode (encode_as form b) ≡ b
  unfolding decode reader_start standard_start extra_start
  decode_encode =
      rw (form_is, first_is, ← head_long, cart_is, regs_is, reader_is, modules_is, standard_is, standard_rom_is, extra_is, extra_rom_is, ← (valid_extra b v).has_is, ← (valid_standard b v).has_is, ← (valid_reader_lem b v).has) refl

-- WHAT IS DECODED FROM BYTES IS TYPED
new_reader_typed : TypedReader new_reader
new_reader_typed =
    record { master_clock = omega arith; insert_cycle = omega arith; new_barcode = omega arith; new_barcode_digit_count = omega arith; module_count = omega arith }

new_eeprom_typed : (rom : List ℕ) → Bytes 256 rom → Typed (new_eeprom X24C01) rom
unfolding new_eeprom
new_eeprom_typed rom m =
    record { chip_addr = omega arith; addr = omega arith; «data» = omega arith; counter = omega arith; output = omega arith; prev_scl = omega arith; prev_sda = omega arith; memory = m }

module _ (f : List ℕ) (small : Each (λ x. x < 256) f) where
  reader_for_typed : (has : Bool) (at : ℕ) → TypedReader (reader_for has f at)
  reader_for_typed has at = pick_all TypedReader has _ _ (λ h. reader_at_typed f at) (λ h. new_reader_typed)

  eeprom_for_typed : (has : Bool) (at from count : ℕ) → Typed (eeprom_for has f at) (rom_at f from count)
  eeprom_for_typed has at from count =
      let m = rom_typed f small from count in
      pick_all (λ (s : Eeprom). Typed s (rom_at f from count)) has _ _ (λ h. eeprom_at_typed f (rom_at f from count) at m) (λ h. new_eeprom_typed (rom_at f from count) m)

  from_typed : (form : FileForm) (at : ℕ) → TypedBoard (board_from form f at)
  from_typed form at =
      let c = cart_at form f at in
      let third = at + cart_length form + regs_length in
      let fourth = third + fitted_length (has_reader c) (reader_length (reader_for (has_reader c) f third)) in
      let fifth = fourth + fitted_length (has_standard c) (eeprom_length (eeprom_for (has_standard c) f fourth).model) in
      record {
        cart = cart_at_typed form f at;
        regs = regs_at_typed f (at + cart_length form);
        reader = reader_for_typed (has_reader c) third;
        standard = eeprom_for_typed (has_standard c) fourth fourth _;
        extra = eeprom_for_typed (has_extra c) fifth fifth _;
        modules = modules_typed f small third _;
      }

  pub decode_typed : TypedBoard (decode f)
  unfolding decode
  decode_typed = from_typed (file_form f) (first_start (word_at f 0 1))
