-- THE BODIES OF THE STATE FILE, as document 01 lists them: what is written of each part of a board, and what each part is read as.
-- A body is the words of the part, each in as many bytes as its width, low byte first, and the bytes of arrays as they stand. The words and
-- the widths are listed with the part: CartWords, RegsWords, ReaderWords, EepromWords.
-- `xBytes` is written, `xAt f at` is read from the place `at` of any list, past whose end there are zeros. Assumes nothing.
use Rattle.std.specs.Prelude.{Bool, List, [], ◌∷◌, ◌++◌, ℕ, ◌+◌, leb, get_or, take}
use Rattle.laws.specs.Lists.{blank}
use Rattle.laws.specs.Table.{filled}
use Rattle.laws.specs.Words.{packed, unpacked}
use Rattle.eeprom.specs.declared.EepromModel.{EepromModel}
use Rattle.eeprom.specs.declared.Eeprom.{Eeprom}
use Rattle.eeprom.specs.Eeprom.{size}
use Rattle.eeprom_codes.specs.EepromWords.{eeprom_widths, eeprom_words, eeprom_of}
use Rattle.bandai_fcg.specs.declared.barcode_reader.BarcodeReader.{BarcodeReader}
use Rattle.bandai_fcg.specs.ReaderWords.{reader_widths, reader_words, reader_of}
use Rattle.cart.specs.declared.Cart.{Cart}
use Rattle.cart.specs.CartWords.{cart_widths, cart_words, cart_of}
use Rattle.state_bodies.specs.declared.cart_body.FileForm.{FileForm}
use Rattle.state_bodies.specs.declared.cart_body.FileForm.TheVariants.{Old, Current}
use Rattle.regs.specs.declared.Regs.{Regs}
use Rattle.regs.specs.RegsWords.{regs_widths, regs_words, regs_of}

-- a width that a word of the machine has room for
abbrev pub is_width : ℕ → Bool
is_width w = leb w 8

-- the bytes of words of given widths
abbrev pub total : List ℕ → ℕ
total [] = 0
total (w ∷ ws) = w + total ws

-- the n bytes of f from a place on, stored from the front of l on
unfoldable pub read_into : List ℕ → List ℕ → ℕ → ℕ → List ℕ
read_into l f at n = filled l 0 (λ i. get_or f (at + i) 0) n

-- 1, the description: 35 bytes. The old form ends before the chip rule, after 12 words and 34 bytes, and is read as rule 0
abbrev pub form_words : FileForm → List ℕ → List ℕ
form_words Old words = take 12 words
form_words Current words = words

unfoldable pub cart_bytes : FileForm → Cart → List ℕ
cart_bytes form c = packed cart_widths (form_words form (cart_words c))

abbrev pub cart_length : FileForm → ℕ
cart_length Old = 34
cart_length Current = 35

unfoldable pub cart_at : FileForm → List ℕ → ℕ → Cart
cart_at form f at = cart_of (form_words form (unpacked cart_widths f at))

-- 2, the registers: 26 bytes
unfoldable pub regs_bytes : Regs → List ℕ
regs_bytes r = packed regs_widths (regs_words r)

abbrev pub regs_length : ℕ
regs_length = total regs_widths

unfoldable pub regs_at : List ℕ → ℕ → Regs
regs_at f at = regs_of (unpacked regs_widths f at)

-- 3, the reader, and as many modules as it has
unfoldable pub reader_bytes : BarcodeReader → List ℕ → List ℕ
reader_bytes r modules = packed reader_widths (reader_words r) ++ take r.module_count modules

abbrev pub reader_length : BarcodeReader → ℕ
reader_length r = total reader_widths + r.module_count

unfoldable pub reader_at : List ℕ → ℕ → BarcodeReader
reader_at f at = reader_of (unpacked reader_widths f at)

unfoldable pub modules_at : List ℕ → ℕ → ℕ → List ℕ
modules_at f at count = read_into (blank 160) f (at + total reader_widths) count

-- 4 standard, 5 extra chip, and its 128 or 256 bytes
unfoldable pub eeprom_bytes : Eeprom → List ℕ → List ℕ
eeprom_bytes s rom = packed eeprom_widths (eeprom_words s) ++ take (size s.model) rom

abbrev pub eeprom_length : EepromModel → ℕ
eeprom_length m = total eeprom_widths + size m

unfoldable pub eeprom_at : List ℕ → ℕ → Eeprom
eeprom_at f at = eeprom_of (unpacked eeprom_widths f at)

unfoldable pub rom_at : List ℕ → ℕ → ℕ → List ℕ
rom_at f at count = read_into (blank 256) f (at + total eeprom_widths) count
