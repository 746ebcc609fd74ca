-- The board that is decoded part by part is the one decoded whole.
-- Assumes nothing.
use mathlib.Core.Path.{◌≡◌, refl}
use mathlib.Core.Bool.{Bool}
use mathlib.Core.List.{List}
use Prim.Native.Nat.{ℕ, ◌+◌}
use Rattle.eeprom.specs.declared.Eeprom.{Eeprom}
use Rattle.eeprom.specs.Eeprom.{size}
use Rattle.cart.specs.declared.Cart.{Cart}
use Rattle.cart.specs.Cart.{has_reader, has_standard, has_extra}
use Rattle.regs.specs.declared.Regs.{Regs}
use Rattle.bandai_fcg.specs.declared.barcode_reader.BarcodeReader.{BarcodeReader}
use Rattle.bandai_fcg.specs.declared.board.Board.{Board}
use Rattle.state_bodies.specs.declared.cart_body.FileForm.{FileForm}
use Rattle.state_bodies.specs.Bodies.{cart_length, cart_at, regs_length, regs_at, reader_length, modules_at, eeprom_length, rom_at}
use Rattle.state_codec.specs.Decode.{reader_for, eeprom_for, fitted_length, board_from}

module _ (form : FileForm) (f : List ℕ) (at : ℕ) where
  pub board_parts : (c : Cart) (hr hs he : Bool) (cl : ℕ) (g : Regs) (r : BarcodeReader) (m : List ℕ) (rl : ℕ) (s : Eeprom) (sr : List ℕ) (sl : ℕ) (e : Eeprom) (er : List ℕ) →
      c ≡ cart_at form f at → hr ≡ has_reader c → hs ≡ has_standard c → he ≡ has_extra c → cl ≡ cart_length form → g ≡ regs_at f (at + cl) →
      r ≡ reader_for hr f (at + cl + regs_length) → m ≡ modules_at f (at + cl + regs_length) r.module_count → rl ≡ fitted_length hr (reader_length r) →
      s ≡ eeprom_for hs f (at + cl + regs_length + rl) → sr ≡ rom_at f (at + cl + regs_length + rl) (fitted_length hs (size s.model)) → sl ≡ fitted_length hs (eeprom_length s.model) →
      e ≡ eeprom_for he f (at + cl + regs_length + rl + sl) → er ≡ rom_at f (at + cl + regs_length + rl + sl) (fitted_length he (size e.model)) →
      ◌≡◌ {A = Board} (record { bandai = record { barcode_reader = r; cart = c; regs = g; standard_eeprom = s; extra_eeprom = e; has_barcode_reader = hr; has_standard_eeprom = hs; has_extra_eeprom = he }; modules = m; standard_rom = sr; extra_rom = er }) (board_from form f at)
  board_parts c hr hs he cl g r m rl s sr sl e er c· hr· hs· he· cl· g· r· m· rl· s· sr· sl· e· er· =
      rw (er·, e·, sl·, sr·, s·, rl·, m·, r·, g·, cl·, he·, hs·, hr·, c·) refl
