-- What is read from a list of bytes fits the machine's types.
-- Assumes nothing.
use Rattle.std.proofs.Common.{◌∙◌, arith}
use Rattle.std.specs.Prelude.{List, ℕ, zero, suc, ◌+◌, ◌<◌}
use Rattle.laws.specs.Lists.{blank, Each, Bytes}
use Rattle.laws.proofs.ListsLaws.{length_blank, each_at, each_set, each_blank}
use Rattle.laws.specs.Table.{filled}
use Rattle.laws.proofs.TableLaws.{length_filled}
use Rattle.eeprom.specs.Typed.{Typed}
use Rattle.eeprom_codes.specs.EepromWordsLaws.{eeprom_typed}
use Rattle.bandai_fcg.specs.Typed.{TypedReader}
use Rattle.bandai_fcg.proofs.ReaderWordsLaws.{reader_typed}
use Rattle.cart.specs.CartWords.{TypedCart}
use Rattle.cart.proofs.CartWordsLaws.{cart_typed}
use Rattle.regs.specs.RegsWords.{TypedRegs}
use Rattle.regs.proofs.RegsWordsLaws.{regs_typed}
use Rattle.state_bodies.specs.declared.cart_body.FileForm.{FileForm}
use Rattle.state_bodies.specs.Bodies.{read_into, cart_at, regs_at, reader_at, modules_at, eeprom_at, rom_at}

each_filled : (P : ℕ → Type 0) (l : List ℕ) (at : ℕ) (f : ℕ → ℕ) (n : ℕ) → Each P l → ((i : ℕ) → P (f i)) → Each P (filled l at f n)
unfolding filled
each_filled P l at f zero h k = h
each_filled P l at f (suc n) h k = each_set P (filled l at f n) (at + n) (f n) (each_filled P l at f n h k) (k n)

module _ (f : List ℕ) (b : Each (λ x. x < 256) f) where
  -- an array of any length
  bytes_read : (room at n : ℕ) → Bytes room (read_into (blank room) f at n)
  unfolding read_into
  bytes_read room at n =
      record {
        long = length_filled (blank room) 0 _ n ∙ length_blank room;
        small = each_filled (λ x. x < 256) (blank room) 0 _ n (each_blank (λ x. x < 256) room (omega arith)) (λ i. each_at (λ x. x < 256) f (at + i) (omega arith) b);
      }

  pub modules_typed : (at count : ℕ) → Bytes 160 (modules_at f at count)
  unfolding modules_at
  modules_typed at count = bytes_read 160 _ count

  pub rom_typed : (at count : ℕ) → Bytes 256 (rom_at f at count)
  unfolding rom_at
  rom_typed at count = bytes_read 256 _ count

pub cart_at_typed : (form : FileForm) (f : List ℕ) (at : ℕ) → TypedCart (cart_at form f at)
unfolding cart_at
cart_at_typed form f at = cart_typed _

pub regs_at_typed : (f : List ℕ) (at : ℕ) → TypedRegs (regs_at f at)
unfolding regs_at
regs_at_typed f at = regs_typed _

pub reader_at_typed : (f : List ℕ) (at : ℕ) → TypedReader (reader_at f at)
unfolding reader_at
reader_at_typed f at = reader_typed _

pub eeprom_at_typed : (f rom : List ℕ) (at : ℕ) → Bytes 256 rom → Typed (eeprom_at f at) rom
unfolding eeprom_at
eeprom_at_typed f rom at m = eeprom_typed _ rom m
