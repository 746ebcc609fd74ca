-- What the machine's types hold: each number fits its width, each array has its length. Every board in a machine's memory is typed; the
-- definitions take numbers and lists of any size, so laws that lean on a width ask for it. Assumes nothing.
use Rattle.std.specs.Prelude.{◌^◌, ◌<◌}
use Rattle.laws.specs.Lists.{Bytes}
use Rattle.eeprom.specs.Typed.{Typed}
use Rattle.bandai_fcg.specs.declared.barcode_reader.BarcodeReader.{BarcodeReader}
use Rattle.cart.specs.CartWords.{TypedCart}
use Rattle.regs.specs.RegsWords.{TypedRegs}
use Rattle.bandai_fcg.specs.declared.board.Board.{Board}

pub record TypedReader (r : BarcodeReader) : Type 0 where
  pub master_clock : r.master_clock < 2 ^ 64
  pub insert_cycle : r.insert_cycle < 2 ^ 64
  pub new_barcode : r.new_barcode < 2 ^ 64
  pub new_barcode_digit_count : r.new_barcode_digit_count < 2 ^ 32
  pub module_count : r.module_count < 256

pub record TypedBoard (b : Board) : Type 0 where
  pub cart : TypedCart b.bandai.cart
  pub regs : TypedRegs b.bandai.regs
  pub reader : TypedReader b.bandai.barcode_reader
  pub standard : Typed b.bandai.standard_eeprom b.standard_rom
  pub extra : Typed b.bandai.extra_eeprom b.extra_rom
  pub modules : Bytes 160 b.modules
