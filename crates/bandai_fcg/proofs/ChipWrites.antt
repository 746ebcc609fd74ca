-- A fitted chip is written under the board's rule: then the board with that chip and its memory is the board after the write.
-- Assumes nothing.
use Rattle.std.proofs.Common.{◌≡◌, ℕ, true, List, sym, ◌∙◌}
use Rattle.laws.specs.Choice.{pick}
use Rattle.eeprom_bits.specs.declared.EepromRule.{EepromRule}
use Rattle.eeprom.specs.declared.Eeprom.{Eeprom}
use Rattle.eeprom.specs.Eeprom.{eeprom_after, rom_after}
use Rattle.cart.specs.Cart.{cart_rule}
use Rattle.bandai_fcg.specs.declared.board.BandaiFCG.{BandaiFCG}
use Rattle.bandai_fcg.specs.BoardSet.{with_arrays, with_standard, with_extra}
use Rattle.bandai_fcg.specs.Board.{standard_write, extra_write}

module _ (s : BandaiFCG) (modules other rom after-rom : List ℕ) (scl sda : ℕ) (rule : EepromRule) (chip : Eeprom) (ruled : rule ≡ cart_rule s.cart) where
  pub standard_written : s.has_standard_eeprom ≡ true → chip ≡ eeprom_after rule s.standard_eeprom rom scl sda → after-rom ≡ rom_after s.standard_eeprom rom scl sda
      → with_standard chip after-rom (with_arrays s modules rom other) ≡ standard_write scl sda (with_arrays s modules rom other)
  unfolding standard_write
  standard_written fits chips roms =
      let b = with_arrays s modules rom other in
      let old = s.standard_eeprom in
      (λ i. with_standard (chips i) (roms i) b) ∙ λ i. pick (sym fits i) (with_standard (eeprom_after (ruled i) old rom scl sda) (rom_after old rom scl sda) b) b

  pub extra_written : s.has_extra_eeprom ≡ true → chip ≡ eeprom_after rule s.extra_eeprom rom scl sda → after-rom ≡ rom_after s.extra_eeprom rom scl sda
      → with_extra chip after-rom (with_arrays s modules other rom) ≡ extra_write scl sda (with_arrays s modules other rom)
  unfolding extra_write
  extra_written fits chips roms =
      let b = with_arrays s modules other rom in
      let old = s.extra_eeprom in
      (λ i. with_extra (chips i) (roms i) b) ∙ λ i. pick (sym fits i) (with_extra (eeprom_after (ruled i) old rom scl sda) (rom_after old rom scl sda) b) b
