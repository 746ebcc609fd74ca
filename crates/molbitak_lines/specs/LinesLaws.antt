-- A quick line change of a chip under the board's rule is the event on the board, for a chip whose codes are known: the refusal for every chip number, the chip and its
-- memory for each of the two. Assumes nothing.
use Rattle.std.specs.Prelude.{◌≡◌, Bool, ◌&&◌, ℕ, zero, suc, eqb, leb}
use Rattle.std.proofs.Math.Path.{refl}
use Rattle.std.proofs.Math.Bool.{true, false}
use Rattle.std.proofs.Common.{arith, ne_eqb}
use Rattle.laws.specs.Choice.{pick}
use Rattle.bandai_fcg.specs.declared.board.Board.{Board}
use Rattle.bandai_fcg.specs.Board.{standard_write, extra_write}
use Rattle.event.specs.Event.{lines_event, chip_fitted, refusal_of, applied, after_of}
use Rattle.board_codes.specs.declared.chip.EepromC.{EepromC}
use Rattle.board_codes.specs.declared.board.BoardC.{BoardC}
use Rattle.board_codes.specs.Codes.{known_chip, chip_c, board_of}
use Rattle.board_codes.proofs.CodesLaws.{chip_in}
use Rattle.board_codes.specs.Bytes.{chip_at, chip_bytes}
use Rattle.molbitak_lines.specs.Lines.{line_refusal, chip_after, rom_after_line}

-- whether the chip of a number is fitted, by the flag of that chip
pub own_flag : (chip : ℕ) (standard extra : Bool) → chip_fitted chip (pick (eqb chip 0) standard extra) (pick (eqb chip 0) standard extra) ≡ chip_fitted chip standard extra
own_flag zero standard extra = refl
own_flag (suc zero) standard extra = refl
own_flag (suc (suc n)) standard extra = rw (ne_eqb (suc (suc n)) 0 (λ h. omega arith), ne_eqb (suc (suc n)) 1 (λ h. omega arith)) refl

module _ (b : BoardC) (scl sda : ℕ) where
  -- the rule's code
  abbrev rule : ℕ
  rule = b.bandai.cart.eeprom_rule

  abbrev flag : ℕ → Bool
  flag chip = pick (eqb chip 0) b.bandai.devices.has_standard_eeprom b.bandai.devices.has_extra_eeprom

  abbrev fitted : ℕ → Bool
  fitted chip = chip_fitted chip (flag chip) (flag chip)

  abbrev after : ℕ → Board
  after chip = after_of (lines_event chip scl sda) (board_of b)

  abbrev Line : EepromC → ℕ → Type 0
  Line c chip = line_refusal c (fitted chip) scl sda ≡ refusal_of (lines_event chip scl sda) (board_of b).bandai

  abbrev named : ℕ → Bool
  named chip = chip_fitted chip b.bandai.devices.has_standard_eeprom b.bandai.devices.has_extra_eeprom

  refusal_by : (c : EepromC) → known_chip c ≡ true → (chip : ℕ) (has level : Bool) → named chip ≡ has → (leb scl 1 && leb sda 1) ≡ level → Line c chip
  unfolding line_refusal refusal_of board_of
  refusal_by c known chip true true f l = rw (own_flag chip b.bandai.devices.has_standard_eeprom b.bandai.devices.has_extra_eeprom, known, f, l) refl
  refusal_by c known chip true false f l = rw (own_flag chip b.bandai.devices.has_standard_eeprom b.bandai.devices.has_extra_eeprom, f, l) refl
  refusal_by c known chip false level f l = rw (own_flag chip b.bandai.devices.has_standard_eeprom b.bandai.devices.has_extra_eeprom, f) refl

  -- THE REFUSAL, of whatever number
  pub line_refused : (c : EepromC) → known_chip c ≡ true → (chip : ℕ) → Line c chip
  line_refused c known chip = refusal_by c known chip (named chip) (leb scl 1 && leb sda 1) refl refl

  -- THE STANDARD CHIP
  module _ (known : known_chip b.bandai.devices.standard_eeprom ≡ true) where
    abbrev standard : EepromC
    standard = b.bandai.devices.standard_eeprom

    abbrev Standard : Type 0
    Standard = (chip_after rule (chip_bytes standard) b.standard_rom (fitted 0) scl sda ≡ chip_bytes (chip_c (after 0).bandai.standard_eeprom)) × (rom_after_line (chip_bytes standard) b.standard_rom (fitted 0) scl sda ≡ (after 0).standard_rom)

    standard_by : (has level : Bool) → b.bandai.devices.has_standard_eeprom ≡ has → (leb scl 1 && leb sda 1) ≡ level → Standard
    unfolding chip_after rom_after_line line_refusal chip_at chip_bytes after_of refusal_of applied standard_write board_of
    standard_by true true f l = (rw (known, f, l) refl, rw (known, f, l) refl)
    standard_by true false f l = (rw (f, l, chip_in standard known) refl, rw (f, l) refl)
    standard_by false level f l = (rw (f, chip_in standard known) refl, rw f refl)

    pub standard_line : Standard
    standard_line = standard_by b.bandai.devices.has_standard_eeprom (leb scl 1 && leb sda 1) refl refl

  -- THE EXTRA CHIP
  module _ (known : known_chip b.bandai.devices.extra_eeprom ≡ true) where
    abbrev extra : EepromC
    extra = b.bandai.devices.extra_eeprom

    abbrev Extra : Type 0
    Extra = (chip_after rule (chip_bytes extra) b.extra_rom (fitted 1) scl sda ≡ chip_bytes (chip_c (after 1).bandai.extra_eeprom)) × (rom_after_line (chip_bytes extra) b.extra_rom (fitted 1) scl sda ≡ (after 1).extra_rom)

    extra_by : (has level : Bool) → b.bandai.devices.has_extra_eeprom ≡ has → (leb scl 1 && leb sda 1) ≡ level → Extra
    unfolding chip_after rom_after_line line_refusal chip_at chip_bytes after_of refusal_of applied extra_write board_of
    extra_by true true f l = (rw (known, f, l) refl, rw (known, f, l) refl)
    extra_by true false f l = (rw (f, l, chip_in extra known) refl, rw (f, l) refl)
    extra_by false level f l = (rw (f, chip_in extra known) refl, rw f refl)

    pub extra_line : Extra
    extra_line = extra_by b.bandai.devices.has_extra_eeprom (leb scl 1 && leb sda 1) refl refl
