-- Nothing is lost on the way: a board out and in is the board, its codes are all known, and known codes in and out are those codes, so that no
-- two boards, and no unknown code and a kind, are taken for each other. Assumes nothing.
use Rattle.std.specs.Prelude.{◌≡◌, refl, Bool, true, false, ◌||◌, ℕ, zero, suc, ◌≤◌, eqb}
use Rattle.std.proofs.Common.{sym, ap, arith, eqb-true, leb-true}
use Rattle.laws.specs.Choice.{pick}
use Rattle.laws.proofs.ChoiceLaws.{both_true}
use Rattle.eeprom.specs.declared.EepromModel.{EepromModel}
use Rattle.eeprom.specs.declared.EepromModel.TheVariants.{X24C01, X24C02}
use Rattle.eeprom.specs.declared.EepromMode.{EepromMode}
use Rattle.eeprom.specs.declared.EepromMode.TheVariants.{Idle, Addr, Read, Write, SendAck, WaitAck, ChipAddr}
use Rattle.eeprom.specs.declared.Eeprom.{Eeprom}
use Rattle.eeprom_codes.specs.Codes.{model_number, mode_number, model_of, mode_of}
use Rattle.bandai_fcg.specs.declared.board.Board.{Board}
use Rattle.board_codes.specs.declared.chip.EepromC.{EepromC}
use Rattle.board_codes.specs.declared.board.BoardC.{BoardC}
use Rattle.board_codes.specs.Codes.{known_model, known_mode, known_chip, known_board, chip_of, board_of, chip_c, board_c, devices_c, bandai_c}

pub model_back : (m : EepromModel) → model_of (model_number m) ≡ m
model_back X24C01 = refl
model_back X24C02 = refl

pub mode_back : (m : EepromMode) → mode_of (mode_number m) ≡ m
mode_back Idle = refl
mode_back Addr = refl
mode_back Read = refl
mode_back Write = refl
mode_back SendAck = refl
mode_back WaitAck = refl
mode_back ChipAddr = refl

pub model_known : (m : EepromModel) → known_model (model_number m) ≡ true
model_known X24C01 = refl
model_known X24C02 = refl

pub mode_known : (m : EepromMode) → known_mode (mode_number m) ≡ true
mode_known Idle = refl
mode_known Addr = refl
mode_known Read = refl
mode_known Write = refl
mode_known SendAck = refl
mode_known WaitAck = refl
mode_known ChipAddr = refl

pub chip_back : (s : Eeprom) → chip_of (chip_c s) ≡ s
unfolding chip_of chip_c
chip_back s = rw (model_back s.model, mode_back s.mode, mode_back s.next_mode) refl

pub chip_known : (s : Eeprom) → known_chip (chip_c s) ≡ true
unfolding known_chip chip_c
chip_known s = rw (model_known s.model, mode_known s.mode, mode_known s.next_mode) refl

-- A BOARD OUT AND IN is the board
pub board_back : (b : Board) → board_of (board_c b) ≡ b
unfolding board_of board_c bandai_c devices_c
board_back b = rw (chip_back b.bandai.standard_eeprom, chip_back b.bandai.extra_eeprom) refl

-- .. and its codes are all known
pub board_known : (b : Board) → known_board (board_c b) ≡ true
unfolding known_board board_c bandai_c devices_c
board_known b = rw (chip_known b.bandai.standard_eeprom, chip_known b.bandai.extra_eeprom) refl

-- KNOWN CODES IN AND OUT are those codes, so that no code is read as a kind that it is not
model_in : (n : ℕ) (one two : Bool) → eqb n 1 ≡ one → eqb n 2 ≡ two → (one || two) ≡ true → model_number (model_of n) ≡ n
model_in n one true e f k = rw f (sym (eqb-true n 2 f))
model_in n true false e f k = rw f (sym (eqb-true n 1 e))
model_in n false false e f k = absurd (omega (arith, ap (λ (t : Bool). pick {A = ℕ} t 1 0) k))

mode_in : (n : ℕ) → n ≤ 6 → mode_number (mode_of n) ≡ n
mode_in zero h = refl
mode_in (suc zero) h = refl
mode_in (suc (suc zero)) h = refl
mode_in (suc (suc (suc zero))) h = refl
mode_in (suc (suc (suc (suc zero)))) h = refl
mode_in (suc (suc (suc (suc (suc zero))))) h = refl
mode_in (suc (suc (suc (suc (suc (suc zero)))))) h = refl
mode_in (suc (suc (suc (suc (suc (suc (suc n))))))) h = absurd (omega arith)

pub chip_in : (c : EepromC) → known_chip c ≡ true → chip_c (chip_of c) ≡ c
unfolding chip_of chip_c known_chip
chip_in c k =
    let p = both_true _ (known_mode c.next_mode) k in
    let q = both_true _ (known_mode c.mode) p.0 in
    rw (model_in c.model (eqb c.model 1) (eqb c.model 2) refl refl q.0, mode_in c.mode (leb-true c.mode 6 q.1), mode_in c.next_mode (leb-true c.next_mode 6 p.1)) refl

pub board_in_lem : (b : BoardC) → known_board b ≡ true → board_c (board_of b) ≡ b
unfolding board_of board_c bandai_c devices_c known_board
board_in_lem b k =
    let p = both_true _ (known_chip b.bandai.devices.extra_eeprom) k in
    rw (chip_in b.bandai.devices.standard_eeprom p.0, chip_in b.bandai.devices.extra_eeprom p.1) refl
