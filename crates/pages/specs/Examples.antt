-- Worked examples of page tables, computed through the public call: `page_tables` of a board that `load` fits.
-- Assumes nothing.
use Rattle.std.specs.Prelude.{◌≡◌, refl, List, [], ◌∷◌, ◌++◌, Bool, true, false, ℕ, get_or, take, drop}
use Rattle.laws.specs.Lists.{blank, every}
use Rattle.laws.specs.Table.{filled}
use Rattle.image_layout.specs.Layout.{round_up, chr_ram_size, ciram_size, layout_of}
use Rattle.image_page.specs.Page.{page_of}
use Rattle.memory.specs.Memory.{at_least_one, window_of, entry_of, nametable_bank, nametable_of}
use Rattle.eeprom.specs.Eeprom.{new_eeprom}
use Rattle.eeprom_valid.specs.Valid.{valid_eeprom}
use Rattle.cart.specs.declared.Cart.{Cart}
use Rattle.regs.specs.declared.Regs.{Regs}
use Rattle.bandai_fcg.specs.declared.board.Board.{Board}
use Rattle.cart.specs.CartWords.{cart_from}
use Rattle.cart.specs.Cart.{cart_refusal}
use Rattle.regs.specs.RegsSet.{with_banks}
use Rattle.regs.specs.Regs.{new_regs}
use Rattle.bandai_fcg.specs.BoardSet.{with_regs, with_bandai}
use Rattle.bandai_fcg.specs.Board.{fitted_state, fitted, load_of}
use Rattle.validity.specs.Valid.{reader_fits, standard_fits, extra_fits, valid_board}
use Rattle.entries.specs.Entries.{with_high, prg_entry, bank_entry, chr_page, chr_entry}
use Rattle.pages.specs.Pages.{tables_of, page_tables}

-- a cart of a mapper, with so much PRG ROM, CHR ROM, CHR RAM, PRG RAM and CIRAM, and a mirroring
abbrev pub cart : ℕ → ℕ → ℕ → ℕ → ℕ → ℕ → ℕ → Cart
cart mapper prg chr ram work ciram mirroring = cart_from (mapper ∷ 0 ∷ 0 ∷ mirroring ∷ 4 ∷ prg ∷ chr ∷ ram ∷ work ∷ 0 ∷ ciram ∷ [])

-- registers with a PRG page, a high bank, RAM enabled or not, a mirroring, and CHR banks 7 down to 0
abbrev pub regs : ℕ → ℕ → Bool → ℕ → Regs
regs page high enabled mirroring = with_banks page high mirroring enabled (blank 8) (7 ∷ 6 ∷ 5 ∷ 4 ∷ 3 ∷ 2 ∷ 1 ∷ 0 ∷ []) (new_regs 0)

-- a fresh board, and one with such registers
abbrev pub fresh : Cart → Board
fresh c = (load_of c).board

abbrev pub with : Cart → Regs → Board
with c r = with_bandai (with_regs r (fresh c).bandai) (fresh c)

-- entries of the two tables
abbrev prg : Board → ℕ → ℕ
prg b k = get_or (page_tables b).prg k 0

abbrev chr : Board → ℕ → ℕ
chr b k = get_or (page_tables b).chr k 0

-- PRG ROM 40,960: PRG entry 48 is 17,408. Nothing below 0x8000
pub last_bank_lem : prg (fresh (cart 16 40960 0 0 0 0 0)) 48 ∷ take 32 (page_tables (fresh (cart 16 40960 0 0 0 0 0))).prg ≡ 17408 ∷ blank 32
unfolding load_of fitted_state fitted new_eeprom cart_refusal valid_board reader_fits standard_fits extra_fits valid_eeprom every blank filled layout_of round_up chr_ram_size ciram_size window_of at_least_one entry_of page_of nametable_of nametable_bank with_high prg_entry bank_entry chr_page chr_entry tables_of page_tables
last_bank_lem = refl

-- no CHR: CHR entries 0 to 7 are 0; then the two pages of CIRAM, vertical
pub no_chr_lem : (page_tables (fresh (cart 159 16384 0 0 0 0 0))).chr ≡
    0 ∷ 0 ∷ 0 ∷ 0 ∷ 0 ∷ 0 ∷ 0 ∷ 0 ∷ 0x80004400 ∷ 0x80004800 ∷ 0x80004400 ∷ 0x80004800 ∷ 0x80004400 ∷ 0x80004800 ∷ 0x80004400 ∷ 0x80004800 ∷ []
unfolding load_of fitted_state fitted new_eeprom cart_refusal valid_board reader_fits standard_fits extra_fits valid_eeprom every blank filled layout_of round_up chr_ram_size ciram_size window_of at_least_one entry_of page_of nametable_of nametable_bank with_high prg_entry bank_entry chr_page chr_entry tables_of page_tables
no_chr_lem = refl

-- 32 PRG banks: bank 3 and bank 15, without the high bank and with it
abbrev large : ℕ → Board
large high = with (cart 16 524288 0 0 0 0 0) (regs 3 high false 0)

pub high_bank : prg (large 0) 32 ∷ prg (large 0) 48 ∷ prg (large 16) 32 ∷ prg (large 16) 48 ∷ prg (large 16) 63 ∷ [] ≡ 50176 ∷ 246784 ∷ 312320 ∷ 508928 ∷ 524288 ∷ []
unfolding load_of fitted_state fitted new_eeprom cart_refusal valid_board reader_fits standard_fits extra_fits valid_eeprom every blank filled layout_of round_up chr_ram_size ciram_size window_of at_least_one entry_of page_of nametable_of nametable_bank with_high prg_entry bank_entry chr_page chr_entry tables_of page_tables
high_bank = refl

-- PRG RAM: on 153 enabled; empty, disabled, and enabled on 16
abbrev ram : ℕ → ℕ → Bool → List ℕ
ram mapper size enabled = prg b 23 ∷ prg b 24 ∷ prg b 31 ∷ prg b 32 ∷ []
  where
    b : Board
    b = with (cart mapper 16384 0 0 size 0 0) (regs 0 0 enabled 0)

pub prg_ram_lem : ram 153 8192 true ∷ ram 153 0 true ∷ ram 153 8192 false ∷ ram 16 8192 true ∷ [] ≡
    (0 ∷ 0x80004400 ∷ 0x80006000 ∷ 1024 ∷ []) ∷ (0 ∷ 0 ∷ 0 ∷ 1024 ∷ []) ∷ (0 ∷ 0 ∷ 0 ∷ 1024 ∷ []) ∷ (0 ∷ 0 ∷ 0 ∷ 1024 ∷ []) ∷ []
unfolding load_of fitted_state fitted new_eeprom cart_refusal valid_board reader_fits standard_fits extra_fits valid_eeprom every blank filled layout_of round_up chr_ram_size ciram_size window_of at_least_one entry_of page_of nametable_of nametable_bank with_high prg_entry bank_entry chr_page chr_entry tables_of page_tables
prg_ram_lem = refl

-- CHR ROM by the banks, read-only; on 157 fixed; CHR RAM fixed, writable
abbrev eight : ℕ → ℕ → ℕ → List ℕ
eight mapper rom size = take 8 (page_tables (with (cart mapper 16384 rom size 0 0 0) (regs 0 0 false 0))).chr

pub chr_pages : eight 16 8192 0 ∷ eight 157 8192 0 ∷ eight 16 0 8192 ∷ [] ≡
    (24576 ∷ 23552 ∷ 22528 ∷ 21504 ∷ 20480 ∷ 19456 ∷ 18432 ∷ 17408 ∷ []) ∷
    (17408 ∷ 18432 ∷ 19456 ∷ 20480 ∷ 21504 ∷ 22528 ∷ 23552 ∷ 24576 ∷ []) ∷
    (0x80004400 ∷ 0x80004800 ∷ 0x80004c00 ∷ 0x80005000 ∷ 0x80005400 ∷ 0x80005800 ∷ 0x80005c00 ∷ 0x80006000 ∷ []) ∷ []
unfolding load_of fitted_state fitted new_eeprom cart_refusal valid_board reader_fits standard_fits extra_fits valid_eeprom every blank filled layout_of round_up chr_ram_size ciram_size window_of at_least_one entry_of page_of nametable_of nametable_bank with_high prg_entry bank_entry chr_page chr_entry tables_of page_tables
chr_pages = refl

-- the nametables of a cart's mirroring and of the board's: four screens on three pages of CIRAM give 0, 1, 2, 0
pub mirrorings : drop 8 (page_tables (fresh (cart 16 0 0 0 0 3072 4))).chr ∷ drop 8 (page_tables (with (cart 16 0 0 0 0 3072 4) (regs 0 0 false 1))).chr ∷ [] ≡
    (0x80000400 ∷ 0x80000800 ∷ 0x80000c00 ∷ 0x80000400 ∷ 0x80000400 ∷ 0x80000800 ∷ 0x80000c00 ∷ 0x80000400 ∷ []) ∷
    (0x80000400 ∷ 0x80000400 ∷ 0x80000800 ∷ 0x80000800 ∷ 0x80000400 ∷ 0x80000400 ∷ 0x80000800 ∷ 0x80000800 ∷ []) ∷ []
unfolding load_of fitted_state fitted new_eeprom cart_refusal valid_board reader_fits standard_fits extra_fits valid_eeprom every blank filled layout_of round_up chr_ram_size ciram_size window_of at_least_one entry_of page_of nametable_of nametable_bank with_high prg_entry bank_entry chr_page chr_entry tables_of page_tables
mirrorings = refl

-- REGIONS SMALLER THAN THEIR WINDOWS repeat in them: five pages of PRG ROM, three of CHR RAM, two of PRG RAM

abbrev five : List ℕ
five = 1024 ∷ 2048 ∷ 3072 ∷ 4096 ∷ 5120 ∷ []

pub five_pages : drop 32 (page_tables (fresh (cart 16 5000 0 0 0 0 0))).prg ≡ (five ++ (five ++ (five ++ (1024 ∷ [])))) ++ (five ++ (five ++ (five ++ (1024 ∷ []))))
unfolding load_of fitted_state fitted new_eeprom cart_refusal valid_board reader_fits standard_fits extra_fits valid_eeprom every blank filled layout_of round_up chr_ram_size ciram_size window_of at_least_one entry_of page_of nametable_of nametable_bank with_high prg_entry bank_entry chr_page chr_entry tables_of page_tables
five_pages = refl

pub three_pages : (page_tables (fresh (cart 16 0 0 3000 0 3072 4))).chr ≡
    0x80000400 ∷ 0x80000800 ∷ 0x80000c00 ∷ 0x80000400 ∷ 0x80000800 ∷ 0x80000c00 ∷ 0x80000400 ∷ 0x80000800 ∷
    0x80001000 ∷ 0x80001400 ∷ 0x80001800 ∷ 0x80001000 ∷ 0x80001000 ∷ 0x80001400 ∷ 0x80001800 ∷ 0x80001000 ∷ []
unfolding load_of fitted_state fitted new_eeprom cart_refusal valid_board reader_fits standard_fits extra_fits valid_eeprom every blank filled layout_of round_up chr_ram_size ciram_size window_of at_least_one entry_of page_of nametable_of nametable_bank with_high prg_entry bank_entry chr_page chr_entry tables_of page_tables
three_pages = refl

pub two_pages : take 8 (drop 24 (page_tables (with (cart 153 32768 0 8192 1500 0 0) (regs 0 0 true 0))).prg) ≡
    0x80008400 ∷ 0x80008800 ∷ 0x80008400 ∷ 0x80008800 ∷ 0x80008400 ∷ 0x80008800 ∷ 0x80008400 ∷ 0x80008800 ∷ []
unfolding load_of fitted_state fitted new_eeprom cart_refusal valid_board reader_fits standard_fits extra_fits valid_eeprom every blank filled layout_of round_up chr_ram_size ciram_size window_of at_least_one entry_of page_of nametable_of nametable_bank with_high prg_entry bank_entry chr_page chr_entry tables_of page_tables
two_pages = refl

-- a board that is not valid: 12, and zeros
pub not_valid : page_tables (with (cart 16 16384 0 0 0 0 0) (regs 16 0 false 0)) ≡ record { prg = blank 64; chr = blank 16; refusal = 12 }
unfolding load_of fitted_state fitted new_eeprom cart_refusal valid_board reader_fits standard_fits extra_fits valid_eeprom every blank filled layout_of round_up chr_ram_size ciram_size window_of at_least_one entry_of page_of nametable_of nametable_bank with_high prg_entry bank_entry chr_page chr_entry tables_of page_tables
not_valid = refl
