-- Worked examples of the two lengths and of their refusals, computed on boards that `load` fits.
-- Assumes nothing.
use Rattle.std.specs.Prelude.{◌≡◌, refl, List, [], ◌∷◌, false, ℕ, length}
use Rattle.laws.specs.Lists.{blank, every}
use Rattle.laws.proofs.ListsLaws.{length_blank}
use Rattle.laws.specs.Table.{filled}
use Rattle.image_layout.specs.Layout.{round_up, chr_ram_size, ciram_size, layout_of}
use Rattle.eeprom.specs.Eeprom.{new_eeprom}
use Rattle.eeprom_valid.specs.Valid.{valid_eeprom}
use Rattle.cart.specs.declared.Cart.{Cart}
use Rattle.bandai_fcg.specs.declared.board.Board.{Board}
use Rattle.cart.specs.Cart.{cart_refusal}
use Rattle.bandai_fcg.specs.Board.{fitted_state, fitted, load_of}
use Rattle.validity.specs.Valid.{reader_fits, standard_fits, extra_fits, valid_board}
use Rattle.pages.specs.Examples.{cart, regs, fresh, with}
use Rattle.split_views.specs.SplitViews.{rom_len, ram_len, split_refusal}

-- 153 with RAM of both kinds; 159 with CHR ROM, which lies before the cut; no memory but page 0 and CIRAM
abbrev pub lengths_of : Cart → List ℕ
lengths_of c = rom_len (fresh c) ∷ ram_len (fresh c) ∷ []

pub two_lengths : lengths_of (cart 153 32768 0 8192 8192 0 0) ∷ lengths_of (cart 159 262144 131072 0 0 0 0) ∷ lengths_of (cart 16 0 0 0 0 0 0) ∷ [] ≡
    (33792 ∷ 18432 ∷ []) ∷ (394240 ∷ 2048 ∷ []) ∷ (1024 ∷ 2048 ∷ []) ∷ []
unfolding load_of fitted_state fitted new_eeprom cart_refusal layout_of round_up chr_ram_size ciram_size blank filled
two_lengths = refl

-- the first of them, with a PRG page
abbrev pub wide : ℕ → Board
wide page = with (cart 153 32768 0 8192 8192 0 0) (regs page 0 false 0)

-- each length is tested, not their sum; 12 before 9
abbrev pub refused_of : Board → List ℕ
refused_of b = split_refusal b 33792 18432 ∷ split_refusal b 33791 18433 ∷ split_refusal b 33793 18431 ∷ split_refusal b 33792 18431 ∷ split_refusal b 52224 0 ∷ []

pub refusals : refused_of (wide 0) ∷ refused_of (wide 16) ∷ [] ≡ (0 ∷ 9 ∷ 9 ∷ 9 ∷ 9 ∷ []) ∷ (12 ∷ 12 ∷ 12 ∷ 12 ∷ 12 ∷ []) ∷ []
unfolding load_of fitted_state fitted new_eeprom cart_refusal valid_board reader_fits standard_fits extra_fits valid_eeprom every blank filled layout_of round_up chr_ram_size ciram_size split_refusal
refusals = refl

-- two buffers that are accepted, as the laws ask for
accepted : split_refusal (wide 0) 33792 18432 ≡ 0
unfolding load_of fitted_state fitted new_eeprom cart_refusal valid_board reader_fits standard_fits extra_fits valid_eeprom every blank filled layout_of round_up chr_ram_size ciram_size split_refusal
accepted = refl

pub buffers_met : split_refusal (wide 0) (length (blank 33792)) (length (blank 18432)) ≡ 0
buffers_met = rw (length_blank 33792, length_blank 18432) accepted
