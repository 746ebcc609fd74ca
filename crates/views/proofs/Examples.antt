-- Worked examples of refusals and of addresses, computed on a board that `load` fits.
-- Assumes nothing.
use Rattle.std.specs.Prelude.{◌≡◌, refl, List, [], ◌∷◌, false, ℕ}
use Rattle.laws.specs.Lists.{blank, every}
use Rattle.laws.specs.Table.{filled}
use Rattle.image_layout.specs.Layout.{round_up, chr_ram_size, ciram_size, layout_of}
use Rattle.image_page.specs.Page.{page_of}
use Rattle.memory.specs.Memory.{at_least_one, window_of, entry_of, nametable_bank, nametable_of}
use Rattle.eeprom.specs.Eeprom.{new_eeprom}
use Rattle.eeprom_valid.specs.Valid.{valid_eeprom}
use Rattle.bandai_fcg.specs.declared.board.Board.{Board}
use Rattle.cart.specs.Cart.{cart_refusal}
use Rattle.bandai_fcg.specs.Board.{fitted_state, fitted, load_of}
use Rattle.validity.specs.Valid.{reader_fits, standard_fits, extra_fits, valid_board}
use Rattle.entries.specs.Entries.{with_high, prg_entry, bank_entry, chr_page, chr_entry}
use Rattle.pages.specs.Pages.{tables_of, page_tables}
use Rattle.pages.specs.Examples.{cart, regs, fresh, with}
use Rattle.views.specs.Views.{view_refusal, prg_at, chr_at}

-- an image of 19,456 bytes is the layout's; 12 before 9
abbrev lengths : ℕ → List ℕ
lengths page = view_refusal b 19456 ∷ view_refusal b 19455 ∷ view_refusal b 0 ∷ []
  where
    b : Board
    b = with (cart 16 16384 0 0 0 0 0) (regs page 0 false 0)

pub refusals : lengths 0 ∷ lengths 16 ∷ [] ≡ (0 ∷ 9 ∷ 9 ∷ []) ∷ (12 ∷ 12 ∷ 12 ∷ []) ∷ []
unfolding load_of fitted_state fitted new_eeprom cart_refusal valid_board reader_fits standard_fits extra_fits valid_eeprom every blank filled layout_of round_up chr_ram_size ciram_size window_of at_least_one entry_of page_of nametable_of nametable_bank with_high prg_entry bank_entry chr_page chr_entry tables_of page_tables view_refusal
refusals = refl

-- CHR addresses count modulo 16,384; each of a page has its entry
pub addresses : chr_at (fresh (cart 16 0 0 0 0 0 0)) 0x2400 ∷ chr_at (fresh (cart 16 0 0 0 0 0 0)) 0xe7ff ∷ prg_at (fresh (cart 16 16384 0 0 0 0 0)) 0x83ff ∷ prg_at (fresh (cart 16 16384 0 0 0 0 0)) 0x8400 ∷ [] ≡ 0x80000800 ∷ 0x80000800 ∷ 1024 ∷ 2048 ∷ []
unfolding load_of fitted_state fitted new_eeprom cart_refusal valid_board reader_fits standard_fits extra_fits valid_eeprom every blank filled layout_of round_up chr_ram_size ciram_size window_of at_least_one entry_of page_of nametable_of nametable_bank with_high prg_entry bank_entry chr_page chr_entry tables_of page_tables
addresses = refl
