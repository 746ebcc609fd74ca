-- THE WORKED EXAMPLES of document 01 that are marked P, in its order: one list of tests, computed, each below the sentence that it is of.
-- The tests of cards are defined in barcode/specs/Examples.antt, those of counting and device reads in event/specs/Examples.antt, those of chips
-- in eeprom_codes/specs/Examples.antt; those of pages are here.
-- Assumes nothing.
use Rattle.std.specs.Prelude.{◌≡◌, refl, Bool, true, List, [], ◌∷◌, ◌++◌, ℕ, eqb}
use Rattle.laws.specs.Choice.{all_true, below}
use Rattle.laws.proofs.ChoiceLaws.{all_append}
use Rattle.barcode.proofs.Examples.{thirteen_digits, seven_digits, no_digits, twelve_digits, fourteen_digits, card_lines, card_lines_lem}
use Rattle.eeprom_codes.specs.Examples.{slave_byte, stored, cell_kept, chip_lines}
use Rattle.eeprom_codes.specs.ExamplesLaws.{chip_lines_lem}
use Rattle.image_layout.specs.Layout.{layout_of, round_up, chr_ram_size, ciram_size}
use Rattle.image_page.specs.Page.{page_of}
use Rattle.memory.specs.Memory.{window_of, at_least_one, entry_of}
use Rattle.cart.specs.declared.Cart.{Cart}
use Rattle.cart.specs.CartWords.{cart_from}
use Rattle.regs.specs.Regs.{new_regs}
use Rattle.event.proofs.Examples.{four_clocks, latched, direct, no_device, reader_answers, count_lines, count_lines_lem, read_lines, read_lines_lem}
use Rattle.entries.specs.Entries.{with_high, prg_entry, chr_page, chr_entry}

-- a cart of so much PRG ROM and no CHR
rom_cart : ℕ → Cart
rom_cart prg = cart_from (16 ∷ 0 ∷ 0 ∷ 0 ∷ 4 ∷ prg ∷ [])

last_bank : Bool
last_bank = eqb (prg_entry (rom_cart 40960) (new_regs 0) 48) 17408

no_chr : Bool
no_chr = below (λ k. eqb (chr_entry (rom_cart 40960) (new_regs 0) k) 0) 8

pub lines : List Bool
lines =
    -- "4901234567894, 13 digits: 160 stripes, check 4; last digit 0 gives the same stripes."
    thirteen_digits ∷
    -- "4901234, 7 digits: 132, check 7."
    seven_digits ∷
    -- "0, count 0: 90, check 0."
    no_digits ∷
    -- "12 or 14 digits: 132.": 12 digits
    twelve_digits ∷
    -- the same: 14 digits
    fourteen_digits ∷
    -- "counting, not pending, counter 3: three clocks give 0, not pending; the fourth 65,535, pending."
    four_clocks ∷
    -- "on 159, 11 gets 0x34, 12 gets 0x12, 10 gets 1: counter 0x1234."
    latched ∷
    -- "on 16 submapper 4 it is so before 10."
    direct ∷
    -- "X24C02, slave bits 1,0,1,0,0,0,0,0: 0x05, Idle."
    slave_byte ∷
    -- "X24C01, eighth data bit then SCL falls: stored."
    stored ∷
    -- "START before that fall: cell kept."
    cell_kept ∷
    -- "PRG ROM 40,960: PRG entry 48 is 17,408."
    last_bank ∷
    -- "no CHR: CHR entries 0 to 7 are 0."
    no_chr ∷
    -- "fresh 153, access 4, read at 0x6000: no device."
    no_device ∷
    -- "the same on 157: 0."
    reader_answers ∷
    []

page_lines : List Bool
page_lines = last_bank ∷ no_chr ∷ []

page_lines_lem : all_true page_lines ≡ true
unfolding page_lines last_bank no_chr rom_cart layout_of round_up chr_ram_size ciram_size window_of at_least_one entry_of page_of with_high prg_entry chr_page chr_entry
page_lines_lem = refl

joined : all_true (card_lines ++ (count_lines ++ (chip_lines ++ (page_lines ++ read_lines)))) ≡ true
joined =
    all_append card_lines _ card_lines_lem (all_append count_lines _ count_lines_lem (all_append chip_lines _ chip_lines_lem (all_append page_lines read_lines page_lines_lem read_lines_lem)))

pub worked_examples : all_true lines ≡ true
unfolding lines card_lines count_lines chip_lines page_lines read_lines
worked_examples = joined
