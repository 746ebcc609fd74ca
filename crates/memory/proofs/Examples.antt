-- Worked examples of the definitions, computed.
-- Assumes nothing.
use Rattle.std.specs.Prelude.{◌≡◌, refl, List, [], ◌∷◌, true, false, ℕ, ◌≤◌, ◌<◌}
use Rattle.std.proofs.Common.{arith}
use Rattle.image_layout.specs.declared.Sizes.{Sizes}
use Rattle.image_layout.specs.Layout.{round_up, chr_ram_size, ciram_size, layout_of}
use Rattle.image_page.specs.Page.{page_of}
use Rattle.memory.specs.declared.Window.{Window}
use Rattle.memory.specs.Memory.{at_least_one, window_of, entry_of, nametable_bank, nametable_of}

-- a cartridge with so much PRG ROM, CHR ROM, CHR RAM, PRG RAM and CIRAM
abbrev cart : ℕ → ℕ → ℕ → ℕ → ℕ → Sizes
cart prg chr ram work ciram = record { prg_rom = prg; chr_rom = chr; chr_ram = ram; prg_ram = work; battery_ext = 0; ciram = ciram; ex_ram = 0 }

-- entry i of a 16 KiB window on a bank of PRG ROM
abbrev prg : ℕ → ℕ → ℕ → ℕ
prg size bank i = entry_of (window_of (layout_of (cart size 0 0 0 0)).prg_rom false 16384 bank) i

-- 40,960 bytes have two banks, so bank 15 is bank 1
pub last_bank_lem : prg 40960 15 0 ∷ prg 40960 15 15 ∷ [] ≡ 17408 ∷ 32768 ∷ []
unfolding layout_of round_up chr_ram_size ciram_size window_of at_least_one entry_of page_of
last_bank_lem = refl

-- 5,000 bytes are five pages, which the window repeats
pub five_pages : prg 5000 3 0 ∷ prg 5000 3 1 ∷ prg 5000 3 4 ∷ prg 5000 3 5 ∷ prg 5000 3 15 ∷ [] ≡ 1024 ∷ 2048 ∷ 5120 ∷ 1024 ∷ 1024 ∷ []
unfolding layout_of round_up chr_ram_size ciram_size window_of at_least_one entry_of page_of
five_pages = refl

-- 24,576 bytes have one whole bank: every bank is bank 0
pub one_bank : prg 24576 0 0 ∷ prg 24576 1 0 ∷ prg 24576 15 15 ∷ [] ≡ 1024 ∷ 1024 ∷ 16384 ∷ []
unfolding layout_of round_up chr_ram_size ciram_size window_of at_least_one entry_of page_of
one_bank = refl

-- an empty region: entry 0, without the writable bit
pub empty : entry_of (window_of (layout_of (cart 16384 8192 0 0 0)).prg_ram true 8192 0) 3 ≡ 0
unfolding layout_of round_up chr_ram_size ciram_size window_of at_least_one entry_of page_of
empty = refl

-- CHR RAM only where there is no CHR ROM, and the RAM is writable
abbrev chr : ℕ → ℕ → ℕ
chr rom ram = entry_of (window_of (layout_of (cart 0 rom ram 0 0)).chr (layout_of (cart 0 rom ram 0 0)).chr_writable 1024 1) 0

pub chosen : chr 4096 4096 ∷ chr 0 4096 ∷ chr 0 0 ∷ [] ≡ 2048 ∷ 0x80000800 ∷ 0 ∷ []
unfolding layout_of round_up chr_ram_size ciram_size window_of at_least_one entry_of page_of
chosen = refl

-- the nametables of CIRAM at 1,024: none given (2,048), 3,072 and 4,096 bytes
abbrev tables : ℕ → ℕ → List ℕ
tables size m = table 0 ∷ table 1 ∷ table 2 ∷ table 3 ∷ table 6 ∷ []
  where
    table : ℕ → ℕ
    table i = nametable_of (layout_of (cart 0 0 0 0 size)).ciram m i

pub vertical : tables 0 0 ≡ 0x80000400 ∷ 0x80000800 ∷ 0x80000400 ∷ 0x80000800 ∷ 0x80000400 ∷ []
unfolding layout_of round_up chr_ram_size ciram_size window_of at_least_one entry_of page_of nametable_of nametable_bank
vertical = refl

pub horizontal : tables 0 1 ≡ 0x80000400 ∷ 0x80000400 ∷ 0x80000800 ∷ 0x80000800 ∷ 0x80000800 ∷ []
unfolding layout_of round_up chr_ram_size ciram_size window_of at_least_one entry_of page_of nametable_of nametable_bank
horizontal = refl

-- four screens on three pages: 0, 1, 2, 0
pub four_screens_lem : tables 3072 4 ≡ 0x80000400 ∷ 0x80000800 ∷ 0x80000c00 ∷ 0x80000400 ∷ 0x80000c00 ∷ []
unfolding layout_of round_up chr_ram_size ciram_size window_of at_least_one entry_of page_of nametable_of nametable_bank
four_screens_lem = refl

-- what `walked` asks of a window can be met, where the region is smaller than the window and where it is not; each page is as it says
abbrev prg_window : ℕ → Window
prg_window size = window_of (layout_of (cart size 0 0 0 0)).prg_rom false 16384 15

abbrev meets : Window → Type 0
meets w = (1024 ≤ w.len) × (w.base < w.len)

pub walked_met : meets (prg_window 5000) × meets (prg_window 40960)
unfolding layout_of round_up window_of at_least_one
walked_met = ((omega arith, omega arith), (omega arith, omega arith))
