-- THE FIELDS OF THE REGISTERS, listed once: as words with widths in bytes, in the order in which document 01's state file has them.
-- The state file, the printed state and the layout probe go by this list. Assumes nothing.
use Rattle.std.specs.Prelude.{ℕ, ◌+◌, ◌%◌, ◌^◌, ◌<◌, List, [], ◌∷◌, ◌++◌, slice_index}
use Rattle.laws.specs.Lists.{Bytes}
use Rattle.laws.specs.Words.{cut, flag, is_flag}
use Rattle.regs.specs.declared.Regs.{Regs}

-- PRG page, high bank, RAM enabled, eight CHR registers, counter (u16), counting, pending, reload (u16), mirroring, eight CHR banks
abbrev pub eight_bytes : List ℕ
eight_bytes = 1 ∷ 1 ∷ 1 ∷ 1 ∷ 1 ∷ 1 ∷ 1 ∷ 1 ∷ []

abbrev pub regs_widths : List ℕ
regs_widths = 1 ∷ 1 ∷ 1 ∷ (eight_bytes ++ (2 ∷ 1 ∷ 1 ∷ 2 ∷ 1 ∷ eight_bytes))

-- eight words from a place on
abbrev pub eight_at : List ℕ → ℕ → List ℕ
eight_at l at =
    slice_index l at ∷ slice_index l (at + 1) ∷ slice_index l (at + 2) ∷ slice_index l (at + 3) ∷ slice_index l (at + 4) ∷ slice_index l (at + 5) ∷ slice_index l (at + 6) ∷ slice_index l (at + 7) ∷ []

abbrev pub regs_words : Regs → List ℕ
regs_words r =
    r.prg_page ∷ r.prg_bank_select ∷ flag r.prg_ram_enabled
    ∷ (eight_at r.chr_regs 0
    ++ (r.irq_counter ∷ flag r.irq_enabled ∷ flag r.irq_pending ∷ r.irq_reload ∷ r.mirroring
    ∷ eight_at r.chr_banks 0))

-- the registers with these words, 0 past the end of the list; a flag is set where its word is 1
abbrev pub regs_from : List ℕ → Regs
regs_from xs =
    record {
      prg_page = slice_index xs 0;
      prg_bank_select = slice_index xs 1;
      prg_ram_enabled = is_flag (slice_index xs 2);
      chr_regs = eight_at xs 3;
      irq_counter = slice_index xs 11;
      irq_enabled = is_flag (slice_index xs 12);
      irq_pending = is_flag (slice_index xs 13);
      irq_reload = slice_index xs 14;
      mirroring = slice_index xs 15;
      chr_banks = eight_at xs 16;
    }

-- the bytes of eight words from a place on
abbrev pub eight_cut : List ℕ → ℕ → List ℕ
eight_cut l at =
    slice_index l at % 256 ∷ slice_index l (at + 1) % 256 ∷ slice_index l (at + 2) % 256 ∷ slice_index l (at + 3) % 256 ∷ slice_index l (at + 4) % 256 ∷ slice_index l (at + 5) % 256 ∷ slice_index l (at + 6) % 256 ∷ slice_index l (at + 7) % 256 ∷ []

-- .. each cut to its width
unfoldable pub regs_of : List ℕ → Regs
regs_of xs = regs_from (cut regs_widths xs)

-- what the machine's types hold of the registers: each number fits its width, each array has eight bytes
pub record TypedRegs (r : Regs) : Type 0 where
  pub irq_counter : r.irq_counter < 2 ^ 16
  pub irq_reload : r.irq_reload < 2 ^ 16
  pub prg_page : r.prg_page < 256
  pub prg_bank_select : r.prg_bank_select < 256
  pub mirroring : r.mirroring < 256
  pub chr_regs : Bytes 8 r.chr_regs
  pub chr_banks : Bytes 8 r.chr_banks
