-- The registers are read back from their words; any words give registers that fit the machine's types.
-- Assumes nothing.
use Rattle.std.specs.Prelude.{◌≡◌, ℕ, List, [], ◌∷◌, length, refl}
use Rattle.std.proofs.Common.{ap, ◌∙◌, arith}
use Rattle.laws.specs.Lists.{Each, Bytes}
use Rattle.laws.proofs.ListsLaws.{byte_at}
use Rattle.laws.specs.Words.{Fit, flag}
use Rattle.laws.proofs.WordsLaws.{fit_append, cut_same, flag_back, flag_fits}
use Rattle.regs.specs.declared.Regs.{Regs}
use Rattle.regs.specs.RegsWords.{eight_bytes, eight_at, regs_widths, regs_words, regs_from, regs_of, TypedRegs}

-- a list of eight is its eight words
eight_same : (l : List ℕ) → length l ≡ 8 → eight_at l 0 ≡ l
eight_same [] h = absurd (omega arith)
eight_same (a ∷ []) h = absurd (omega arith)
eight_same (a ∷ b ∷ []) h = absurd (omega arith)
eight_same (a ∷ b ∷ c ∷ []) h = absurd (omega arith)
eight_same (a ∷ b ∷ c ∷ d ∷ []) h = absurd (omega arith)
eight_same (a ∷ b ∷ c ∷ d ∷ e ∷ []) h = absurd (omega arith)
eight_same (a ∷ b ∷ c ∷ d ∷ e ∷ f ∷ []) h = absurd (omega arith)
eight_same (a ∷ b ∷ c ∷ d ∷ e ∷ f ∷ g ∷ []) h = absurd (omega arith)
eight_same (a ∷ b ∷ c ∷ d ∷ e ∷ f ∷ g ∷ i ∷ []) h = refl
eight_same (a ∷ b ∷ c ∷ d ∷ e ∷ f ∷ g ∷ i ∷ j ∷ l) h = absurd (omega arith)

eight_fit : (l : List ℕ) → Bytes 8 l → Fit eight_bytes (eight_at l 0)
eight_fit l t = (byte_at 8 l 0 t, (byte_at 8 l 1 t, (byte_at 8 l 2 t, (byte_at 8 l 3 t, (byte_at 8 l 4 t, (byte_at 8 l 5 t, (byte_at 8 l 6 t, (byte_at 8 l 7 t, tt))))))))

-- the words from the counter on
abbrev last_widths : List ℕ
last_widths = 2 ∷ 1 ∷ 1 ∷ 2 ∷ 1 ∷ eight_bytes

abbrev last_words : Regs → List ℕ
last_words r = r.irq_counter ∷ flag r.irq_enabled ∷ flag r.irq_pending ∷ r.irq_reload ∷ r.mirroring ∷ eight_at r.chr_banks 0

last_fit : (r : Regs) → TypedRegs r → Fit last_widths (last_words r)
last_fit r t =
    (t.irq_counter, (flag_fits r.irq_enabled, (flag_fits r.irq_pending, (t.irq_reload, (t.mirroring, eight_fit r.chr_banks t.chr_banks)))))

-- the words of registers that fit the machine's types fit their widths
pub regs_fit : (r : Regs) → TypedRegs r → Fit regs_widths (regs_words r)
regs_fit r t =
    let rest = fit_append eight_bytes (eight_at r.chr_regs 0) last_widths (last_words r) (eight_fit r.chr_regs t.chr_regs) (last_fit r t) in
    (t.prg_page, (t.prg_bank_select, (flag_fits r.prg_ram_enabled, rest)))

pub regs_back : (r : Regs) → TypedRegs r → regs_of (regs_words r) ≡ r
unfolding regs_of
regs_back r t =
    ap regs_from (cut_same regs_widths (regs_words r) (regs_fit r t))
    ∙ rw (flag_back r.prg_ram_enabled, flag_back r.irq_enabled, flag_back r.irq_pending, eight_same r.chr_regs t.chr_regs.long, eight_same r.chr_banks t.chr_banks.long) refl

pub regs_typed : (xs : List ℕ) → TypedRegs (regs_of xs)
unfolding regs_of Each
regs_typed xs =
    record {
      irq_counter = omega arith;
      irq_reload = omega arith;
      prg_page = omega arith;
      prg_bank_select = omega arith;
      mirroring = omega arith;
      chr_regs = record { long = refl; small = (omega arith, (omega arith, (omega arith, (omega arith, (omega arith, (omega arith, (omega arith, (omega arith, tt)))))))) };
      chr_banks = record { long = refl; small = (omega arith, (omega arith, (omega arith, (omega arith, (omega arith, (omega arith, (omega arith, (omega arith, tt)))))))) };
    }
