-- The words of registers whose arrays and flags are turned into words first.
-- Assumes nothing.
use Rattle.std.proofs.Common.{◌≡◌, ℕ, List, ◌∷◌, ◌++◌, refl}
use Rattle.laws.specs.Words.{flag}
use Rattle.regs.specs.declared.Regs.{Regs}
use Rattle.regs.specs.RegsWords.{eight_at, regs_words}

pub words_are : (r : Regs) (regs banks : List ℕ) (ram on pending : ℕ) →
    regs ≡ eight_at r.chr_regs 0 → banks ≡ eight_at r.chr_banks 0 → ram ≡ flag r.prg_ram_enabled → on ≡ flag r.irq_enabled → pending ≡ flag r.irq_pending →
    (r.prg_page ∷ r.prg_bank_select ∷ ram ∷ (eight_at regs 0 ++ (r.irq_counter ∷ on ∷ pending ∷ r.irq_reload ∷ r.mirroring ∷ eight_at banks 0))) ≡ regs_words r
words_are r regs banks ram on pending a b c d e = rw (a, b, c, d, e) refl
