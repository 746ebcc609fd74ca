-- `entries::entry::prg_entry` meets its contract: the tests on the way, and each window is walked to its entry (`ram_walked_lem`, `rom_walked_lem`).
-- Assumes nothing.
use mathlib.Core.Path.{◌≡◌, refl, ap, ◌∙◌}
use Prim.Native.Nat.{◌-◌}
use native.Mathlib.Omega.{arith}
use borrow.Author.Tests.{lt-ltb, le-ltb}
use Rattle.image_layout.specs.declared.MemoryLayout.{MemoryLayout}
use Rattle.memory.specs.declared.Window.{Window}
use Rattle.memory.specs.Walked.{walked_entry}
use Rattle.entries.specs.Entries.{layout_for, ram_shown, rom_window, prg_entry}
use Rattle.entries.proofs.EntriesLaws.{ram_walked_lem, rom_walked_lem}
use Rattle.entries.proofs.entry.prg_entry.Goals as goal

pub returns-in-0-to-23 : goal.returns-in-0-to-23
unfolding prg_entry
returns-in-0-to-23 c = let a = c.args in rw (lt-ltb a.k 24 (omega arith)) refl

pub returns-in-24-to-31 : goal.returns-in-24-to-31
unfolding prg_entry
returns-in-24-to-31 c =
    let a = c.args in
    let w : c.prg_ram.result ≡ ram_shown (layout_for a.cart) a.cart a.regs = c.prg_ram.ensures ∙ ap (λ (l : MemoryLayout). ram_shown l a.cart a.regs) c.layout-layout.ensures in
    c.entry.ensures ∙ ap (λ (x : Window). walked_entry x (a.k - 24)) w ∙ ram_walked_lem a.cart a.regs (a.k - 24)
    ∙ rw (le-ltb a.k 24 (omega arith), lt-ltb a.k 32 (omega arith)) refl

pub returns-in-32-to-47 : goal.returns-in-32-to-47
unfolding prg_entry
returns-in-32-to-47 c =
    let a = c.args in
    let w : c.prg_rom.result ≡ rom_window (layout_for a.cart) a.regs a.regs.prg_page = c.prg_rom.ensures ∙ ap (λ (l : MemoryLayout). rom_window l a.regs a.regs.prg_page) c.layout-layout.ensures in
    c.entry-in-32-to-47.ensures ∙ ap (λ (x : Window). walked_entry x (a.k - 32)) w ∙ rom_walked_lem a.cart a.regs a.regs.prg_page (a.k - 32)
    ∙ rw (le-ltb a.k 24 (omega arith), le-ltb a.k 32 (omega arith), lt-ltb a.k 48 (omega arith)) refl

pub returns-in-48-to-63 : goal.returns-in-48-to-63
unfolding prg_entry
returns-in-48-to-63 c =
    let a = c.args in
    let w : c.prg_rom-in-48-to-63.result ≡ rom_window (layout_for a.cart) a.regs 15 = c.prg_rom-in-48-to-63.ensures ∙ ap (λ (l : MemoryLayout). rom_window l a.regs 15) c.layout-layout.ensures in
    c.entry-in-48-to-63.ensures ∙ ap (λ (x : Window). walked_entry x (a.k - 48)) w ∙ rom_walked_lem a.cart a.regs 15 (a.k - 48)
    ∙ rw (le-ltb a.k 24 (omega arith), le-ltb a.k 32 (omega arith), le-ltb a.k 48 (omega arith), lt-ltb a.k 64 (omega arith)) refl

pub returns-in_default : goal.returns-in_default
unfolding prg_entry
returns-in_default c = let a = c.args in rw (le-ltb a.k 24 (omega arith), le-ltb a.k 32 (omega arith), le-ltb a.k 48 (omega arith), le-ltb a.k 64 (omega arith)) refl
