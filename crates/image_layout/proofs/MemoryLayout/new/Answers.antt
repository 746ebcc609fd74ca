-- `image_layout::MemoryLayout::new` meets its contract: each region starts where the one before it ends, and the ends stay below 2^39.
-- Assumes nothing.
use mathlib.Core.Path.{◌≡◌, refl}
use lib.Dec.{eqb}
use borrow.Author.Tests.{eq-eqb, ne_eqb}
use Rattle.laws.specs.Choice.{pick}
use native.Mathlib.Omega.{arith}
use Rattle.image_layout.specs.Layout.{layout_of}
use Rattle.image_layout.proofs.MemoryLayout.new.Goals as goal
use Rattle.image_layout.proofs.MemoryLayout.new.Goals.{then-chr_writable, else-chr_writable}

pub overflow_add-result : goal.overflow_add-result
overflow_add-result c =
    omega (arith, c.next-ex_ram.ensures.1, c.next-ciram.ensures.1, c.next-chr_ram.ensures.1, c.next-battery_ext.ensures.1, c.next-prg_ram.ensures.1, c.next-chr_rom.ensures.1, c.new-prg_rom.ensures.1)

pub returns : goal.returns
unfolding layout_of
returns c =
    let chr : c.if-chr_writable.chr ≡ pick (eqb c.args.sizes.chr_rom 0) c.next-chr_ram.result c.next-chr_rom.result =
    elim c.if-chr_writable.branch [ then-chr_writable w ↦ rw (eq-eqb _ _ w.if-chr_writable.true) w.chr-is | else-chr_writable w ↦ rw (ne_eqb _ _ w.if-chr_writable.false) w.chr-is ] in
    rw (
      chr,
      c.next-ex_ram.ensures.0,
      c.next-ciram.ensures.0,
      c.ciram_size.ensures,
      c.next-chr_ram.ensures.0,
      c.chr_ram_size.ensures,
      c.next-battery_ext.ensures.0,
      c.next-prg_ram.ensures.0,
      c.next-chr_rom.ensures.0,
      c.new-prg_rom.ensures.0,
    ) refl
