-- `split_views::split::check_split` meets its contract: what it calls, then the tests on the way. A valid board has a layout whose RAM
-- starts within it. Assumes nothing.
use mathlib.Core.Path.{◌≡◌, sym, ap, ◌∙◌}
use mathlib.Core.Bool.{true}
use Prim.Native.Nat.{◌-◌}
use Rattle.image_layout.specs.declared.MemoryLayout.{MemoryLayout}
use Rattle.validity.specs.Valid.{valid_board}
use Rattle.pages.specs.PagesLaws.{board_laid}
use Rattle.split_views.specs.SplitViews.{rom_len, ram_len}
use Rattle.split_views.proofs.SplitViewsLaws.{twelve_where, nine_where, accepted_where}
use Rattle.split_views.proofs.split.check_split.Goals as goal
use Rattle.split_views.proofs.split.check_split.Goals.{then-rom_len-layout-via-then-rom_len-layout, then-rom_len-layout-via-else-rom_len-layout+then-ram_len-rest}

pub overflow_sub-rest : goal.overflow_sub-rest
overflow_sub-rest c =
    let b = c.args.board in
    let v : valid_board b ≡ true = sym c.is_valid.ensures ∙ c.if-not-is_valid.false in
    rw c.layout-layout.ensures (board_laid b v).ram_upto

pub returns-then-not-is_valid : goal.returns-then-not-is_valid
returns-then-not-is_valid c =
    let a = c.args in
    sym (twelve_where a.board a.rom_len a.ram_len (sym c.is_valid.ensures ∙ c.if-not-is_valid.true))

pub returns-then-rom_len-layout : goal.returns-then-rom_len-layout
returns-then-rom_len-layout c =
    let a = c.args in
    let s : c.layout-layout.result.ram_start ≡ rom_len a.board = ap (λ (l : MemoryLayout). l.ram_start) c.layout-layout.ensures in
    let r : c.layout-layout.result.len - c.layout-layout.result.ram_start ≡ ram_len a.board = ap (λ (l : MemoryLayout). l.len - l.ram_start) c.layout-layout.ensures in
    let unlike : (a.rom_len ≡ rom_len a.board) × (a.ram_len ≡ ram_len a.board) → ⊥ =
    elim c.then-rom_len-layout.branch [
      | then-rom_len-layout-via-then-rom_len-layout w ↦ (λ p. w.if-rom_len-layout.true (p.0 ∙ sym s))
      | then-rom_len-layout-via-else-rom_len-layout+then-ram_len-rest w ↦ (λ p. w.if-ram_len-rest.true (p.1 ∙ sym r))
    ] in
    sym (nine_where a.board a.rom_len a.ram_len (sym c.is_valid.ensures ∙ c.if-not-is_valid.false) unlike)

pub returns : goal.returns
returns c =
    let a = c.args in
    sym (accepted_where a.board a.rom_len a.ram_len (sym c.is_valid.ensures ∙ c.if-not-is_valid.false) (c.if-rom_len-layout.false ∙ ap (λ (l : MemoryLayout). l.ram_start) c.layout-layout.ensures) (c.if-ram_len-rest.false ∙ ap (λ (l : MemoryLayout). l.len - l.ram_start) c.layout-layout.ensures))
