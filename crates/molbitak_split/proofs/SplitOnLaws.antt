-- Laws of views across the boundary: where one is not refused, the 1,024 bytes at its offset in its buffer are the view of crate split_views.
-- Assumes nothing.
use Rattle.std.specs.Prelude.{◌≡◌, refl, List, Bool, true, false, ℕ, eqb, ltb, length}
use Rattle.std.proofs.Math.Path.{sym}
use Rattle.std.proofs.Common.{◌∙◌, eqb-true}
use Rattle.laws.specs.Choice.{pick}
use Rattle.laws.proofs.ChoiceLaws.{pick_all}
use Rattle.image_page.specs.Page.{offset_of, part_of}
use Rattle.bandai_fcg.specs.declared.board.Board.{Board}
use Rattle.views.specs.Views.{prg_at, chr_at}
use Rattle.split_views.specs.SplitViews.{rom_len, split_refusal, prg_split, chr_split}
use Rattle.split_views.specs.Parts.{part_in}
use Rattle.split_views.proofs.SplitViewsLaws.{prg_part_of_one, chr_part_of_one}
use Rattle.board_codes.specs.declared.board.BoardC.{BoardC}
use Rattle.board_codes.specs.Codes.{board_in}
use Rattle.molbitak_split.specs.declared.SplitViewC.{SplitViewC}
use Rattle.molbitak_split.specs.SplitOn.{page_on, split_on, prg_split_on, chr_split_on}

-- the page that a view names, of two buffers
abbrev pub shown : List ℕ → List ℕ → SplitViewC → List ℕ
shown rom ram v = part_of (pick v.in_ram ram rom) v.offset

-- the refusal is that of the two lengths
pub refusal_on : (b : Board) (n m e : ℕ) → (split_on b n m e).refusal ≡ split_refusal b n m
unfolding split_on
refusal_on b n m e =
    pick_all (λ (v : SplitViewC). v.refusal ≡ split_refusal b n m) (eqb (split_refusal b n m) 0) (page_on b e) _
    (λ t. pick_all (λ (v : SplitViewC). v.refusal ≡ split_refusal b n m) (ltb (offset_of e) (rom_len b)) _ _ (λ u. sym (eqb-true _ _ t)) (λ u. sym (eqb-true _ _ t)))
    (λ t. refl)

shown_part : (b : Board) (rom ram : List ℕ) (e : ℕ) → split_refusal b (length rom) (length ram) ≡ 0 → shown rom ram (split_on b (length rom) (length ram) e) ≡ part_in b rom ram e
unfolding split_on
shown_part b rom ram e h = rw h (side (ltb (offset_of e) (rom_len b)) _ _ refl refl)
  where
    side : (t : Bool) (v w : SplitViewC) {x y : List ℕ} → shown rom ram v ≡ x → shown rom ram w ≡ y → shown rom ram (pick t v w) ≡ pick t x y
    side true v w p q = p
    side false v w p q = q

module _ (b : BoardC) (rom ram : List ℕ) (h : split_refusal (board_in b) (length rom) (length ram) ≡ 0) where
  pub prg_shown_on : (addr : ℕ) → shown rom ram (prg_split_on b (length rom) (length ram) addr) ≡ prg_split (board_in b) rom ram addr
  unfolding prg_split_on
  prg_shown_on addr = shown_part (board_in b) rom ram (prg_at (board_in b) addr) h ∙ sym (prg_part_of_one (board_in b) rom ram h addr)

  pub chr_shown_on : (addr : ℕ) → shown rom ram (chr_split_on b (length rom) (length ram) addr) ≡ chr_split (board_in b) rom ram addr
  unfolding chr_split_on
  chr_shown_on addr = shown_part (board_in b) rom ram (chr_at (board_in b) addr) h ∙ sym (chr_part_of_one (board_in b) rom ram h addr)
