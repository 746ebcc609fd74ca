-- THE COMMANDS OF A SCRIPT THAT LEND THE IMAGE AS TWO BUFFERS: its first bytes up to a cut, and the rest; a cut above its length is its length.
-- Read downwards. Assumes nothing.
use Rattle.std.specs.Prelude.{Bool, List, [], ◌∷◌, ◌++◌, ℕ, eqb, leb, length, take, drop}
use Rattle.laws.specs.Choice.{pick}
use Rattle.laws.specs.Codes.{codes}
use Rattle.bandai_fcg.specs.declared.board.Board.{Board}
use Rattle.split_views.specs.SplitViews.{split_refusal, prg_split, chr_split, prg_poke_split, chr_poke_split}
use Rattle.lines.specs.Lines.{with_numbers, bytes_line}
use Rattle.player.specs.declared.Player.{Player}
use Rattle.player.specs.Player.{placed}

-- the refusal of an image that is cut
abbrev pub cut_refusal : Board → List ℕ → ℕ → ℕ
cut_refusal b image cut = split_refusal b (length (take cut image)) (length (drop cut image))

-- VIEW2: the page that the PPU or the CPU sees, or the refusal alone
abbrev pub cut_view : Board → List ℕ → Bool → ℕ → ℕ → List ℕ
cut_view b image chr addr cut = pick chr (chr_split b (take cut image) (drop cut image) addr) (prg_split b (take cut image) (drop cut image) addr)

unfoldable pub split_line : Board → List ℕ → Bool → ℕ → ℕ → List ℕ
split_line b image chr addr cut =
    pick (eqb (cut_refusal b image cut) 0) (bytes_line (codes "view2 0") (cut_view b image chr addr cut))
    (with_numbers (codes "view2 #\n") (cut_refusal b image cut ∷ []))

unfoldable pub view_split_of : Player → Bool → ℕ → ℕ → List ℕ → List ℕ → Player × List ℕ
view_split_of p chr addr cut image out = placed p out (split_line p.board (take p.image image) chr addr cut)

-- POKE2: into the player's image, the front of the lent one
abbrev pub cut_poke : Board → List ℕ → Bool → ℕ → ℕ → ℕ → List ℕ
cut_poke b image chr addr v cut = pick chr (chr_poke_split b (take cut image) (drop cut image) addr v) (prg_poke_split b (take cut image) (drop cut image) addr v)

unfoldable pub poke_split_of : Player → ℕ → List ℕ → List ℕ → Player × List ℕ
poke_split_of p cut image out =
    pick (leb p.image (length image))
    (placed p out (with_numbers (codes "poke2 #\n") (cut_refusal p.board (take p.image image) cut ∷ [])))
    (p, out)

unfoldable pub poked_split : Player → Bool → ℕ → ℕ → ℕ → List ℕ → List ℕ
poked_split p chr addr v cut image =
    pick (leb p.image (length image)) (cut_poke p.board (take p.image image) chr addr v cut ++ drop p.image image) image
