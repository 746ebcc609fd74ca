-- THE COMMANDS OF A SCRIPT THAT CHANGE THE IMAGE: the player after each, the output, and the image. Read downwards. Assumes nothing.
use Rattle.std.specs.Prelude.{Bool, List, [], ◌∷◌, ◌++◌, ℕ, leb, length, take, drop}
use Rattle.laws.specs.Choice.{pick}
use Rattle.laws.specs.Table.{filled}
use Rattle.views.specs.Views.{view_refusal, prg_poke, chr_poke}
use Rattle.laws.specs.Codes.{codes}
use Rattle.lines.specs.Lines.{with_numbers}
use Rattle.image.specs.Image.{least, image_length, image_byte}
use Rattle.player.specs.declared.Player.{Player}
use Rattle.player.specs.Player.{placed}

-- IMAGE: its length; the front of the lent image made anew
unfoldable pub made_of : Player → List ℕ → Player × List ℕ
made_of p out =
    placed (record { board = p.board; records = p.records; refused = p.refused; lines = p.lines; place = p.place; image = image_length p.board }) out
    (with_numbers (codes "image #\n") (image_length p.board ∷ []))

unfoldable pub made_image : Player → List ℕ → List ℕ
made_image p image = filled image 0 image_byte (least (image_length p.board) (length image))

-- POKE: into the player's image, the front of the lent one
unfoldable pub poke_of : Player → List ℕ → List ℕ → Player × List ℕ
poke_of p image out =
    pick (leb p.image (length image))
    (placed p out (with_numbers (codes "poke #\n") (view_refusal p.board (length (take p.image image)) ∷ [])))
    (p, out)

unfoldable pub poked_image : Player → Bool → ℕ → ℕ → List ℕ → List ℕ
poked_image p chr addr v image =
    pick (leb p.image (length image))
    (pick chr (chr_poke p.board (take p.image image) addr v) (prg_poke p.board (take p.image image) addr v) ++ drop p.image image)
    image
