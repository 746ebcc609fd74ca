-- THE COMMAND OF A SCRIPT THAT READS A LIST OF MODULES: the digits of the card that yields it, in one word, or the refusal alone.
-- Read downwards. Assumes nothing.
use Rattle.std.specs.Prelude.{List, [], ◌∷◌, ◌++◌, ℕ, eqb, take}
use Rattle.laws.specs.Choice.{pick}
use Rattle.laws.specs.Codes.{codes}
use Rattle.card_decode.specs.Decode.{Decoded, decoded_of}
use Rattle.output.specs.Put.{decimal_of}
use Rattle.script.specs.Script.{bytes_in}
use Rattle.lines.specs.Lines.{with_numbers, joined}
use Rattle.player.specs.declared.Player.{Player}
use Rattle.player.specs.Player.{placed}

-- the line of an answer
abbrev pub decoded_line : Decoded → List ℕ
decoded_line d =
    pick (eqb d.refusal 0) (codes "decode 0 " ++ (joined decimal_of (take d.digits.len d.digits.digit) ++ (10 ∷ [])))
    (with_numbers (codes "decode #\n") (d.refusal ∷ []))

unfoldable pub decode_line : List ℕ → List ℕ
decode_line l = decoded_line (decoded_of l)

-- DECODE: the bytes that follow the command
unfoldable pub decode_of : Player → List ℕ → List ℕ → Player × List ℕ
decode_of p line out = placed p out (decode_line (bytes_in line))
