-- What the proofs of the functions need: as much of a list as the room holds shows what the list shows. Assumes nothing.
use Rattle.std.proofs.Common.{◌≡◌, refl, ap, ◌∙◌, arith, List, [], ◌∷◌, ℕ, ◌<◌, eqb, false, Err}
use Rattle.laws.specs.Lists.{blank}
use Rattle.laws.specs.Codes.{codes}
use Rattle.refusals.specs.declared.Refusal.{Refusal}
use Rattle.refusals.specs.Refusals.{refusal_number}
use Rattle.card_decode.specs.Decode.{answer_of, decoded_of}
use Rattle.lines.specs.Lines.{with_numbers}
use Rattle.card_decode.proofs.DecodeLaws.{decoded_cut}
use Rattle.output.specs.Put.{put_all}
use Rattle.output.specs.PutLaws.{written, put_front}
use Rattle.player_decode.specs.PlayerDecode.{decoded_line, decode_line}

pub line_cut : (n : ℕ) (l : List ℕ) → 160 < n → decode_line (written (put_all (blank n, 0) l)) ≡ decode_line l
unfolding decode_line
line_cut n l h = ap (λ (m : List ℕ). decoded_line (decoded_of m)) (put_front n l) ∙ ap decoded_line (decoded_cut n l h)

-- an outcome that is a refusal has its line
numbered : (e : Refusal) → eqb (refusal_number e) 0 ≡ false
numbered e = grind arith

pub refused_line : (e : Refusal) → decoded_line (answer_of (Err e)) ≡ with_numbers (codes "decode #\n") (refusal_number e ∷ [])
refused_line e = rw (numbered e) refl
