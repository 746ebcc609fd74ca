-- `player_decode::decode_bytes` meets its contract: what has no room makes no difference. Assumes nothing.
use Rattle.std.proofs.Common.{◌≡◌, refl, ap, ◌∙◌, arith, rules}
use Rattle.laws.specs.Lists.{blank}
use Rattle.output.specs.Put.{put_all, placed_in}
use Rattle.script.specs.Script.{bytes_in}
use Rattle.player_decode.specs.PlayerDecode.{decode_line, decode_of}
use Rattle.player_decode.proofs.Laws.{line_cut}
use Rattle.player_decode.proofs.decode_bytes.Goals as goal

pub returns : goal.returns
unfolding decode_of blank
returns c =
    let a = c.args in
    let b = c.bytes_in-length.ensures in
    let e : placed_in c.decode_line.new.out ≡ put_all (a.out.now, a.player.place) (decode_line (bytes_in a.line.now)) =
    c.decode_line.ensures.0 ∙ rw (c.front.ensures, ap (λ x. x.1) b, ap (λ x. x.0) b, line_cut 161 _ (omega arith)) refl in
    search (rules, e)
