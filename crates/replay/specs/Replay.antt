-- What the replayed input owes before more of it is read. Assumes nothing.
use Rattle.std.specs.Prelude.{ℕ, Bool, List, nat_le}
use Rattle.laws.specs.Choice.{pick}
use Rattle.player.specs.declared.Player.{Player}
use Rattle.player.specs.Player.{with_place}
use Rattle.play.specs.Play.{too_long}

-- a line of which more than 4,096 bytes are held is reported as too long
abbrev pub reported_of : ℕ → Player → List ℕ → Player × List ℕ
reported_of left p out = pick (nat_le left 4096) (p, out) (too_long p out)

-- the output is written out, so that the next text starts at its front
abbrev pub flushed_of : Player × List ℕ → Player × List ℕ
flushed_of s = (with_place 0 s.0, s.1)

-- where more is read next: that report, then the output
abbrev pub owed_of : Bool → ℕ → Player → List ℕ → Player × List ℕ
owed_of reads left p out = pick reads (flushed_of (reported_of left p out)) (p, out)
