-- `state_codec::encode::encode` meets its contract: contents first, then the bodies.
-- Assumes nothing.
use mathlib.Core.Path.{◌≡◌, sym}
use Rattle.state_bodies.specs.FileBuffer.{appended, new_file}
use Rattle.state_bodies.specs.FileBufferLaws.{appended_two}
use Rattle.state_codec.specs.Steps.{encoded_of}
use Rattle.state_codec.proofs.Arrays.{sized}
use Rattle.state_codec.proofs.Built.{encoded}
use Rattle.state_codec.proofs.encode.encode.Goals as goal

pub returns : goal.returns
unfolding encoded_of appended new_file
returns c =
    let a = c.args in
    let e : c.push_bodies.new.file ≡ encoded_of a.form a.board = rw (c.push_bodies.ensures, c.push_contents.ensures, c.new-file.ensures) (sym (appended_two _ _ _)) in
    (e, encoded a.form a.board (sized a.board c.well_formed.1) c.push_bodies.new.file e)
