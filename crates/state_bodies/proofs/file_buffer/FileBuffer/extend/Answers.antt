-- `FileBuffer::extend` meets its contract: as many bytes as have room, copied whole.
-- Assumes nothing.
use borrow.Author.Rules.{rules}
use Rattle.state_bodies.specs.FileBufferLaws.{appended_copy}
use Rattle.state_bodies.proofs.file_buffer.FileBuffer.extend.Goals as goal

pub returns : goal.returns
returns c =
    rw (c.copy_from_slice.ensures.after, c.first-part.ensures)
    (appended_copy c.args.self.now c.args.bytes.now c.min-start.result c.min-start.ensures (search rules))
