-- The room in which the code builds a file. No promise to callers of the state file cites it.
-- Assumes nothing.
use Rattle.std.specs.Prelude.{List, ℕ}
use Rattle.laws.specs.Append.{append_all}
use Rattle.laws.specs.Lists.{blank}
use Rattle.state_bodies.specs.declared.file_buffer.FileBuffer.{FileBuffer}

-- more than a board's file has
abbrev pub capacity : ℕ
capacity = 683

unfoldable pub new_file : FileBuffer
new_file = record { length = 0; bytes = blank capacity }

-- an array of which so many bytes are written
abbrev pub buffer_of : List ℕ × ℕ → FileBuffer
buffer_of s = record { length = s.1; bytes = s.0 }

-- a file with bytes after those that are written, as many as have room
unfoldable pub appended : FileBuffer → List ℕ → FileBuffer
appended file l = buffer_of (append_all capacity (file.bytes, file.length) l)
