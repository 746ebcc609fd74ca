-- `pages::tables::set_mirroring` meets its contract: each nametable is the page at its start (`nametable_entries`).
-- Assumes nothing.
use mathlib.Core.Bool.{true}
use Rattle.laws.proofs.TableLaws.{filled_same}
use Rattle.memory.specs.Memory.{nametable_of}
use Rattle.memory.specs.Walked.{first_window, start_entry, nametable_starts}
use Rattle.memory.proofs.WalkedLaws.{nametable_entries, nametable_starts_length}
use Rattle.pages.proofs.tables.set_mirroring.Goals as goal

pub returns : goal.returns
returns c =
    let a = c.args in
    rw (c.map_starts.ensures, c.first.ensures, c.nametable_starts-starts.ensures, nametable_starts_length a.ciram a.mirroring)
    (filled_same a.pages.now 8 (start_entry (first_window a.ciram true) (nametable_starts a.ciram a.mirroring)) (nametable_of a.ciram a.mirroring) 4 (nametable_entries a.ciram a.mirroring))
