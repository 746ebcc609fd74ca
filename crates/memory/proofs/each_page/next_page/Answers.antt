-- `memory::each_page::next_page` meets its contract: by the one comparison.
-- Assumes nothing.
use mathlib.Core.Path.{◌≡◌, refl}
use mathlib.Core.Bool.{true, false}
use Prim.Native.Nat.{◌+◌}
use lib.Dec.{leb}
use borrow.Author.Tests.{le-leb, lt-leb}
use Rattle.memory.specs.Walked.{next_page}
use Rattle.memory.proofs.each_page.next_page.Goals as goal

pub returns-then-len-next : goal.returns-then-len-next
unfolding next_page
returns-then-len-next c =
    let a = c.args in
    let past : leb a.len (a.at + 1024) ≡ true = le-leb a.len (a.at + 1024) c.if-len-next.true in
    rw past refl

pub returns-else-len-next : goal.returns-else-len-next
unfolding next_page
returns-else-len-next c =
    let a = c.args in
    let within : leb a.len (a.at + 1024) ≡ false = lt-leb a.len (a.at + 1024) c.if-len-next.false in
    rw within refl
