-- `molbitak_step::write::molbitak_write_register` meets its contract. Assumes nothing.
use Rattle.molbitak_step.specs.PartsLaws.{write_shows}
use Rattle.molbitak_step.proofs.write.molbitak_write_register.Goals as goal

pub returns : goal.returns
returns c =
    λ b.
    let e = (rw (c.chips_state-bandai.ensures, c.chip_of-2.ensures, c.chip_of.ensures) at (c.write_register-after.ensures b.modules)) in
    rw (c.bytes_of-2.ensures, c.bytes_of.ensures) (write_shows _ b.bandai.has_barcode_reader b.bandai.barcode_reader b.modules _ _ _ e)
