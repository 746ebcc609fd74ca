-- PAGE TABLES ACROSS THE BOUNDARY: field by field what crate pages tells. Assumes nothing.
use Rattle.pages.specs.Pages.{Told}
use Rattle.molbitak_views.specs.declared.tables.PageTablesC.{PageTablesC}

abbrev pub crossed : PageTablesC → Told
crossed t = record { prg = t.prg; chr = t.chr; refusal = t.refusal }
