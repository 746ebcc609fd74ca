-- `image::show::page_lines` meets its contract: line by line. Of a board that is refused the tables are zeros, as the definition has them.
-- Assumes nothing.
use Rattle.std.specs.Prelude.{Result, Ok, Err}
use Rattle.std.specs.Result.{result_unwrap_or}
use Rattle.std.proofs.Common.{rules}
use mathlib.Core.Path.{◌≡◌, refl, sym, ap, ◌∙◌}
use Rattle.laws.specs.Lists.{blank}
use Rattle.refusals.specs.declared.Refusal.{Refusal}
use Rattle.output.specs.PutLaws.{put_append}
use Rattle.pages.specs.declared.tables.PageTables.{PageTables}
use Rattle.pages.specs.Pages.{Told, told, page_tables}
use Rattle.image.specs.Image.{page_lines}
use Rattle.image.proofs.show.page_lines.Goals as goal

shown : (r : Result PageTables Refusal) (t : PageTables) → t.prg ≡ blank 64 → t.chr ≡ blank 16 → ((result_unwrap_or r t).prg ≡ (told r).prg) × ((result_unwrap_or r t).chr ≡ (told r).chr)
shown (Ok x) t p q = (refl, refl)
shown (Err e) t p q = (p, q)

pub returns : goal.returns
unfolding page_lines blank
returns c =
    let t = shown c.page_tables.result (record { prg = blank 64; chr = blank 16 }) refl refl in
    let prg : c.unwrap_or-tables.result.prg ≡ (page_tables c.args.board).prg = ap (λ (t : PageTables). t.prg) c.unwrap_or-tables.ensures ∙ t.0 ∙ ap (λ (t : Told). t.prg) c.page_tables.ensures in
    let chr : c.unwrap_or-tables.result.chr ≡ (page_tables c.args.board).chr = ap (λ (t : PageTables). t.chr) c.unwrap_or-tables.ensures ∙ t.1 ∙ ap (λ (t : Told). t.chr) c.page_tables.ensures in
    (rw (c.words_line-2.ensures.0, c.words_line.ensures.0, prg, chr) (sym (put_append _ _ _)), search rules)
