-- `molbitak_split::split_on` meets its contract: the place that is found, or the refusal. Assumes nothing.
use mathlib.Core.Path.{◌≡◌, refl, sym, ap, ◌∙◌}
use mathlib.Core.Bool.{Bool, true, false}
use Prim.Native.Nat.{ℕ, ◌-◌}
use lib.Dec.{ltb}
use borrow.Author.Tests.{ne_eqb}
use Rattle.laws.specs.Choice.{pick}
use Rattle.image_page.specs.Page.{offset_of}
use Rattle.bandai_fcg.specs.declared.board.Board.{Board}
use Rattle.views.proofs.Calls.{refusal_some}
use Rattle.split_views.specs.declared.place.Place.{Place}
use Rattle.split_views.specs.declared.place.Place.TheVariants.{Rom, Ram}
use Rattle.split_views.specs.SplitViews.{rom_len}
use Rattle.split_views.specs.Parts.{place_of}
use Rattle.molbitak_split.specs.declared.SplitViewC.{SplitViewC}
use Rattle.molbitak_split.specs.SplitOn.{page_on, split_on}
use Rattle.molbitak_split.proofs.split_on.Goals as goal

-- a place as it crosses
abbrev crossed : Place → SplitViewC
crossed (Rom o) = record { offset = o; in_ram = false; refusal = 0 }
crossed (Ram o) = record { offset = o; in_ram = true; refusal = 0 }

on_place : (b : Board) (e : ℕ) (p : Place) → p ≡ place_of b e → crossed p ≡ page_on b e
on_place b e p h = ap crossed h ∙ go (ltb (offset_of e) (rom_len b))
  where
    go : (t : Bool) → crossed (pick t (Rom (offset_of e)) (Ram (offset_of e - rom_len b))) ≡ pick t (record { offset = offset_of e; in_ram = false; refusal = 0 }) (record { offset = offset_of e - rom_len b; in_ram = true; refusal = 0 })
    go true = refl
    go false = refl

pub returns-in-Ok-Rom : goal.returns-in-Ok-Rom
unfolding split_on
returns-in-Ok-Rom c =
    let e = c.in-Ok-Rom.ensures in
    rw (← e.number) (on_place c.args.board _ (Rom c.in-Ok-Rom.offset) (sym c.in-Ok-Rom.field-0-is ∙ e.place))

pub returns-in-Ok-Ram : goal.returns-in-Ok-Ram
unfolding split_on
returns-in-Ok-Ram c =
    let e = c.in-Ok-Ram.ensures in
    rw (← e.number) (on_place c.args.board _ (Ram c.in-Ok-Ram.offset) (sym c.in-Ok-Ram.field-0-is ∙ e.place))

pub returns-in-Err : goal.returns-in-Err
unfolding split_on
returns-in-Err c =
    let e = c.in-Err.ensures in
    rw (c.number.ensures, e.number, ne_eqb _ _ (λ z. refusal_some _ (e.number ∙ z))) refl
