-- What the proofs of the functions need: a view and a poke of a table are those of the page that it shows; a refusal is not 0.
-- Assumes nothing.
use Rattle.std.specs.Prelude.{◌≡◌, List, Bool, true, false, ℕ, ◌%◌, eqb, length}
use Rattle.std.proofs.Math.Path.{refl}
use Rattle.std.proofs.Common.{arith, ◌∙◌, ne_eqb}
use Rattle.laws.specs.Choice.{pick}
use Rattle.refusals.specs.declared.Refusal.{Refusal}
use Rattle.refusals.specs.declared.Refusal.TheVariants.{MapperUnknown, SizeTooLarge, CodeUnlisted, NoReader, DigitCount, ClockLimit, LineLevel, ChipNotFitted, ImageLength, BufferTooShort, NotAStateFile, BoardNotValid, KindUnknown, NoSuchCard, RuleUnlisted}
use Rattle.refusals.specs.Refusals.{refusal_number}
use Rattle.image_page.specs.Page.{offset_of, writable_of, part_of, poke_of}
use Rattle.bandai_fcg.specs.declared.board.Board.{Board}
use Rattle.views.specs.declared.table.Table.{Table}
use Rattle.views.specs.declared.table.Table.TheVariants.{Prg, Chr}
use Rattle.views.specs.Views.{view_refusal, entry_at, view_of, stored_in, view_in, poke_in, prg_view, chr_view, prg_poke, chr_poke, is_chr}

-- a refusal's number is not 0
pub refusal_some : (e : Refusal) → refusal_number e ≡ 0 → ⊥
refusal_some MapperUnknown h = omega arith
refusal_some SizeTooLarge h = omega arith
refusal_some CodeUnlisted h = omega arith
refusal_some NoReader h = omega arith
refusal_some DigitCount h = omega arith
refusal_some ClockLimit h = omega arith
refusal_some LineLevel h = omega arith
refusal_some ChipNotFitted h = omega arith
refusal_some ImageLength h = omega arith
refusal_some BufferTooShort h = omega arith
refusal_some NotAStateFile h = omega arith
refusal_some BoardNotValid h = omega arith
refusal_some KindUnknown h = omega arith
refusal_some NoSuchCard h = omega arith
refusal_some RuleUnlisted h = omega arith

-- the calls of a table
view_by : (t : Table) (b : Board) (image : List ℕ) (addr : ℕ) → view_of b image (entry_at t b addr) ≡ view_in t b image addr
view_by Prg b image addr = refl
view_by Chr b image addr = refl

poke_by : (t : Table) (b : Board) (image : List ℕ) (addr v : ℕ) → stored_in b image (entry_at t b addr) (addr % 1024) v ≡ poke_in t b image addr v
poke_by Prg b image addr v = refl
poke_by Chr b image addr v = refl

module _ (t : Table) (b : Board) (image : List ℕ) (addr : ℕ) where
  pub view_found : (e : ℕ) → 0 ≡ view_refusal b (length image) → e ≡ entry_at t b addr → part_of image (offset_of e) ≡ view_in t b image addr
  unfolding view_of
  view_found e n p = rw p (found n ∙ view_by t b image addr)
    where
      found : 0 ≡ view_refusal b (length image) → part_of image (offset_of (entry_at t b addr)) ≡ view_of b image (entry_at t b addr)
      found n = rw (← n) refl

  -- a poke on a page that may be written, on one that may not, and a refused one
  pub poke_stored : (e v : ℕ) → 0 ≡ view_refusal b (length image) → e ≡ entry_at t b addr → writable_of e ≡ true → poke_of image (offset_of e) (addr % 1024) v ≡ poke_in t b image addr v
  unfolding stored_in
  poke_stored e v n p w = stored e n w ∙ rw p (poke_by t b image addr v)
    where
      stored : (e : ℕ) → 0 ≡ view_refusal b (length image) → writable_of e ≡ true → poke_of image (offset_of e) (addr % 1024) v ≡ stored_in b image e (addr % 1024) v
      stored e n w = rw (← n, w) refl

  pub poke_read_only : (e v : ℕ) → e ≡ entry_at t b addr → writable_of e ≡ false → image ≡ poke_in t b image addr v
  unfolding stored_in
  poke_read_only e v p w = kept e w ∙ rw p (poke_by t b image addr v)
    where
      kept : (e : ℕ) → writable_of e ≡ false → image ≡ stored_in b image e (addr % 1024) v
      kept e w = rw w (same (eqb (view_refusal b (length image)) 0) image)
        where
          same : (t : Bool) (s : List ℕ) → s ≡ pick t s s
          same true s = refl
          same false s = refl

  pub poke_refused : (r : Refusal) (v : ℕ) → refusal_number r ≡ view_refusal b (length image) → image ≡ poke_in t b image addr v
  unfolding stored_in
  poke_refused r v n = kept (entry_at t b addr) ∙ poke_by t b image addr v
    where
      kept : (e : ℕ) → image ≡ stored_in b image e (addr % 1024) v
      kept e = rw (ne_eqb (view_refusal b (length image)) 0 (λ z. refusal_some r (n ∙ z))) refl

-- a flag for CHR names the table
pub view_of_flag : (t : Table) (b : Board) (image : List ℕ) (addr : ℕ) → view_in t b image addr ≡ pick (is_chr t) (chr_view b image addr) (prg_view b image addr)
view_of_flag Prg b image addr = refl
view_of_flag Chr b image addr = refl

pub poke_of_flag : (t : Table) (b : Board) (image : List ℕ) (addr v : ℕ) → poke_in t b image addr v ≡ pick (is_chr t) (chr_poke b image addr v) (prg_poke b image addr v)
poke_of_flag Prg b image addr v = refl
poke_of_flag Chr b image addr v = refl
