-- What the proofs of the functions need: a view and a store of a table are those of the place where its page starts.
-- Assumes nothing.
use Rattle.std.specs.Prelude.{◌≡◌, List, [], ◌++◌, Bool, true, false, ◌&&◌, ℕ, ◌-◌, ◌%◌, eqb, leb, ltb, length}
use Rattle.std.proofs.Math.Path.{refl}
use Rattle.std.proofs.Common.{ap, ◌∙◌, ne_eqb, le-leb, ltb-true, ltb-false}
use Rattle.std.proofs.lemmas.Bool.{lt-leb}
use Rattle.laws.specs.Choice.{pick}
use Rattle.refusals.specs.declared.Refusal.{Refusal}
use Rattle.refusals.specs.Refusals.{refusal_number}
use Rattle.image_page.specs.Page.{offset_of, writable_of, part_of, poke_of}
use Rattle.bandai_fcg.specs.declared.board.Board.{Board}
use Rattle.views.specs.declared.table.Table.{Table}
use Rattle.views.specs.declared.table.Table.TheVariants.{Prg, Chr}
use Rattle.views.specs.Views.{entry_at, is_chr}
use Rattle.views.proofs.Calls.{refusal_some}
use Rattle.split_views.specs.declared.place.Place.{Place}
use Rattle.split_views.specs.declared.place.Place.TheVariants.{Rom, Ram}
use Rattle.split_views.specs.SplitViews.{rom_len, split_refusal, prg_split, chr_split, split_in, split_poke_in}
use Rattle.split_views.specs.Parts.{place_of, part_in, part_split, stored_split, prg_stored, chr_stored, split_store_in}
use Rattle.split_views.proofs.SplitViewsLaws.{prg_part, chr_part, prg_stored_lem, chr_stored_lem}

-- the calls of a table
view_by : (t : Table) (b : Board) (rom ram : List ℕ) (addr : ℕ) → part_split b rom ram (entry_at t b addr) ≡ split_in t b rom ram addr
view_by Prg b rom ram addr = prg_part b rom ram addr
view_by Chr b rom ram addr = chr_part b rom ram addr

store_by : (t : Table) (b : Board) (n : ℕ) (ram : List ℕ) (addr v : ℕ) → stored_split b n ram (entry_at t b addr) (addr % 1024) v ≡ split_store_in t b n ram addr v
store_by Prg b n ram addr v = refl
store_by Chr b n ram addr v = refl

-- the store in the second buffer is the poke of the two joined
pub store_joined : (t : Table) (b : Board) (rom ram : List ℕ) (addr v : ℕ) → rom ++ split_store_in t b (length rom) ram addr v ≡ split_poke_in t b rom ram addr v
store_joined Prg b rom ram addr v = prg_stored_lem b rom ram addr v
store_joined Chr b rom ram addr v = chr_stored_lem b rom ram addr v

-- the page at a place
abbrev pub shown : List ℕ → List ℕ → Place → List ℕ
shown rom ram (Rom o) = part_of rom o
shown rom ram (Ram o) = part_of ram o

shown_place : (b : Board) (rom ram : List ℕ) (e : ℕ) → shown rom ram (place_of b e) ≡ part_in b rom ram e
shown_place b rom ram e = go (ltb (offset_of e) (rom_len b))
  where
    go : (t : Bool) → shown rom ram (pick t (Rom (offset_of e)) (Ram (offset_of e - rom_len b))) ≡ pick t (part_of rom (offset_of e)) (part_of ram (offset_of e - rom_len b))
    go true = refl
    go false = refl

pub view_found : (t : Table) (b : Board) (rom ram : List ℕ) (addr : ℕ) (p : Place) → 0 ≡ split_refusal b (length rom) (length ram) → p ≡ place_of b (entry_at t b addr) → shown rom ram p ≡ split_in t b rom ram addr
unfolding part_split
view_found t b rom ram addr p n e = ap (shown rom ram) e ∙ shown_place b rom ram (entry_at t b addr) ∙ found n ∙ view_by t b rom ram addr
  where
    found : 0 ≡ split_refusal b (length rom) (length ram) → part_in b rom ram (entry_at t b addr) ≡ pick (eqb (split_refusal b (length rom) (length ram)) 0) (part_in b rom ram (entry_at t b addr)) []
    found n = rw (← n) refl

-- a place in the second buffer, and one in the first
ram_place : (b : Board) (e o : ℕ) → Ram o ≡ place_of b e → (leb (rom_len b) (offset_of e) ≡ true) × (o ≡ offset_of e - rom_len b)
ram_place b e o h = go (ltb (offset_of e) (rom_len b)) refl h
  where
    go : (t : Bool) → ltb (offset_of e) (rom_len b) ≡ t → Ram o ≡ pick t (Rom (offset_of e)) (Ram (offset_of e - rom_len b)) → (leb (rom_len b) (offset_of e) ≡ true) × (o ≡ offset_of e - rom_len b)
    go true t h = cc
    go false t h = (le-leb _ _ (ltb-false (offset_of e) (rom_len b) t), cc)

rom_place : (b : Board) (e : ℕ) → ((o : ℕ) → place_of b e ≡ Ram o → ⊥) → leb (rom_len b) (offset_of e) ≡ false
rom_place b e h = go (ltb (offset_of e) (rom_len b)) refl h
  where
    go : (t : Bool) → ltb (offset_of e) (rom_len b) ≡ t → ((o : ℕ) → pick t (Rom (offset_of e)) (Ram (offset_of e - rom_len b)) ≡ Ram o → ⊥) → leb (rom_len b) (offset_of e) ≡ false
    go true t h = lt-leb (rom_len b) (offset_of e) (ltb-true (offset_of e) (rom_len b) t)
    go false t h = absurd (h _ refl)

module _ (t : Table) (b : Board) (n : ℕ) (ram : List ℕ) (addr v : ℕ) where
  pub store_stored : (e o : ℕ) → 0 ≡ split_refusal b n (length ram) → e ≡ entry_at t b addr → Ram o ≡ place_of b e → writable_of e ≡ true → poke_of ram o (addr % 1024) v ≡ split_store_in t b n ram addr v
  unfolding stored_split
  store_stored e o z p r w = stored e o z (ram_place b e o r) w ∙ rw p (store_by t b n ram addr v)
    where
      stored : (e o : ℕ) → 0 ≡ split_refusal b n (length ram) → (leb (rom_len b) (offset_of e) ≡ true) × (o ≡ offset_of e - rom_len b) → writable_of e ≡ true → poke_of ram o (addr % 1024) v ≡ stored_split b n ram e (addr % 1024) v
      stored e o z q w = rw (← z, w, q.0, q.1) refl

  pub store_read_only : (e : ℕ) → e ≡ entry_at t b addr → writable_of e ≡ false → ram ≡ split_store_in t b n ram addr v
  unfolding stored_split
  store_read_only e p w = kept e w ∙ rw p (store_by t b n ram addr v)
    where
      same : (t : Bool) → ram ≡ pick t ram ram
      same true = refl
      same false = refl

      kept : (e : ℕ) → writable_of e ≡ false → ram ≡ stored_split b n ram e (addr % 1024) v
      kept e w = rw w (same (eqb (split_refusal b n (length ram)) 0))

  pub store_in_rom : (e : ℕ) → e ≡ entry_at t b addr → ((o : ℕ) → place_of b e ≡ Ram o → ⊥) → ram ≡ split_store_in t b n ram addr v
  unfolding stored_split
  store_in_rom e p r = kept e (rom_place b e r) ∙ rw p (store_by t b n ram addr v)
    where
      same : (t w : Bool) (x : List ℕ) → ram ≡ pick t (pick (w && false) x ram) ram
      same true true x = refl
      same true false x = refl
      same false w x = refl

      kept : (e : ℕ) → leb (rom_len b) (offset_of e) ≡ false → ram ≡ stored_split b n ram e (addr % 1024) v
      kept e l = rw l (same (eqb (split_refusal b n (length ram)) 0) (writable_of e) (poke_of ram (offset_of e - rom_len b) (addr % 1024) v))

  pub store_refused : (r : Refusal) → refusal_number r ≡ split_refusal b n (length ram) → ram ≡ split_store_in t b n ram addr v
  unfolding stored_split
  store_refused r z = kept (entry_at t b addr) ∙ store_by t b n ram addr v
    where
      kept : (e : ℕ) → ram ≡ stored_split b n ram e (addr % 1024) v
      kept e = rw (ne_eqb (split_refusal b n (length ram)) 0 (λ h. refusal_some r (z ∙ h))) refl

-- a flag for CHR names the table
pub split_of_flag : (t : Table) (b : Board) (rom ram : List ℕ) (addr : ℕ) → split_in t b rom ram addr ≡ pick (is_chr t) (chr_split b rom ram addr) (prg_split b rom ram addr)
split_of_flag Prg b rom ram addr = refl
split_of_flag Chr b rom ram addr = refl

pub store_of_flag : (t : Table) (b : Board) (n : ℕ) (ram : List ℕ) (addr v : ℕ) → split_store_in t b n ram addr v ≡ pick (is_chr t) (chr_stored b n ram addr v) (prg_stored b n ram addr v)
store_of_flag Prg b n ram addr v = refl
store_of_flag Chr b n ram addr v = refl
