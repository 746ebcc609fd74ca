-- Laws of views and pokes: a view that is not refused has 1,024 bytes, and a poke alters at most the byte that it names, and none before
-- `ram_start`. Assumes nothing.
use Rattle.std.specs.Prelude.{◌≡◌, List, Bool, true, false, ◌&&◌, ℕ, ◌+◌, ◌%◌, ◌≤◌, ◌<◌, eqb, leb, ltb, length, get_or, take, drop, set}
use Rattle.std.proofs.Math.Path.{refl}
use Rattle.std.proofs.Common.{arith, length-take, length-drop, get_or-set_other, eqb-true}
use Rattle.std.proofs.lemmas.List.{take-set-le}
use Rattle.laws.specs.Choice.{pick}
use Rattle.laws.proofs.ChoiceLaws.{pick_all}
use Rattle.image_page.specs.Page.{offset_of, writable_of, poke_of}
use Rattle.image_page.specs.PageLaws.{part_inside, poke_inside, poke_length}
use Rattle.memory.proofs.MemoryLaws.{Shows}
use Rattle.bandai_fcg.specs.declared.board.Board.{Board}
use Rattle.validity.specs.Valid.{valid_board}
use Rattle.entries.specs.Entries.{layout_for}
use Rattle.pages.specs.PagesLaws.{board_limited}
use Rattle.entries.proofs.EntriesLaws.{prg_shows, chr_shows}
use Rattle.views.specs.Views.{view_refusal, prg_at, chr_at, view_of, stored_in, prg_view, chr_view, prg_poke, chr_poke}

-- VIEWS AND POKES that are not refused

pub accepted : (b : Board) (n : ℕ) → view_refusal b n ≡ 0 → (valid_board b ≡ true) × (n ≡ (layout_for b.bandai.cart).len)
unfolding view_refusal
accepted b n h = go (valid_board b) refl (eqb n (layout_for b.bandai.cart).len) refl h
  where
    go : (v : Bool) → valid_board b ≡ v → (e : Bool) → eqb n (layout_for b.bandai.cart).len ≡ e → ◌≡◌ {A = ℕ} (pick v (pick e 0 9) 12) 0 → (valid_board b ≡ true) × (n ≡ (layout_for b.bandai.cart).len)
    go true v true e h = (v, eqb-true _ _ e)
    go true v false e h = absurd (omega arith)
    go false v e f h = absurd (omega arith)

module _ (b : Board) (image : List ℕ) (h : view_refusal b (length image) ≡ 0) where
  inside : (e : ℕ) → Shows (layout_for b.bandai.cart) e → offset_of e + 1024 ≤ length image
  inside e s = rw (accepted b (length image) h).1 s.inside

  view_whole : (e : ℕ) → Shows (layout_for b.bandai.cart) e → (view_of b image e ≡ take 1024 (drop (offset_of e) image)) × (length (view_of b image e) ≡ 1024)
  unfolding view_of
  view_whole e s =
      let p = part_inside image (offset_of e) (inside e s) in
      rw (h, p) (refl, simp (length-take, length-drop) (omega (arith, inside e s)))

  store_one : (e at v : ℕ) → at < 1024 → Shows (layout_for b.bandai.cart) e → stored_in b image e at v ≡ pick (writable_of e) (set image (offset_of e + at) v) image
  unfolding stored_in
  store_one e at v k s = rw (h, poke_inside image (offset_of e) at v (inside e s) k) refl

  prg_page_lem : (addr : ℕ) → Shows (layout_for b.bandai.cart) (prg_at b addr)
  prg_page_lem addr = prg_shows b.bandai.cart b.bandai.regs (board_limited b (accepted b (length image) h).0) _

  chr_page_lem : (addr : ℕ) → Shows (layout_for b.bandai.cart) (chr_at b addr)
  chr_page_lem addr = chr_shows b.bandai.cart b.bandai.regs (board_limited b (accepted b (length image) h).0) _

  -- a view is the 1,024 bytes of the image at the entry's offset
  pub prg_view_whole : (addr : ℕ) → (prg_view b image addr ≡ take 1024 (drop (offset_of (prg_at b addr)) image)) × (length (prg_view b image addr) ≡ 1024)
  prg_view_whole addr = view_whole (prg_at b addr) (prg_page_lem addr)

  pub chr_view_whole : (addr : ℕ) → (chr_view b image addr ≡ take 1024 (drop (offset_of (chr_at b addr)) image)) × (length (chr_view b image addr) ≡ 1024)
  chr_view_whole addr = view_whole (chr_at b addr) (chr_page_lem addr)

  -- a poke stores one byte, on a writable page
  pub prg_poke_one : (addr v : ℕ) → prg_poke b image addr v ≡ pick (writable_of (prg_at b addr)) (set image (offset_of (prg_at b addr) + addr % 1024) v) image
  prg_poke_one addr v = store_one (prg_at b addr) (addr % 1024) v (omega arith) (prg_page_lem addr)

  pub chr_poke_one : (addr v : ℕ) → chr_poke b image addr v ≡ pick (writable_of (chr_at b addr)) (set image (offset_of (chr_at b addr) + addr % 1024) v) image
  chr_poke_one addr v = store_one (chr_at b addr) (addr % 1024) v (omega arith) (chr_page_lem addr)

-- POKES of any board and image: the length stays, and so does each other byte

pub stored_length : (b : Board) (image : List ℕ) (e at v : ℕ) → length (stored_in b image e at v) ≡ length image
unfolding stored_in
stored_length b image e at v =
    pick_all (λ (s : List ℕ). length s ≡ length image) (eqb (view_refusal b (length image)) 0) _ image
    (λ t. pick_all (λ (s : List ℕ). length s ≡ length image) (writable_of e) _ image (λ t. poke_length image (offset_of e) at v) (λ t. refl))
    (λ t. refl)

pub stored_other : (b : Board) (image : List ℕ) (e at v k : ℕ) → (k ≡ offset_of e + at → ⊥) → get_or (stored_in b image e at v) k 0 ≡ get_or image k 0
unfolding stored_in poke_of
stored_other b image e at v k ne =
    pick_all (λ (s : List ℕ). get_or s k 0 ≡ get_or image k 0) (eqb (view_refusal b (length image)) 0) _ image
    (λ t. pick_all (λ (s : List ℕ). get_or s k 0 ≡ get_or image k 0) (writable_of e) _ image
    (λ t. pick_all (λ (s : List ℕ). get_or s k 0 ≡ get_or image k 0) (leb (offset_of e + 1024) (length image) && ltb at 1024) _ image (λ t. get_or-set_other image (offset_of e + at) k v 0 ne) (λ t. refl))
    (λ t. refl))
    (λ t. refl)

-- no poke alters a byte before `ram_start`
module _ (b : Board) (image : List ℕ) (h : view_refusal b (length image) ≡ 0) where
  rom_kept : (e at v : ℕ) → Shows (layout_for b.bandai.cart) e → take (layout_for b.bandai.cart).ram_start (pick (writable_of e) (set image (offset_of e + at) v) image) ≡ take (layout_for b.bandai.cart).ram_start image
  rom_kept e at v s =
      pick_all (λ (t : List ℕ). take (layout_for b.bandai.cart).ram_start t ≡ take (layout_for b.bandai.cart).ram_start image) (writable_of e) (set image (offset_of e + at) v) image
      (λ w. take-set-le (layout_for b.bandai.cart).ram_start image (offset_of e + at) v (omega (arith, s.in_ram w)))
      (λ w. refl)

  pub prg_poke_rom : (addr v : ℕ) → take (layout_for b.bandai.cart).ram_start (prg_poke b image addr v) ≡ take (layout_for b.bandai.cart).ram_start image
  prg_poke_rom addr v = rw (prg_poke_one b image h addr v) (rom_kept (prg_at b addr) (addr % 1024) v (prg_page_lem b image h addr))

  pub chr_poke_rom : (addr v : ℕ) → take (layout_for b.bandai.cart).ram_start (chr_poke b image addr v) ≡ take (layout_for b.bandai.cart).ram_start image
  chr_poke_rom addr v = rw (chr_poke_one b image h addr v) (rom_kept (chr_at b addr) (addr % 1024) v (chr_page_lem b image h addr))
