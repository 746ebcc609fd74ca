-- Laws of two buffers: when each number is given; a view is a part of one of the two (`part_of_one`); what is accepted of the two is
-- accepted of the two joined (`split_joined`); an image cut at `ram_start` is seen and poked as it is whole (`cut_accepted`, `prg-cut-view`,
-- `prg-cut-poke`); a poke leaves the first buffer, so that it determines the second (`prg_stored_lem`, `second_one`). Assumes nothing.
use Rattle.std.specs.Prelude.{◌≡◌, Bool, true, false, ◌&&◌, ℕ, ◌+◌, ◌-◌, ◌%◌, ◌≤◌, ◌<◌, eqb, leb, ltb, take, drop, set}
use Rattle.std.proofs.Math.Path.{refl, sym, ap}
use Rattle.std.proofs.Common.{◌∙◌, arith, length-append, length-drop, length-take-le}
use mathlib.Core.List.{List, [], ◌++◌}
use Rattle.std.proofs.Math.ListN.{length, take-append-drop}
use Rattle.std.proofs.lemmas.List.{take-set-le, drop-set-add, take-append-le, drop-append-le}
use Rattle.std.proofs.Math.Seq.{take-append_seam, drop-append_seam, drop-append-add}
use borrow.Author.Tests.{eqb-true, eq-eqb, le-leb, ltb-true, ltb-false}
use Rattle.laws.specs.Choice.{pick}
use Rattle.laws.proofs.ChoiceLaws.{both_true, true_both, never_both, pick_all}
use Rattle.image_page.specs.Page.{offset_of, writable_of, part_of, poke_of}
use Rattle.image_page.specs.PageLaws.{part_inside, poke_inside}
use Rattle.memory.proofs.MemoryLaws.{Shows}
use Rattle.bandai_fcg.specs.declared.board.Board.{Board}
use Rattle.validity.specs.Valid.{valid_board}
use Rattle.entries.specs.Entries.{layout_for}
use Rattle.entries.proofs.EntriesLaws.{prg_shows, chr_shows}
use Rattle.pages.specs.PagesLaws.{board_limited, board_laid}
use Rattle.views.specs.Views.{view_refusal, prg_at, chr_at, view_of, stored_in, prg_view, chr_view, prg_poke, chr_poke}
use Rattle.views.proofs.ViewsLaws.{accepted, prg_view_whole, chr_view_whole}
use Rattle.split_views.specs.SplitViews.{rom_len, ram_len, lengths_fit, split_refusal, view_split, poke_split, prg_split, chr_split, prg_poke_split, chr_poke_split}
use Rattle.split_views.specs.Parts.{part_in, part_split, stored_split, prg_stored, chr_stored}

-- EACH NUMBER in its case and in no other

choice : (v f : Bool) (r : ℕ) → r ≡ pick v (pick f 0 9) 12 → ((r ≡ 0 → (v ≡ true) × (f ≡ true)) × (r ≡ 9 → (v ≡ true) × (f ≡ false))) × (r ≡ 12 → v ≡ false)
choice true true r e = ((λ z. (refl, refl), λ z. absurd (omega (arith, e, z))), λ z. absurd (omega (arith, e, z)))
choice true false r e = ((λ z. absurd (omega (arith, e, z)), λ z. (refl, refl)), λ z. absurd (omega (arith, e, z)))
choice false f r e = ((λ z. absurd (omega (arith, e, z)), λ z. absurd (omega (arith, e, z))), λ z. refl)

module _ (b : Board) (n m : ℕ) where
  pub twelve_where : valid_board b ≡ false → split_refusal b n m ≡ 12
  unfolding split_refusal
  twelve_where v = rw v refl

  pub twelve_only : split_refusal b n m ≡ 12 → valid_board b ≡ false
  unfolding split_refusal
  twelve_only = (choice (valid_board b) (lengths_fit b n m) (split_refusal b n m) refl).1

  -- each length is tested
  fits : lengths_fit b n m ≡ true → (n ≡ rom_len b) × (m ≡ ram_len b)
  fits t =
      let f = both_true (eqb n (rom_len b)) (eqb m (ram_len b)) t in
      (eqb-true _ _ f.0, eqb-true _ _ f.1)

  -- either length is wrong
  pub nine_only : split_refusal b n m ≡ 9 → (valid_board b ≡ true) × ((n ≡ rom_len b) × (m ≡ ram_len b) → ⊥)
  unfolding split_refusal
  nine_only h =
      let a = (choice (valid_board b) (lengths_fit b n m) (split_refusal b n m) refl).0.1 h in
      (a.0, λ p. never_both (lengths_fit b n m) (true_both (eqb n (rom_len b)) (eqb m (ram_len b)) (eq-eqb _ _ p.0) (eq-eqb _ _ p.1)) a.1)

  pub accepted_only : split_refusal b n m ≡ 0 → (valid_board b ≡ true) × ((n ≡ rom_len b) × (m ≡ ram_len b))
  unfolding split_refusal
  accepted_only h =
      let a = (choice (valid_board b) (lengths_fit b n m) (split_refusal b n m) refl).0.0 h in
      (a.0, fits a.1)

  pub nine_where : valid_board b ≡ true → ((n ≡ rom_len b) × (m ≡ ram_len b) → ⊥) → split_refusal b n m ≡ 9
  unfolding split_refusal
  nine_where v ne = rw v (pick_all (λ (r : ℕ). r ≡ 9) (lengths_fit b n m) 0 9 (λ t. absurd (ne (fits t))) (λ t. refl))

  pub accepted_where : valid_board b ≡ true → n ≡ rom_len b → m ≡ ram_len b → split_refusal b n m ≡ 0
  unfolding split_refusal
  accepted_where v e f = rw (v, eq-eqb _ _ e, eq-eqb _ _ f) refl

  -- WHAT IS ACCEPTED of the two is accepted of the two joined
  pub split_joined : split_refusal b n m ≡ 0 → view_refusal b (n + m) ≡ 0
  unfolding view_refusal
  split_joined h =
      let a = accepted_only h in
      let s = (board_laid b a.0).ram_upto in
      let e : n + m ≡ (layout_for b.bandai.cart).len = omega (arith, a.1.0, a.1.1, s) in
      rw (a.0, eq-eqb _ _ e) refl

-- the entries of a valid board
prg_shown : (b : Board) → valid_board b ≡ true → (addr : ℕ) → Shows (layout_for b.bandai.cart) (prg_at b addr)
prg_shown b v addr = prg_shows b.bandai.cart b.bandai.regs (board_limited b v) _

chr_shown : (b : Board) → valid_board b ≡ true → (addr : ℕ) → Shows (layout_for b.bandai.cart) (chr_at b addr)
chr_shown b v addr = chr_shows b.bandai.cart b.bandai.regs (board_limited b v) _

-- PARTS AND STORES of two lists joined
part_front : (a c : List ℕ) (o : ℕ) → o + 1024 ≤ length a → part_of (a ++ c) o ≡ part_of a o
part_front a c o h =
    part_inside (a ++ c) o (rw (length-append a c) (omega (arith, h))) ∙
    ap (take 1024) (drop-append-le o a c (omega (arith, h))) ∙
    take-append-le 1024 (drop o a) c (rw (length-drop o a) (omega (arith, h))) ∙
    sym (part_inside a o h)

part_behind : (a c : List ℕ) (o : ℕ) → length a ≤ o → o + 1024 ≤ length a + length c → part_of (a ++ c) o ≡ part_of c (o - length a)
part_behind a c o f h =
    part_inside (a ++ c) o (rw (length-append a c) h) ∙
    ap (λ (k : ℕ). take 1024 (drop k (a ++ c))) (from o (length a) f) ∙
    ap (take 1024) (drop-append-add a c (o - length a)) ∙
    sym (part_inside c (o - length a) (omega (arith, f, h)))
  where
    from : (o n : ℕ) → n ≤ o → o ≡ n + (o - n)
    from o n f = omega (arith, f)

set_behind : (a c : List ℕ) (n v : ℕ) → set (a ++ c) (length a + n) v ≡ a ++ set c n v
set_behind a c n v =
    sym (take-append-drop (length a) (set (a ++ c) (length a + n) v)) ∙
    rw (take-set-le (length a) (a ++ c) (length a + n) v (omega arith), drop-set-add (length a) (a ++ c) n v, take-append_seam a c, drop-append_seam a c) refl

poke_behind : (a c : List ℕ) (o at v : ℕ) → length a ≤ o → o + 1024 ≤ length a + length c → at < 1024 → poke_of (a ++ c) o at v ≡ a ++ poke_of c (o - length a) at v
poke_behind a c o at v f h k =
    poke_inside (a ++ c) o at v (rw (length-append a c) h) k ∙
    ap (λ (i : ℕ). set (a ++ c) i v) (from o (length a) f) ∙
    set_behind a c (o - length a + at) v ∙
    ap (λ (l : List ℕ). a ++ l) (sym (poke_inside c (o - length a) at v (omega (arith, f, h)) k))
  where
    from : (o n : ℕ) → n ≤ o → o + at ≡ n + (o - n + at)
    from o n f = omega (arith, f)

-- a list behind a known one is known
pub second_one : (rom x y : List ℕ) → rom ++ x ≡ rom ++ y → x ≡ y
second_one rom x y e = sym (drop-append_seam rom x) ∙ ap (drop (length rom)) e ∙ drop-append_seam rom y

-- TWO BUFFERS that are accepted
module _ (b : Board) (rom ram : List ℕ) (h : split_refusal b (length rom) (length ram) ≡ 0) where
  pub joined : view_refusal b (length (rom ++ ram)) ≡ 0
  joined = rw (length-append rom ram) (split_joined b (length rom) (length ram) h)

  whole : length rom + length ram ≡ (layout_for b.bandai.cart).len
  whole = sym (length-append rom ram) ∙ (accepted b (length (rom ++ ram)) joined).1

  -- no page lies across the cut
  one_side : (e : ℕ) → Shows (layout_for b.bandai.cart) e → offset_of e < rom_len b → offset_of e + 1024 ≤ rom_len b
  one_side e s lt = side (writable_of e) refl
    where
      side : (w : Bool) → writable_of e ≡ w → offset_of e + 1024 ≤ rom_len b
      side true w = absurd (omega (arith, s.in_ram w, lt))
      side false w = s.in_rom w

  part_joined : (e : ℕ) → Shows (layout_for b.bandai.cart) e → view_of b (rom ++ ram) e ≡ part_in b rom ram e
  unfolding view_of
  part_joined e s =
      let n : length rom ≡ rom_len b = (accepted_only b (length rom) (length ram) h).1.0 in
      rw joined (pick_all (λ (p : List ℕ). part_of (rom ++ ram) (offset_of e) ≡ p) (ltb (offset_of e) (rom_len b)) (part_of rom (offset_of e)) (part_of ram (offset_of e - rom_len b))
      (λ t. part_front rom ram (offset_of e) (rw n (one_side e s (ltb-true (offset_of e) (rom_len b) t))))
      (λ t. part_behind rom ram (offset_of e) (rw n (ltb-false (offset_of e) (rom_len b) t)) (rw whole s.inside) ∙ ap (λ (k : ℕ). part_of ram (offset_of e - k)) n))

  stored_joined : (e at v : ℕ) → at < 1024 → Shows (layout_for b.bandai.cart) e → rom ++ pick (writable_of e && leb (rom_len b) (offset_of e)) (poke_of ram (offset_of e - rom_len b) at v) ram ≡ stored_in b (rom ++ ram) e at v
  unfolding stored_in
  stored_joined e at v k s = rw joined (go (writable_of e) refl)
    where
      n : length rom ≡ rom_len b
      n = (accepted_only b (length rom) (length ram) h).1.0

      go : (w : Bool) → writable_of e ≡ w → rom ++ pick (w && leb (rom_len b) (offset_of e)) (poke_of ram (offset_of e - rom_len b) at v) ram ≡ pick w (poke_of (rom ++ ram) (offset_of e) at v) (rom ++ ram)
      go true w = rw (le-leb _ _ (s.in_ram w), ← n) (sym (poke_behind rom ram (offset_of e) at v (rw n (s.in_ram w)) (rw whole s.inside) k))
      go false w = refl

  -- AN ACCEPTED VIEW IS A PART OF ONE of the two buffers
  pub part_of_one : (e : ℕ) → Shows (layout_for b.bandai.cart) e → view_split b rom ram e ≡ part_in b rom ram e
  unfolding view_split
  part_of_one e s = rw h (part_joined e s)

  pub prg_part_of_one : (addr : ℕ) → prg_split b rom ram addr ≡ part_in b rom ram (prg_at b addr)
  prg_part_of_one addr = part_of_one (prg_at b addr) (prg_shown b (accepted_only b (length rom) (length ram) h).0 addr)

  pub chr_part_of_one : (addr : ℕ) → chr_split b rom ram addr ≡ part_in b rom ram (chr_at b addr)
  chr_part_of_one addr = part_of_one (chr_at b addr) (chr_shown b (accepted_only b (length rom) (length ram) h).0 addr)

  -- it equals the view of the two joined, and has 1,024 bytes
  pub prg_split_whole : (addr : ℕ) → (prg_split b rom ram addr ≡ prg_view b (rom ++ ram) addr) × (length (prg_split b rom ram addr) ≡ 1024)
  unfolding view_split
  prg_split_whole addr = rw h (refl, (prg_view_whole b (rom ++ ram) joined addr).1)

  pub chr_split_whole : (addr : ℕ) → (chr_split b rom ram addr ≡ chr_view b (rom ++ ram) addr) × (length (chr_split b rom ram addr) ≡ 1024)
  unfolding view_split
  chr_split_whole addr = rw h (refl, (chr_view_whole b (rom ++ ram) joined addr).1)

  -- a poke leaves what the poke of the two joined leaves
  pub prg_poke_joined : (addr v : ℕ) → prg_poke_split b rom ram addr v ≡ prg_poke b (rom ++ ram) addr v
  unfolding poke_split
  prg_poke_joined addr v = rw h refl

  pub chr_poke_joined : (addr v : ℕ) → chr_poke_split b rom ram addr v ≡ chr_poke b (rom ++ ram) addr v
  unfolding poke_split
  chr_poke_joined addr v = rw h refl

-- ANY TWO BUFFERS, accepted or not: what the code finds is what the definitions say
pick_same : {A : Type 0} (t : Bool) (x y z : A) → (t ≡ true → x ≡ y) → pick t x z ≡ pick t y z
pick_same true x y z f = f refl
pick_same false x y z f = refl

pick_behind : (t : Bool) (a x y z : List ℕ) → (t ≡ true → a ++ x ≡ z) → a ++ pick t x y ≡ pick t z (a ++ y)
pick_behind true a x y z f = f refl
pick_behind false a x y z f = refl

module _ (b : Board) (rom ram : List ℕ) where
  view_any : (e : ℕ) → (valid_board b ≡ true → Shows (layout_for b.bandai.cart) e) → part_split b rom ram e ≡ view_split b rom ram e
  unfolding view_split part_split
  view_any e s =
      pick_same (eqb (split_refusal b (length rom) (length ram)) 0) (part_in b rom ram e) (view_of b (rom ++ ram) e) []
      (λ t. let h = eqb-true (split_refusal b (length rom) (length ram)) 0 t in sym (part_joined b rom ram h e (s (accepted_only b (length rom) (length ram) h).0)))

  poke_any : (e at v : ℕ) → at < 1024 → (valid_board b ≡ true → Shows (layout_for b.bandai.cart) e) → rom ++ stored_split b (length rom) ram e at v ≡ poke_split b rom ram e at v
  unfolding stored_split poke_split
  poke_any e at v k s =
      pick_behind (eqb (split_refusal b (length rom) (length ram)) 0) rom _ ram (stored_in b (rom ++ ram) e at v)
      (λ t. let h = eqb-true (split_refusal b (length rom) (length ram)) 0 t in stored_joined b rom ram h e at v k (s (accepted_only b (length rom) (length ram) h).0))

  pub prg_part : (addr : ℕ) → part_split b rom ram (prg_at b addr) ≡ prg_split b rom ram addr
  prg_part addr = view_any (prg_at b addr) (λ v. prg_shown b v addr)

  pub chr_part : (addr : ℕ) → part_split b rom ram (chr_at b addr) ≡ chr_split b rom ram addr
  chr_part addr = view_any (chr_at b addr) (λ v. chr_shown b v addr)

  -- the store in the second buffer, whatever the first holds
  pub prg_stored_lem : (addr v : ℕ) → rom ++ prg_stored b (length rom) ram addr v ≡ prg_poke_split b rom ram addr v
  prg_stored_lem addr v = poke_any (prg_at b addr) (addr % 1024) v (omega arith) (λ t. prg_shown b t addr)

  pub chr_stored_lem : (addr v : ℕ) → rom ++ chr_stored b (length rom) ram addr v ≡ chr_poke_split b rom ram addr v
  chr_stored_lem addr v = poke_any (chr_at b addr) (addr % 1024) v (omega arith) (λ t. chr_shown b t addr)

  -- a poke on a read_only page leaves both buffers
  pub read_only : (e at v : ℕ) → writable_of e ≡ false → poke_split b rom ram e at v ≡ rom ++ ram
  unfolding poke_split stored_in
  read_only e at v w =
      pick_all (λ (l : List ℕ). l ≡ rom ++ ram) (eqb (split_refusal b (length rom) (length ram)) 0) _ (rom ++ ram)
      (λ t. pick_all (λ (l : List ℕ). l ≡ rom ++ ram) (eqb (view_refusal b (length (rom ++ ram))) 0) _ (rom ++ ram) (λ t. rw w refl) (λ t. refl))
      (λ t. refl)

-- AN IMAGE CUT at `ram_start` is accepted as two buffers where it is accepted whole, and is seen and poked alike
module _ (b : Board) (image : List ℕ) (h : view_refusal b (length image) ≡ 0) where
  pub cut_accepted : split_refusal b (length (take (rom_len b) image)) (length (drop (rom_len b) image)) ≡ 0
  cut_accepted =
      let a = accepted b (length image) h in
      let s = (board_laid b a.0).ram_upto in
      accepted_where b _ _ a.0 (length-take-le (rom_len b) image (rw a.1 s)) (length-drop (rom_len b) image ∙ ap (λ (k : ℕ). k - rom_len b) a.1)

  pub cut_view_lem : (e : ℕ) → view_split b (take (rom_len b) image) (drop (rom_len b) image) e ≡ view_of b image e
  unfolding view_split
  cut_view_lem e = rw (cut_accepted, take-append-drop (rom_len b) image) refl

  pub cut_poke_lem : (e at v : ℕ) → poke_split b (take (rom_len b) image) (drop (rom_len b) image) e at v ≡ stored_in b image e at v
  unfolding poke_split
  cut_poke_lem e at v = rw (cut_accepted, take-append-drop (rom_len b) image) refl
