-- Laws of clocks: counts n and m in turn act as n + m; a count of n is accepted exactly if n single clocks are, and leads where they lead.
-- Assumes nothing.
use Rattle.std.specs.Prelude.{◌≡◌, refl, Bool, true, false, ℕ, zero, suc, ◌+◌, ◌≤◌}
use Rattle.std.proofs.Common.{sym, ◌∙◌, add-zero, arith, le-ltb}
use Rattle.std.proofs.Math.Bool.{and-false}
use Rattle.laws.proofs.ChoiceLaws.{never_both}
use Rattle.bandai_fcg.specs.declared.board.BandaiFCG.{BandaiFCG}
use Rattle.bandai_fcg.specs.declared.board.Board.{Board}
use Rattle.bandai_fcg.specs.BoardSet.{with_bandai}
use Rattle.bandai_fcg.specs.Board.{tick, ticks}
use Rattle.bandai_fcg.proofs.BoardLaws.{ticks_add}
use Rattle.validity.specs.Valid.{clock_limit}
use Rattle.event.specs.declared.Event.{Event}
use Rattle.event.specs.Event.{clocks_refusal, refusal_of, applied, after_of}
use Rattle.event.proofs.EventLaws.{clocks_within, accepted_applies}

-- a clocks record: its refusal, and the board after it
pub clocks_refusal_lem : (e : Event) (b : BandaiFCG) → e.kind ≡ 2 → refusal_of e b ≡ clocks_refusal b.has_barcode_reader b.barcode_reader.master_clock e.count
unfolding refusal_of
clocks_refusal_lem e b k = rw k refl

pub clocks_after : (e : Event) (b : Board) → e.kind ≡ 2 → refusal_of e b.bandai ≡ 0 → after_of e b ≡ with_bandai (ticks e.count b.bandai) b
unfolding applied
clocks_after e b k ok = accepted_applies e b ok ∙ rw k refl

-- counts n and m in turn act as n + m
pub two_counts : (n m : ℕ) (b : BandaiFCG) → ticks m (ticks n b) ≡ ticks (n + m) b
two_counts n m b = sym (ticks_add n m b)

-- n single clocks are accepted, one after the other
unfoldable pub Singles : ℕ → BandaiFCG → Type 0
Singles zero b = Unit {0}
Singles (suc n) b = (clocks_refusal b.has_barcode_reader b.barcode_reader.master_clock 1 ≡ 0) × Singles n (tick b)

-- a count is accepted if it has room, and has room if it is accepted (EventLaws)
room_accepted : (n : ℕ) (b : BandaiFCG) (has : Bool) → b.has_barcode_reader ≡ has → (b.has_barcode_reader ≡ true → b.barcode_reader.master_clock + n ≤ clock_limit) → clocks_refusal b.has_barcode_reader b.barcode_reader.master_clock n ≡ 0
room_accepted n b true e h = rw (le-ltb clock_limit (b.barcode_reader.master_clock + n) (h e), and-false b.has_barcode_reader) refl
room_accepted n b false e h = rw e refl

-- a tick within the limit is one clock more, and takes or leaves no reader
pub record Ticked (b : BandaiFCG) : Type 0 where
  pub has : (tick b).has_barcode_reader ≡ b.has_barcode_reader
  pub clock : b.has_barcode_reader ≡ true → b.barcode_reader.master_clock + 1 ≤ clock_limit → (tick b).barcode_reader.master_clock ≡ b.barcode_reader.master_clock + 1

pub ticked : (b : BandaiFCG) → Ticked b
unfolding tick
ticked b = go b.has_barcode_reader refl
  where
    go : (has : Bool) → b.has_barcode_reader ≡ has → Ticked b
    go true e = record { has = rw e refl; clock = λ _ l. rw e (omega arith) }
    go false e = record { has = rw e refl; clock = λ t l. absurd (never_both b.has_barcode_reader t e) }

-- n single clocks that are accepted leave room for the count n
pub singles_room : (n : ℕ) (b : BandaiFCG) → (b.has_barcode_reader ≡ true → b.barcode_reader.master_clock ≤ clock_limit) → Singles n b →
    b.has_barcode_reader ≡ true → b.barcode_reader.master_clock + n ≤ clock_limit
unfolding Singles
singles_room zero b l s e = rw add-zero (l e)
singles_room (suc n) b l s e =
    let one = clocks_within 1 b s.0 e in
    let t = ticked b in
    let c = t.clock e one in
    let r = singles_room n (tick b) (λ _. rw c one) s.1 (t.has ∙ e) in
    omega (arith, (rw c at r))

pub singles_count : (n : ℕ) (b : BandaiFCG) → (b.has_barcode_reader ≡ true → b.barcode_reader.master_clock ≤ clock_limit) → Singles n b → clocks_refusal b.has_barcode_reader b.barcode_reader.master_clock n ≡ 0
singles_count n b l s = room_accepted n b b.has_barcode_reader refl (singles_room n b l s)

-- and a count that is accepted lets n single clocks through
pub count_singles : (n : ℕ) (b : BandaiFCG) → clocks_refusal b.has_barcode_reader b.barcode_reader.master_clock n ≡ 0 → Singles n b
unfolding Singles
count_singles zero b h = tt
count_singles (suc n) b h =
    let within = clocks_within (suc n) b h in
    let one : clocks_refusal b.has_barcode_reader b.barcode_reader.master_clock 1 ≡ 0 = room_accepted 1 b b.has_barcode_reader refl (λ e. omega (arith, within e)) in
    let t = ticked b in (
      one,
      count_singles n (tick b) (room_accepted n (tick b) (tick b).has_barcode_reader refl
          (λ e. let d = sym t.has ∙ e in let w = within d in rw (t.clock d (omega (arith, w))) (omega (arith, w)))),
    )
