-- The seven laws that crate runs asks of a machine, at the board: `board_laws`. `Good` (validity/specs/Good): typed and valid.
-- Assumes nothing.
use Rattle.std.specs.Prelude.{◌≡◌, true, leb, eqb}
use Rattle.std.proofs.Math.Path.{refl}
use Rattle.std.proofs.Common.{sym, ap, ◌∙◌, eqb-true, leb-true}
use Prim.Native.Nat.{ℕ, zero, suc, ◌≤◌}
use Rattle.laws.specs.Choice.{pick}
use Rattle.laws.proofs.ChoiceLaws.{both_true}
use Rattle.runs.proofs.Laws.{times, Accepts, Laws}
use Rattle.bandai_fcg.specs.declared.board.BandaiFCG.{BandaiFCG}
use Rattle.bandai_fcg.specs.declared.board.Board.{Board}
use Rattle.bandai_fcg.specs.BoardSet.{with_bandai}
use Rattle.bandai_fcg.specs.Board.{tick, ticks}
use Rattle.validity.specs.Valid.{clock_limit}
use Rattle.validity.specs.Good.{Good}
use Rattle.validity.specs.ValidLaws.{reader_on, valid_parts}
use Rattle.event.specs.declared.Event.{Event}
use Rattle.event.specs.Event.{clocks_refusal, refusal_of, applied, after_of}
use Rattle.event.proofs.EventLaws.{after_good}
use Rattle.event.specs.EventWords.{TypedEvent}
use Rattle.event.proofs.ClockLaws.{clocks_refusal_lem, clocks_after, Singles, singles_count}
use Rattle.session.specs.Session.{single_of, board_rules}
use Rattle.state_file.specs.StateFile.{board_file}
use Rattle.state_file.proofs.StateFileLaws.{read_back_lem as file-read-back}
use Rattle.equivalence.specs.BoardMachine.{machine}

-- a good board's reader has not passed the limit
within_limit : (b : Board) → Good b → b.bandai.has_barcode_reader ≡ true → b.bandai.barcode_reader.master_clock ≤ clock_limit
within_limit b g e =
    let r = b.bandai.barcode_reader in
    let d = both_true _ (leb r.module_count 160) (reader_on b (valid_parts b g.valid).reader e).valid in
    let c = both_true _ (leb r.new_barcode_digit_count 20) d.0 in
    let a = both_true (leb r.insert_cycle r.master_clock) (leb r.master_clock clock_limit) c.0 in
    leb-true r.master_clock clock_limit a.1

one_tick : (s : BandaiFCG) → ticks 1 s ≡ tick s
unfolding ticks
one_tick s = refl

-- single clocks that are accepted one after the other
module _ (one : Event) (clocks : one.kind ≡ 2) (is_one : one.count ≡ 1) where
  accepted_one : (b : Board) → refusal_of one b.bandai ≡ 0 → (clocks_refusal b.bandai.has_barcode_reader b.bandai.barcode_reader.master_clock 1 ≡ 0) × (after_of one b ≡ with_bandai (tick b.bandai) b)
  accepted_one b h = (
    rw is_one at (sym (clocks_refusal_lem one b.bandai clocks) ∙ h),
    clocks_after one b clocks h ∙ ap (λ (n : ℕ). with_bandai (ticks n b.bandai) b) is_one ∙ ap (λ (s : BandaiFCG). with_bandai s b) (one_tick b.bandai),
  )

  singles : (n : ℕ) (b : Board) → Accepts machine n b one → Singles n b.bandai
  unfolding Accepts Singles board_rules
  singles zero b a = tt
  singles (suc n) b a = let p = accepted_one b a.0 in (p.0, singles n (with_bandai (tick b.bandai) b) (rw p.1 at a.1))

  times_ticks : (n : ℕ) (b : Board) → Accepts machine n b one → times machine n b one ≡ with_bandai (ticks n b.bandai) b
  unfolding Accepts times ticks board_rules
  times_ticks zero b a = refl
  times_ticks (suc n) b a = let p = accepted_one b a.0 in rw p.1 (times_ticks n (with_bandai (tick b.bandai) b) (rw p.1 at a.1))

-- a clocks record is so many ticks, or nothing where it is refused
clocks_step : (e : Event) (b : Board) → e.kind ≡ 2 → after_of e b ≡ pick (eqb (clocks_refusal b.bandai.has_barcode_reader b.bandai.barcode_reader.master_clock e.count) 0) (with_bandai (ticks e.count b.bandai) b) b
unfolding after_of applied
clocks_step e b k = rw (clocks_refusal_lem e b.bandai k, k) refl

-- n clocks one by one are accepted: then the count is, and leads where they lead
counted : (b : Board) (e : Event) → Good b → e.kind ≡ 2 → Accepts machine e.count b (single_of e) →
    (refusal_of e b.bandai ≡ 0) × (after_of e b ≡ times machine e.count b (single_of e))
counted b e g k a =
    let s = singles (single_of e) k refl e.count b a in
    let ok = clocks_refusal_lem e b.bandai k ∙ singles_count e.count b.bandai (within_limit b g) s in
    (ok, clocks_after e b k ok ∙ sym (times_ticks (single_of e) k refl e.count b a))

-- a clocks record's refusal, and the board after it, depend on its count alone
clocks_alike : (b : Board) (e f : Event) → e.kind ≡ 2 → f.kind ≡ 2 → e.count ≡ f.count → (refusal_of e b.bandai ≡ refusal_of f b.bandai) × (after_of e b ≡ after_of f b)
clocks_alike b e f ke kf n = (clocks_refusal_lem e b.bandai ke ∙ rw n (sym (clocks_refusal_lem f b.bandai kf)), clocks_step e b ke ∙ rw n (sym (clocks_step f b kf)))

pub board_laws : Laws machine Good TypedEvent
unfolding board_rules board_file
board_laws = record {
  good_valid = λ b g. g.valid;
  kept = λ b e g t. after_good e b t g;
  single_clocks = λ e h. h;
  single_count = λ e h. refl;
  clocks_alike = λ b e f ce cf n. clocks_alike b e f (eqb-true e.kind 2 ce) (eqb-true f.kind 2 cf) n;
  counted = λ b e g t c h a. counted b e g (eqb-true e.kind 2 c) a;
  read_back_lem = λ b g. rw (file-read-back b g.typed g.valid) refl;
}
