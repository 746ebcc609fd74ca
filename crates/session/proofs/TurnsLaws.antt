-- The session as the code walks it is the session of crate runs by the board's rules. Assumes nothing.
use Rattle.std.specs.Prelude.{◌≡◌, refl, Bool, true, false, not, List, [], ◌∷◌, ℕ, suc, ◌+◌, ◌*◌, ◌/◌, ◌≤◌, ◌<◌, ◌^◌, length, replicate, set, take, drop, eqb, leb, ltb}
use borrow.Rule.Slice.PartMut.{put_mid}
use Rattle.std.proofs.Common.{append_assoc, drop-drop, take_all, sym, ◌∙◌, add-zero, zero-add, add_assoc, arith, length-set, eqb-true, leb-true, le-leb, ltb-true, ltb-false}
use Rattle.std.proofs.lemmas.List.Edits.{sets, sets-eq}
use Rattle.std.proofs.lemmas.Bool.{lt-leb}
use Rattle.laws.specs.Choice.{pick}
use Rattle.laws.proofs.ListsLaws.{sets_front}
use Rattle.runs.specs.Session.{refused_one, end_state, answer_bytes, refused_count, has_room, session_refused, session_run, session}
use Rattle.bandai_fcg.specs.declared.board.Board.{Board}
use Rattle.validity.specs.Valid.{valid_board}
use Rattle.event.specs.declared.Event.{Event}
use Rattle.event.specs.declared.Answer.{Answer}
use Rattle.event.specs.Event.{refusal_of, after_of, answer_of}
use Rattle.session.specs.Session.{Ended, board_rules, session_end}
use Rattle.session.specs.Turns.{too_short, refusal_for, begin_with, begin_of, turn_end, turn_buffer, turns_from, turns_taken, put_answer, answer_put, parts, CountsWithin}

-- three bytes in their order from the place on, the others as they were
put_is : put_answer (replicate 6 9) 2 (record { refusal = 7; flags = 8; value = 5 }) ≡ 9 ∷ 9 ∷ 7 ∷ 8 ∷ 5 ∷ 9 ∷ []
put_is = refl

-- the room, tested by a division that cannot overflow
room_test : (events bytes : ℕ) → too_short events bytes ≡ not (leb (3 * events) bytes)
room_test events bytes = go (ltb (bytes / 3) events) refl
  where
    go : (b : Bool) → ltb (bytes / 3) events ≡ b → b ≡ not (leb (3 * events) bytes)
    go true h = let k = ltb-true (bytes / 3) events h in rw (lt-leb (3 * events) bytes (omega arith)) refl
    go false h = let k = ltb-false (bytes / 3) events h in rw (le-leb (3 * events) bytes (omega arith)) refl

-- the first answer byte is the refusal
picked : (t : Bool) (r : ℕ) (a b : Answer) → (t ≡ true → r ≡ 0) → a.refusal ≡ 0 → b.refusal ≡ r → (pick t a b).refusal ≡ r
picked true r a b h p q = p ∙ sym (h refl)
picked false r a b h p q = q

pub answer_refusal : (e : Event) (b : Board) → (answer_of e b).refusal ≡ refusal_of e b.bandai
unfolding answer_of
answer_refusal e b = picked (eqb (refusal_of e b.bandai) 0) (refusal_of e b.bandai) _ _ (eqb-true (refusal_of e b.bandai) 0) refl refl

pub length_answers : (b : Board) (es : List Event) → length (answer_bytes board_rules b es) ≡ 3 * length es
unfolding answer_bytes board_rules
length_answers b [] = refl
length_answers b (e ∷ es) = rw (length_answers (after_of e b) es) (omega arith)

-- the turns from i on store the answers one after another, and end where the records end
pub turns_from_lem : (r : Ended) (i : ℕ) (buffer : List ℕ) (es : List Event) → ◌≡◌ {A = Ended × List ℕ} (turns_from r i buffer es)
    (record { board = end_state board_rules r.board es; records = r.records; refused = r.refused + refused_count board_rules r.board es; refusal = r.refusal }, sets buffer (3 * i) (answer_bytes board_rules r.board es))
unfolding turns_from turn_end turn_buffer end_state answer_bytes refused_count board_rules
turns_from_lem r i buffer [] = rw (add-zero r.refused) refl
turns_from_lem r i buffer (e ∷ es) =
    let one : 3 * i + 1 ≡ suc (3 * i) = omega arith in
    let two : 3 * i + 2 ≡ suc (suc (3 * i)) = omega arith in
    let three : 3 * suc i ≡ suc (suc (suc (3 * i))) = omega arith in
    turns_from_lem (turn_end r e) (suc i) (turn_buffer r e i buffer) es
    ∙ rw (answer_refusal e r.board, add_assoc r.refused (refused_one (refusal_of e r.board.bandai)) (refused_count board_rules (after_of e r.board) es), one, two, three) refl

pub session_by_turns : (b : Board) (es : List Event) (buffer : List ℕ) →
    turns_from (begin_of b (length es) (length buffer)) 0 buffer (turns_taken b es buffer) ≡ parts (session board_rules b es buffer)
unfolding begin_of turns_from session_end session board_rules
session_by_turns b es buffer = rw (room_test (length es) (length buffer)) (go (valid_board b) (has_room es buffer) refl)
  where
    number : Bool → Bool → ℕ
    number v room = pick v (pick (not room) 10 0) 12

    go : (v room : Bool) → has_room es buffer ≡ room → ◌≡◌ {A = Ended × List ℕ}
        (turns_from (begin_with (number v room) b (length es)) 0 buffer (pick (eqb (number v room) 0) es []))
        (parts (pick (not v) (session_refused 12 b buffer) (pick (not room) (session_refused 10 b buffer) (session_run board_rules b es buffer))))
    go false room h = refl
    go true false h = refl
    go true true h =
        let long = length_answers b es in
        let fits : length (answer_bytes board_rules b es) ≤ length buffer = rw long (leb-true _ _ h) in
        turns_from_lem (begin_with 0 b (length es)) 0 buffer es ∙ rw (zero-add (refused_count board_rules b es), sets_front buffer (answer_bytes board_rules b es) fits, long) refl

-- there is room for the answers of every turn
pub turns_room : (b : Board) (events bytes : ℕ) → 3 * (begin_of b events bytes).records ≤ bytes
unfolding begin_of
turns_room b events bytes = rw (room_test events bytes) (go (valid_board b) (leb (3 * events) bytes) refl)
  where
    go : (v room : Bool) → leb (3 * events) bytes ≡ room → 3 * pick (eqb (pick v (pick (not room) 10 0) 12) 0) events 0 ≤ bytes
    go false room h = omega arith
    go true false h = omega arith
    go true true h = leb-true _ _ h

-- there are as many turns as the session's records say
pub length_taken : (b : Board) (es : List Event) (buffer : List ℕ) → length (turns_taken b es buffer) ≡ (begin_of b (length es) (length buffer)).records
unfolding begin_of
length_taken b es buffer = go (eqb (refusal_for b (length es) (length buffer)) 0)
  where
    go : (t : Bool) → length (pick t es []) ≡ pick t (length es) 0
    go true = refl
    go false = refl

-- and they are so many of the events
pub records_taken : (b : Board) (es : List Event) (buffer : List ℕ) → take (begin_of b (length es) (length buffer)).records es ≡ turns_taken b es buffer
unfolding begin_of
records_taken b es buffer = go (eqb (refusal_for b (length es) (length buffer)) 0)
  where
    go : (t : Bool) → take (pick t (length es) 0) es ≡ pick t es []
    go true = take_all (length es) es (omega arith)
    go false = refl

-- with room the three bytes are put, and no store changes the buffer's length
pub put_room : (buffer : List ℕ) (at : ℕ) (a : Answer) → at + 3 ≤ length buffer → answer_put buffer at a ≡ put_answer buffer at a
put_room buffer at a h = rw (le-leb _ _ h) refl

-- three numbers copied to a place of a list are put there one by one
pub three_copied : (l : List ℕ) (at k x y z : ℕ) → k ≡ 3 → at + 3 ≤ length l → put_mid at k l (x ∷ y ∷ z ∷ []) ≡ set (set (set l at x) (at + 1) y) (at + 2) z
three_copied l at k x y z e h =
    let one : suc at ≡ at + 1 = omega arith in
    let two : suc (at + 1) ≡ at + 2 = omega arith in
    let three = x ∷ y ∷ z ∷ [] in
    rw (e, drop-drop) (sym (append_assoc (take at l) three (drop (at + 3) l)) ∙ sym (sets-eq three l at h) ∙ rw (one, two) refl)

pub length_put : (at : ℕ) (l : List ℕ) (a : Answer) → length (put_answer l at a) ≡ length l
length_put at l a =
    length-set (set (set l at a.refusal) (at + 1) a.flags) (at + 2) a.value ∙ length-set (set l at a.refusal) (at + 1) a.flags ∙ length-set l at a.refusal

-- a turn counts one record at most
pub refused_one_lem : (refusal : ℕ) → refused_one refusal ≤ 1
refused_one_lem refusal = go (eqb refusal 0)
  where
    go : (t : Bool) → pick t 0 1 ≤ 1
    go true = omega arith
    go false = omega arith

-- so what was counted is within the turns: none before the first, and one turn more after each; and one more can be counted
pub begin_counts : (b : Board) (events bytes : ℕ) → CountsWithin (begin_of b events bytes) 0
unfolding CountsWithin begin_of
begin_counts b events bytes = omega arith

pub counts_fit : (r : Ended) (i k : ℕ) → CountsWithin r i → k ≤ 1 → i + 1 < 2 ^ 64 → r.refused + k < 2 ^ 64
unfolding CountsWithin
counts_fit r i k h small fits = omega arith

pub turn_counts : (r : Ended) (e : Event) (i : ℕ) → CountsWithin r i → CountsWithin (turn_end r e) (i + 1)
unfolding CountsWithin turn_end
turn_counts r e i h = omega (arith, h, refused_one_lem (answer_of e r.board).refusal)
