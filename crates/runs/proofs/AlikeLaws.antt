-- Lists that differ only in fields which clocks do not name: both runs take them alike. So a joined list is fed as one alike to the list that it was joined from; and every
-- list is joined from what it is fed as.
-- A reader may skip them. Assumes nothing but the machine's Laws, where a section says so.
use Rattle.std.specs.Prelude.{◌≡◌, Bool, length, replicate}
use Rattle.std.proofs.Math.Path.{refl, sym}
use Rattle.std.proofs.Common.{◌∙◌, arith}
use Prim.Native.Nat.{ℕ, zero, suc}
use Rattle.std.proofs.Math.Bool.{true, false}
use mathlib.Core.List.{List, [], ◌∷◌, ◌++◌}
use Rattle.std.proofs.lemmas.List.{length-replicate}
use Rattle.laws.specs.Choice.{pick}
use Rattle.laws.specs.Lists.{Each}
use Rattle.laws.proofs.ListsLaws.{each_right, each_replicate}
use Rattle.runs.specs.Machine.{Machine}
use Rattle.runs.proofs.Laws.{Laws}
use Rattle.runs.specs.Stepwise.{Stepwise, is_counted, feed, stepwise}
use Rattle.runs.specs.Claim.{NoClocksRefused, others}
use Rattle.runs.specs.Ways.{SingleClocks, OneClock, Joined, none, kept, joined}
use Rattle.runs.proofs.FeedLaws.{counted_false, counted_true, counted_clocks, counted_count}

module _ {State Event : Type 0} (M : Machine State Event) where
  open M.rules use {is_clocks, count, single, step}

  -- the same records in order, but that clocks of one count may differ elsewhere
  pub data Alike : List Event → List Event → Type 0 where
    end : Alike [] []
    same : (e : Event) {es fs : List Event} → Alike es fs → Alike (e ∷ es) (e ∷ fs)
    clocks : (e f : Event) {es fs : List Event} → is_clocks e ≡ true → is_clocks f ≡ true → count e ≡ count f → Alike es fs → Alike (e ∷ es) (f ∷ fs)

  -- what two runs have in common
  pub record RunAlike (a b : Stepwise State Event) : Type 0 where
    pub refused_alike : NoClocksRefused M a.log → NoClocksRefused M b.log
    pub same_others : others M a.log ≡ others M b.log
    pub same_end : a.end ≡ b.end

  -- nothing need be joined
  pub joined_nowhere : (es : List Event) → Joined M es es
  joined_nowhere [] = none
  joined_nowhere (e ∷ es) = kept e (joined_nowhere es)

  module _ (Good : State → Type 0) (Typed : Event → Type 0) (L : Laws M Good Typed) where
    open L use {single_clocks, single_count, clocks_alike}

    -- single clocks, however many, against as many cut from one record
    pub alike_pieces : (e : Event) → is_clocks e ≡ true → (n : ℕ) (ps : List Event) {es fs : List Event} → length ps ≡ n → Each (OneClock M) ps → Alike es fs → Alike (ps ++ es) (replicate n (single e) ++ fs)
    unfolding Each
    alike_pieces e c zero [] h t a = a
    alike_pieces e c zero (p ∷ ps) h t a = absurd (omega arith)
    alike_pieces e c (suc n) [] h t a = absurd (omega arith)
    alike_pieces e c (suc n) (p ∷ ps) h t a =
        clocks p (single e) t.0.clocks (single_clocks e c) (t.0.one ∙ sym (single_count e c)) (alike_pieces e c n ps (omega arith) t.1 a)

    -- a joined list is fed as a list alike to the one that it was joined from
    pub joined_alike : {es fs : List Event} → Joined M es fs → SingleClocks M es → Alike es (feed M fs)
    unfolding Each feed
    joined_alike none h = end
    joined_alike (kept e j) h = rw (counted_false M e h.0) (same e (joined_alike j h.1))
    joined_alike (joined e ps c k n t j) h = rw (counted_true M e c k) (alike_pieces e c (count e) ps n t (joined_alike j (each_right _ ps _ h)))

    pub alike_runs : {es fs : List Event} → Alike es fs → (s : State) → RunAlike (stepwise M s es) (stepwise M s fs)
    unfolding stepwise NoClocksRefused Each others
    alike_runs end s = record { refused_alike = λ h. h; same_others = refl; same_end = refl }
    alike_runs (same e a) s =
        let r = alike_runs a (step s e) in
        record { refused_alike = λ h. (h.0, r.refused_alike h.1); same_others = rw r.same_others refl; same_end = r.same_end }
    alike_runs (clocks e f ce cf n a) s =
        let both = clocks_alike s e f ce cf n in
        let r = alike_runs a (step s f) in
        record {
          refused_alike = λ h. (λ _. sym both.0 ∙ h.0 ce, r.refused_alike (rw both.1 at h.1));
          same_others = rw (ce, cf, both.1) r.same_others;
          same_end = rw (both.1, stepwise) r.same_end;
        }

    -- every list is joined from what it is fed as
    pub joined_of_feed : (es : List Event) → Joined M (feed M es) es
    unfolding feed
    joined_of_feed [] = none
    joined_of_feed (e ∷ es) = go (is_counted M e) refl (joined_of_feed es)
      where
        go : (b : Bool) → is_counted M e ≡ b → Joined M (feed M es) es → Joined M (pick b (replicate (count e) (single e)) (e ∷ []) ++ feed M es) (e ∷ es)
        go true m j =
            let c = counted_clocks M e m in
            joined e (replicate (count e) (single e)) c (counted_count M e m) (length-replicate (count e) (single e))
            (each_replicate _ (count e) (single e) (record { clocks = single_clocks e c; one = single_count e c })) j
        go false m j = kept e j
