-- Laws of the feed: what it does to one record, lists whose clocks are single, and that the stepwise run of the feed agrees with that of the records.
-- Lists that were joined are in AlikeLaws.
-- A reader may skip them. Assumes nothing but the machine's Laws, where a section says so.
use Rattle.std.specs.Prelude.{◌≡◌, ◌+◌, ◌≤◌, ◌<◌, Bool, ◌&&◌, ltb}
use Rattle.std.proofs.Math.Path.{refl, sym}
use Rattle.std.proofs.Common.{◌∙◌, ltb-true, ltb-false, lt-ltb, le-ltb}
use native.Mathlib.Omega.{arith}
use Rattle.std.proofs.Math.Bool.{true, false}
use mathlib.Core.List.{List, [], ◌∷◌, ◌++◌, append_assoc}
use Rattle.std.proofs.Math.ListN.{replicate}
use Rattle.std.proofs.lemmas.List.{replicate-append-replicate}
use Rattle.laws.specs.Choice.{pick}
use Rattle.laws.proofs.ChoiceLaws.{both_true, true_both}
use Rattle.laws.specs.Lists.{Each}
use Rattle.laws.proofs.ListsLaws.{each_append, each_left, each_right, each_replicate}
use Rattle.runs.specs.Machine.{Machine}
use Rattle.runs.proofs.Laws.{Laws}
use Rattle.runs.specs.Stepwise.{is_counted, feed_one, feed, stepwise}
use Rattle.runs.specs.Claim.{NoClocksRefused, others, Agrees}
use Rattle.runs.specs.Ways.{SingleClocks}
use Rattle.runs.proofs.StepwiseLaws.{end_append, log_append, others_append, clocks_accepted, clocks_end, clocks_others}

module _ {State Event : Type 0} (M : Machine State Event) where
  open M.rules use {is_clocks, count, single, step}

  -- what the feed's test says
  pub counted_false : (e : Event) → (is_clocks e ≡ true → count e ≤ 1) → is_counted M e ≡ false
  counted_false e h = go (is_clocks e) refl
    where
      go : (b : Bool) → is_clocks e ≡ b → (b && ltb 1 (count e)) ≡ false
      go true c = le-ltb 1 (count e) (h c)
      go false c = refl

  pub counted_true : (e : Event) → is_clocks e ≡ true → 1 < count e → is_counted M e ≡ true
  counted_true e c k = true_both (is_clocks e) (ltb 1 (count e)) c (lt-ltb 1 (count e) k)

  pub counted_clocks : (e : Event) → is_counted M e ≡ true → is_clocks e ≡ true
  counted_clocks e m = (both_true (is_clocks e) (ltb 1 (count e)) m).0

  pub counted_count : (e : Event) → is_counted M e ≡ true → 1 < count e
  counted_count e m = ltb-true 1 (count e) (both_true (is_clocks e) (ltb 1 (count e)) m).1

  uncounted_count : (e : Event) → is_counted M e ≡ false → is_clocks e ≡ true → count e ≤ 1
  uncounted_count e m c = ltb-false 1 (count e) (sym (rw c refl) ∙ m)

  pub feed_append : (es fs : List Event) → feed M (es ++ fs) ≡ feed M es ++ feed M fs
  unfolding feed
  feed_append [] fs = refl
  feed_append (e ∷ es) fs = rw (feed_append es fs) (sym (append_assoc (feed_one M e) (feed M es) (feed M fs)))

  -- a list whose clocks are single is fed as it stands
  pub feed_of_single : (es : List Event) → SingleClocks M es → feed M es ≡ es
  unfolding Each feed
  feed_of_single [] h = refl
  feed_of_single (e ∷ es) h = rw (feed_of_single es h.1, counted_false e h.0) refl

  -- a record at the head that both runs take alike
  agrees_cons : (e : Event) (s : State) (es fs : List Event) → NoClocksRefused M (stepwise M s (e ∷ fs)).log →
      (NoClocksRefused M (stepwise M (step s e) fs).log → Agrees M (stepwise M (step s e) es).log (stepwise M (step s e) es).end (stepwise M (step s e) fs)) →
      Agrees M (stepwise M s (e ∷ es)).log (stepwise M s (e ∷ es)).end (stepwise M s (e ∷ fs))
  unfolding stepwise NoClocksRefused Each others
  agrees_cons e s es fs h ih =
      let a = ih h.1 in
      record { no_clocks_refused = (h.0, a.no_clocks_refused); same_others = rw a.same_others refl; same_end = a.same_end }

  module _ (Good : State → Type 0) (Typed : Event → Type 0) (L : Laws M Good Typed) where
    open L use {single_clocks, single_count, counted}

    -- whatever is fed has single clocks
    pub feed_single : (es : List Event) → SingleClocks M (feed M es)
    unfolding Each feed
    feed_single [] = tt
    feed_single (e ∷ es) = each_append _ (feed_one M e) (feed M es) (go (is_counted M e) refl) (feed_single es)
      where
        go : (b : Bool) → is_counted M e ≡ b → SingleClocks M (pick b (replicate (count e) (single e)) (e ∷ []))
        go true m = each_replicate _ (count e) (single e) (λ _. rw (single_count e (counted_clocks e m)) (omega arith))
        go false m = (uncounted_count e m, tt)

    -- a counted clocks record at the head of the one run, its single clocks at the head of the other
    agrees_counted : (e : Event) (s : State) (es fs : List Event) → Good s → Typed e → is_clocks e ≡ true → 1 < count e →
        NoClocksRefused M (stepwise M s (replicate (count e) (single e) ++ fs)).log →
        (NoClocksRefused M (stepwise M (step s e) fs).log → Agrees M (stepwise M (step s e) es).log (stepwise M (step s e) es).end (stepwise M (step s e) fs)) →
        Agrees M (stepwise M s (e ∷ es)).log (stepwise M s (e ∷ es)).end (stepwise M s (replicate (count e) (single e) ++ fs))
    unfolding stepwise NoClocksRefused Each others
    agrees_counted e s es fs g t c k h ih =
        let clocks = replicate (count e) (single e) in
        let here = single_clocks e c in
        let split : NoClocksRefused M ((stepwise M s clocks).log ++ (stepwise M (stepwise M s clocks).end fs).log) = rw (log_append M s clocks fs) at h in
        let one = counted s e g t c k (clocks_accepted M (count e) s (single e) here (each_left _ (stepwise M s clocks).log _ split)) in
        let meet : (stepwise M s clocks).end ≡ step s e = clocks_end M (count e) s (single e) ∙ sym one.1 in
        let rest : NoClocksRefused M (stepwise M (step s e) fs).log = rw meet at (each_right _ (stepwise M s clocks).log _ split) in
        let a = ih rest in
        record {
          no_clocks_refused = (λ _. one.0, a.no_clocks_refused);
          same_others = rw (log_append M s clocks fs, others_append M, clocks_others M (count e) s (single e) here, meet, c) a.same_others;
          same_end = rw (end_append M s clocks fs, meet) a.same_end;
        }

    -- the stepwise run of the feed, and that of the records with their counts
    pub feed_agrees : (s : State) (es : List Event) → Good s → Each Typed es → NoClocksRefused M (stepwise M s (feed M es)).log →
        Agrees M (stepwise M s es).log (stepwise M s es).end (stepwise M s (feed M es))
    unfolding feed stepwise Each NoClocksRefused others
    feed_agrees s [] g t h = record { no_clocks_refused = tt; same_others = refl; same_end = refl }
    feed_agrees s (e ∷ es) g t h = go (is_counted M e) refl h (feed_agrees (step s e) es (L.kept s e g t.0) t.1)
      where
        go : (b : Bool) → is_counted M e ≡ b → NoClocksRefused M (stepwise M s (pick b (replicate (count e) (single e)) (e ∷ []) ++ feed M es)).log →
            (NoClocksRefused M (stepwise M (step s e) (feed M es)).log → Agrees M (stepwise M (step s e) es).log (stepwise M (step s e) es).end (stepwise M (step s e) (feed M es))) →
            Agrees M (stepwise M s (e ∷ es)).log (stepwise M s (e ∷ es)).end (stepwise M s (pick b (replicate (count e) (single e)) (e ∷ []) ++ feed M es))
        go true m h ih = agrees_counted e s es (feed M es) g t.0 (counted_clocks e m) (counted_count e m) h ih
        go false m h ih = agrees_cons e s es (feed M es) h ih

  -- two neighbouring clocks records that differ in their counts alone, n and m above 0, are fed as the one of count n + m is.
  -- `own`: a clocks record of count 1 is its own single clock
  module _ (own : (e : Event) → is_clocks e ≡ true → count e ≡ 1 → single e ≡ e) where
    feed_clocks : (e : Event) → is_clocks e ≡ true → 0 < count e → feed_one M e ≡ replicate (count e) (single e)
    feed_clocks e c k = go (is_counted M e) refl
      where
        go : (b : Bool) → is_counted M e ≡ b → pick b (replicate (count e) (single e)) (e ∷ []) ≡ replicate (count e) (single e)
        go true m = refl
        go false m =
            let z = uncounted_count e m c in
            let n : count e ≡ 1 = omega arith in
            rw (own e c n, n) refl

    pub feed_two_clocks : (e f both : Event) (es fs : List Event) → is_clocks e ≡ true → is_clocks f ≡ true → is_clocks both ≡ true →
        0 < count e → 0 < count f → count both ≡ count e + count f → single e ≡ single both → single f ≡ single both →
        feed M (es ++ e ∷ f ∷ fs) ≡ feed M (es ++ both ∷ fs)
    unfolding feed
    feed_two_clocks e f both es fs ce cf cb ke kf n le lf =
        let k : 0 < count both = omega arith in
        let join : replicate (count e) (single both) ++ (replicate (count f) (single both) ++ feed M fs) ≡ replicate (count e + count f) (single both) ++ feed M fs =
        sym (append_assoc (replicate (count e) (single both)) (replicate (count f) (single both)) (feed M fs)) ∙ rw (replicate-append-replicate (count e) (count f) (single both)) in
        rw (feed_append es (e ∷ f ∷ fs), feed_append es (both ∷ fs), feed_clocks e ce ke, feed_clocks f cf kf, feed_clocks both cb k, n, le, lf, join) refl
