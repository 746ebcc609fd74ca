-- Laws of the registers: what counted clocks come to, and that counts add up.
-- Assumes nothing.
use Rattle.std.specs.Prelude.{◌≡◌, ℕ, zero, suc, ◌%◌, ◌<◌, Bool, true, false, ◌||◌, ◌==◌, nat_lt}
use Rattle.std.proofs.Math.Path.{refl}
use Rattle.std.proofs.Common.{◌∙◌, arith, lt-ltb, le-ltb, ltb-true, ne_eqb}
use Rattle.std.proofs.Math.Bool.{or-false}
use Rattle.laws.specs.Choice.{pick}
use Rattle.laws.proofs.ChoiceLaws.{test_same}
use Rattle.laws.proofs.WrapsLaws.{down_suc}
use Rattle.regs.specs.declared.Regs.{Regs}
use Rattle.regs.specs.RegsSet.{with_irq}
use Rattle.regs.specs.Regs.{step_down, tick_regs, ticks_regs}

-- n clocks at once
abbrev pub counted_regs : ℕ → Regs → Regs
counted_regs n r =
    pick r.irq_enabled (with_irq (step_down r.irq_counter (n % 65536)) (r.irq_pending || nat_lt r.irq_counter n) r) r

-- a counter that finds 0 within suc n clocks finds it at the first or within the n after it
found_zero : (p : Bool) (a n : ℕ) → a < 65536 → ((p || a == 0) || nat_lt (step_down a 1) n) ≡ (p || nat_lt a (suc n))
found_zero true a n h = refl
found_zero false zero n h = rw (lt-ltb 0 (suc n) (omega arith)) refl
found_zero false (suc a) n h =
    let e : step_down (suc a) 1 ≡ a = omega arith in
    rw (ne_eqb (suc a) 0 (λ e. omega arith), e) (test_same (nat_lt a n) (nat_lt (suc a) (suc n)) (λ t. lt-ltb (suc a) (suc n) (omega (arith, ltb-true a n t))) (λ t. lt-ltb a n (omega (arith, ltb-true (suc a) (suc n) t))))

module _ (r : Regs) (fits : r.irq_counter < 65536) where
  counted_none : (on : Bool) → r.irq_enabled ≡ on →
      r ≡ pick on (with_irq (step_down r.irq_counter (0 % 65536)) (r.irq_pending || nat_lt r.irq_counter 0) r) r
  counted_none false e = refl
  counted_none true e =
      let d : step_down r.irq_counter (0 % 65536) ≡ r.irq_counter = omega arith in
      rw (d, le-ltb r.irq_counter 0 (omega arith), or-false r.irq_pending) refl

  counted_more : (n : ℕ) (on : Bool) → r.irq_enabled ≡ on → counted_regs n (tick_regs r) ≡ counted_regs (suc n) r
  unfolding tick_regs
  counted_more n false e = rw e refl
  counted_more n true e =
      let d : step_down (step_down r.irq_counter 1) (n % 65536) ≡ step_down r.irq_counter (suc n % 65536) = down_suc r.irq_counter n fits in
      rw (e, d, found_zero r.irq_pending r.irq_counter n fits) refl

tick_fits : (r : Regs) → r.irq_counter < 65536 → (tick_regs r).irq_counter < 65536
unfolding tick_regs
tick_fits r h = go r.irq_enabled
  where
    go : (on : Bool) → (pick on (with_irq (step_down r.irq_counter 1) (r.irq_pending || r.irq_counter == 0) r) r).irq_counter < 65536
    go true = omega arith
    go false = h

-- n clocks one by one are n clocks at once, for a counter of 16 bits
pub counted_regs_lem : (n : ℕ) (r : Regs) → r.irq_counter < 65536 → ticks_regs n r ≡ counted_regs n r
unfolding ticks_regs
counted_regs_lem zero r h = counted_none r h r.irq_enabled refl
counted_regs_lem (suc n) r h = counted_regs_lem n (tick_regs r) (tick_fits r h) ∙ counted_more r h n r.irq_enabled refl
