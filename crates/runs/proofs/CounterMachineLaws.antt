-- The small machine has the laws. Assumes nothing.
use Rattle.std.specs.Prelude.{◌≡◌, Bool, true, false, List, ◌∷◌, ◌++◌, leb, eqb}
use Rattle.std.proofs.Math.Path.{refl, ap}
use Rattle.std.proofs.Common.{sym, ◌∙◌, add-zero, leb-true, le-leb, eqb-true}
use Prim.Native.Nat.{ℕ, zero, suc, ◌+◌, ◌-◌, ◌*◌, ◌/◌, ◌%◌, ◌≤◌, ◌<◌}
use native.Mathlib.Omega.{arith}
use Rattle.laws.specs.Choice.{pick}
use Rattle.laws.proofs.ChoiceLaws.{pick_all}
use Rattle.runs.proofs.Laws.{Laws, Accepts, times}
use Rattle.runs.specs.Stepwise.{feed}
use Rattle.runs.proofs.FeedLaws.{feed_two_clocks}
use Rattle.runs.specs.CounterMachine.{Counter, CounterEvent, is_clocks, single, refusal, down, tick, ticks, written, apply, step, encode, read, counter_machine}

-- typed and valid
pub record Good (s : Counter) : Type 0 where
  pub counter_byte : s.counter < 256
  pub register_byte : s.register < 256
  pub clock_limit_lem : s.clock ≤ 1000

abbrev pub Typed : CounterEvent → Type 0
Typed e = e.value < 256

down_byte : (n : ℕ) → n < 256 → down n < 256
down_byte zero h = omega arith
down_byte (suc n) h = omega arith

ticks_clock : (n : ℕ) (s : Counter) → (ticks n s).clock ≡ s.clock + n
unfolding ticks
ticks_clock zero s = sym (add-zero s.clock)
ticks_clock (suc n) s = ticks_clock n (tick s) ∙ omega arith

ticks_register : (n : ℕ) (s : Counter) → (ticks n s).register ≡ s.register
unfolding ticks
ticks_register zero s = refl
ticks_register (suc n) s = ticks_register n (tick s)

ticks_byte : (n : ℕ) (s : Counter) → s.counter < 256 → (ticks n s).counter < 256
unfolding ticks
ticks_byte zero s h = h
ticks_byte (suc n) s h = ticks_byte n (tick s) (down_byte s.counter h)

-- a clocks record is accepted exactly if the clock has room for its count, and then is so many ticks
accepts_room : (s : Counter) (e : CounterEvent) → is_clocks e ≡ true → refusal s e ≡ 0 → e.count ≤ 1000 - s.clock
accepts_room s e c h = go (leb e.count (1000 - s.clock)) refl
  where
    go : (b : Bool) → leb e.count (1000 - s.clock) ≡ b → e.count ≤ 1000 - s.clock
    go true k = leb-true _ _ k
    go false k = let z : ◌≡◌ {A = ℕ} 6 0 = rw (c, k) at h in omega arith

accepts_ticks : (s : Counter) (e : CounterEvent) → is_clocks e ≡ true → refusal s e ≡ 0 → step s e ≡ ticks e.count s
unfolding step apply
accepts_ticks s e c h = rw (h, step, c, apply) refl

kept : (s : Counter) (e : CounterEvent) → Good s → Typed e → Good (step s e)
unfolding step apply
kept s e g t = go (is_clocks e) (eqb (refusal s e) 0) refl refl
  where
    go : (c a : Bool) → is_clocks e ≡ c → eqb (refusal s e) 0 ≡ a → Good (pick a (pick c (ticks e.count s) (pick (eqb e.kind 0) (written e.value s) s)) s)
    go c false k h = g
    go false true k h =
        pick_all Good (eqb e.kind 0) (written e.value s) s (λ _. record { counter_byte = g.counter_byte; register_byte = t; clock_limit_lem = g.clock_limit_lem }) (λ _. g)
    go true true k h = record {
      counter_byte = ticks_byte e.count s g.counter_byte;
      register_byte = rw (ticks_register e.count s) g.register_byte;
      clock_limit_lem = rw (ticks_clock e.count s) (let r = accepts_room s e k (eqb-true _ _ h) in omega arith);
    }

-- a clocks record of count 1 that is accepted n times in turn: it is n ticks, and the clock has room for them
module _ (one : CounterEvent) (clocks : is_clocks one ≡ true) (is_one : one.count ≡ 1) where
  one_tick : (s : Counter) → refusal s one ≡ 0 → step s one ≡ tick s
  unfolding ticks
  one_tick s h = accepts_ticks s one clocks h ∙ ap (λ (n : ℕ). ticks n s) is_one

  times_ticks : (n : ℕ) (s : Counter) → Accepts counter_machine n s one → times counter_machine n s one ≡ ticks n s
  unfolding Accepts times ticks
  times_ticks zero s a = refl
  times_ticks (suc n) s a = rw (one_tick s a.0) (times_ticks n (tick s) (rw (one_tick s a.0) at a.1))

  times_room : (n : ℕ) (s : Counter) → Accepts counter_machine n s one → n ≤ 1000 - s.clock
  unfolding Accepts
  times_room zero s a = omega arith
  times_room (suc n) s a =
      let here : 1 ≤ 1000 - s.clock = rw is_one at (accepts_room s one clocks a.0) in
      let rest = times_room n (tick s) (rw (one_tick s a.0) at a.1) in
      omega arith

counted : (s : Counter) (e : CounterEvent) → is_clocks e ≡ true → Accepts counter_machine e.count s (single e) →
    (refusal s e ≡ 0) × (step s e ≡ times counter_machine e.count s (single e))
counted s e c a =
    let accepted : refusal s e ≡ 0 = rw (c, le-leb _ _ (times_room (single e) c refl e.count s a)) refl in
    (accepted, accepts_ticks s e c accepted ∙ sym (times_ticks (single e) c refl e.count s a))

-- a clocks record of count 1 is its own single clock; so two neighbours that differ in their counts alone are fed as one of both counts is
single_own : (e : CounterEvent) → e.count ≡ 1 → single e ≡ e
single_own e n = rw (← n) refl

pub two_clocks : (v n m : ℕ) (es fs : List CounterEvent) → 0 < n → 0 < m →
    feed counter_machine (es ++ record { kind = 2; value = v; count = n } ∷ record { kind = 2; value = v; count = m } ∷ fs) ≡ feed counter_machine (es ++ record { kind = 2; value = v; count = n + m } ∷ fs)
two_clocks v n m es fs k l = feed_two_clocks counter_machine (λ e _. single_own e) _ _ _ es fs refl refl refl k l refl refl refl

-- clocks look at their count alone
clocks_alike : (s : Counter) (e f : CounterEvent) → is_clocks e ≡ true → is_clocks f ≡ true → e.count ≡ f.count → (refusal s e ≡ refusal s f) × (step s e ≡ step s f)
unfolding step apply
clocks_alike s e f ce cf n = (rw (ce, cf, n) refl, rw (ce, cf, n, step, apply) refl)

-- the reader takes back what the writer wrote
bit_back : (b : Bool) → eqb (pick b 1 0) 1 ≡ b
bit_back true = refl
bit_back false = refl

bit_small : (b : Bool) → leb (pick b 1 0) 1 ≡ true
bit_small true = refl
bit_small false = refl

read_back_lem : (s : Counter) → Good s → ◌≡◌ {A = ℕ × Counter} (read (encode s)) (0, s)
read_back_lem s g =
    let clock : s.clock % 256 + s.clock / 256 * 256 ≡ s.clock = omega arith in
    let counter : s.counter % 256 ≡ s.counter = omega (arith, g.counter_byte) in
    let register : s.register % 256 ≡ s.register = omega (arith, g.register_byte) in
    rw (bit_small s.pending, clock, le-leb s.clock 1000 g.clock_limit_lem, counter, register, bit_back s.pending) refl

pub counter_laws : Laws counter_machine Good Typed
counter_laws = record {
  good_valid = λ s g. le-leb s.clock 1000 g.clock_limit_lem;
  kept = kept;
  single_clocks = λ e c. c;
  single_count = λ e c. refl;
  clocks_alike = clocks_alike;
  counted = λ s e g t c many a. counted s e c a;
  read_back_lem = read_back_lem;
}
