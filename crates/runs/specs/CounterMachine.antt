-- A small machine that has the laws (CounterMachineLaws), so that the theorem is seen to speak of something: a counter of one byte that wraps and
-- then sets a pending flag, a clock with a limit, and a register. Events: 0 writes the register, 1 reads it, 2 clocks; any other kind is refused with 13.
-- Assumes nothing.
use Rattle.std.specs.Prelude.{ℕ, zero, suc, ◌+◌, ◌-◌, ◌*◌, ◌/◌, ◌%◌, Bool, false, ◌&&◌, ◌||◌, List, [], ◌∷◌, length, get_or, leb, eqb}
use Rattle.laws.specs.Choice.{pick}
use Rattle.runs.specs.Machine.{Rules, File, Machine}

pub record Counter : Type 0 where
  pub counter : ℕ
  pub pending : Bool
  pub clock : ℕ
  pub register : ℕ

pub record CounterEvent : Type 0 where
  pub kind : ℕ
  pub value : ℕ
  pub count : ℕ

abbrev pub is_clocks : CounterEvent → Bool
is_clocks e = eqb e.kind 2

abbrev pub single : CounterEvent → CounterEvent
single e = record { kind = e.kind; value = e.value; count = 1 }

-- 6: the clock would pass 1,000; 13: no such kind
abbrev pub refusal : Counter → CounterEvent → ℕ
refusal s e = pick (is_clocks e) (pick (leb e.count (1000 - s.clock)) 0 6) (pick (leb e.kind 1) 0 13)

-- from 0 to 255, from any other value down by one
abbrev pub down : ℕ → ℕ
down zero = 255
down (suc n) = n

abbrev pub tick : Counter → Counter
tick s = record { counter = down s.counter; pending = eqb s.counter 0 || s.pending; clock = s.clock + 1; register = s.register }

unfoldable pub ticks : ℕ → Counter → Counter
ticks zero s = s
ticks (suc n) s = ticks n (tick s)

-- a write clears the pending flag
abbrev pub written : ℕ → Counter → Counter
written v s = record { counter = s.counter; pending = false; clock = s.clock; register = v }

unfoldable pub apply : Counter → CounterEvent → Counter
apply s e = pick (is_clocks e) (ticks e.count s) (pick (eqb e.kind 0) (written e.value s) s)

unfoldable pub step : Counter → CounterEvent → Counter
step s e = pick (eqb (refusal s e) 0) (apply s e) s

-- bit 0: a read, which is always answered; bit 1: pending after the event
abbrev pub flags : Counter → CounterEvent → ℕ
flags s e = pick (eqb e.kind 1) 1 0 + pick (step s e).pending 2 0

abbrev pub value : Counter → CounterEvent → ℕ
value s e = pick (eqb e.kind 1) s.register 0

abbrev pub valid : Counter → Bool
valid s = leb s.clock 1000

-- five bytes: counter, pending, clock (two bytes, low first), register
abbrev pub encode : Counter → List ℕ
encode s = s.counter % 256 ∷ pick s.pending 1 0 ∷ s.clock % 256 ∷ s.clock / 256 ∷ s.register % 256 ∷ []

abbrev pub decoded : List ℕ → Counter
decoded f = record { counter = get_or f 0 0; pending = eqb (get_or f 1 0) 1; clock = get_or f 2 0 + get_or f 3 0 * 256; register = get_or f 4 0 }

abbrev pub empty : Counter
empty = record { counter = 0; pending = false; clock = 0; register = 0 }

-- 11: not a file that can be written
abbrev pub read : List ℕ → ℕ × Counter
read f = pick (eqb (length f) 5 && (leb (get_or f 1 0) 1 && valid (decoded f))) (0, decoded f) (11, empty)

abbrev pub counter_rules : Rules Counter CounterEvent
counter_rules = record {
  is_clocks = is_clocks;
  count = λ e. e.count;
  single = single;
  refusal = refusal;
  flags = flags;
  value = value;
  step = step;
  valid = valid;
}

abbrev pub counter_file : File Counter
counter_file = record { encode = encode; read = read }

abbrev pub counter_machine : Machine Counter CounterEvent
counter_machine = record { rules = counter_rules; file = counter_file }
