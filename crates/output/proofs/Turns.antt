-- The turns of the loops that put bytes into a buffer, and the digits of a number one after the other. Assumes nothing.
use mathlib.Core.Path.{◌≡◌, refl, sym, ◌∙◌}
use mathlib.Core.List.{List, map, map-append}
use Prim.Native.Nat.{ℕ, zero, suc, ◌+◌, ◌-◌, ◌/◌, ◌%◌, ◌≤◌, ◌<◌, min}
use native.Mathlib.Numerals.{add-one}
use native.Mathlib.Omega.{arith}
use lib.ListN.{length, get_or, drop, drop_of_length-le}
use lib.Seq.{drop-cons}
use Rattle.laws.specs.Decimal.{decimal, zeros_before}
use Rattle.laws.proofs.DecimalLaws.{digits_none, digits_end, digits_step}
use Rattle.output.specs.Put.{put, put_all, decimal_digit, hex_byte, hex_of}
use Rattle.output.specs.PutLaws.{put_none, put_one, put_first, put_append, put_last}

-- bytes that are put
pub put_more : (s : List ℕ × ℕ) (l : List ℕ) (i : ℕ) → i < length l → put_all (put s (get_or l i 0)) (drop (i + 1) l) ≡ put_all s (drop i l)
put_more s l i h = rw (drop-cons l i 0 h, add-one i) (sym (put_first s (get_or l i 0) (drop (suc i) l)))

pub put_end : (s : List ℕ × ℕ) (l : List ℕ) (i : ℕ) → length l ≤ i → put_all s (drop i l) ≡ s
put_end s l i h = rw (drop_of_length-le l h) (put_none s)

pub hex_more : (s : List ℕ × ℕ) (l : List ℕ) (i : ℕ) → i < length l → put_all (put_all s (hex_byte (get_or l i 0))) (hex_of (drop (i + 1) l)) ≡ put_all s (hex_of (drop i l))
unfolding hex_of
hex_more s l i h = rw (drop-cons l i 0 h, add-one i) (sym (put_append s (hex_byte (get_or l i 0)) (hex_of (drop (suc i) l))))

pub hex_end : (s : List ℕ × ℕ) (l : List ℕ) (i : ℕ) → length l ≤ i → put_all s (hex_of (drop i l)) ≡ s
unfolding hex_of
hex_end s l i h = rw (drop_of_length-le l h) (put_none s)

-- decimal digits: none has room, the last one, or the last after the others
abbrev digits : ℕ → ℕ → List ℕ
digits room n = map decimal_digit (zeros_before (min 1 room) (decimal room n))

pub decimal_none : (s : List ℕ × ℕ) (room n : ℕ) → room ≡ 0 → put_all s (digits room n) ≡ s
decimal_none s room n e = rw (e, digits_none 1 n) (put_none s)

-- of a number that is not 0 no zero stands before
no_zero : (room n : ℕ) → 0 < n → zeros_before (min 1 room) (decimal room n) ≡ zeros_before (min 0 room) (decimal room n)
no_zero zero n h = refl
no_zero (suc room) n h = digits_step room 1 n (omega arith) ∙ sym (digits_step room 0 n (omega arith))

pub decimal_last : (s : List ℕ × ℕ) (room n : ℕ) → (room ≡ 0 → ⊥) → n < 10 → put_all s (digits room n) ≡ put s (48 + n)
decimal_last s zero n e h = absurd (e refl)
decimal_last s (suc room) n e h =
    let z : n / 10 ≡ 0 = omega arith in
    let m : n % 10 ≡ n = omega arith in
    rw (digits_step room 1 n (omega arith), digits_end room (n / 10) z, m) (put_one s (48 + n))

pub decimal_more : (s : List ℕ × ℕ) (room n : ℕ) → (room ≡ 0 → ⊥) → 10 ≤ n → put_all s (digits room n) ≡ put (put_all s (digits (room - 1) (n / 10))) (48 + n % 10)
decimal_more s zero n e h = absurd (e refl)
decimal_more s (suc room) n e h =
    let k : suc room - 1 ≡ room = omega arith in
    rw (digits_step room 1 n (omega arith), ← no_zero room (n / 10) (omega arith), map-append, k) (put_last s (digits room (n / 10)) (48 + n % 10))
