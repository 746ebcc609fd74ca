-- EIGHT BITS MAKE THE BYTE: put one after the other into any byte, in any order that uses each place once, they make `byte_of`.
-- TO READ: `eight_bits_lem`, `rule_byte`.
-- Assumes nothing.
use Prim.Native.Nat.{ℕ, zero, suc, ◌+◌, ◌*◌, ◌^◌, ◌≤◌, ◌<◌}
use Rattle.std.specs.Prelude.{◌≡◌, Bool, true, false, ◌&&◌, eqb, get_or}
use Rattle.std.proofs.Math.Path.{refl}
use Rattle.std.proofs.Common.{sym, ap, ◌∙◌, eqb-true, eq-eqb, ne_eqb}
use mathlib.Core.List.{List, [], ◌∷◌, ◌++◌}
use native.Mathlib.Omega.{arith}
use Rattle.std.proofs.Math.ListN.{length}
use Rattle.laws.specs.Choice.{pick, below}
use Rattle.laws.proofs.ChoiceLaws.{both_true, below_at}
use Rattle.laws.specs.Lists.{Each}
use Rattle.eeprom_bits.specs.declared.EepromRule.{EepromRule}
use Rattle.eeprom_bits.specs.declared.EepromRule.TheVariants.{Crate, Datasheet}
use Rattle.eeprom_bits.specs.Bits.{bit_at, put_bit, bit_place}
use Rattle.eeprom_bits.specs.BitsLaws.{below8, put_byte}
use Rattle.eeprom.specs.Lines.{high}
use Rattle.eeprom_transactions.specs.Byte.{byte_from, byte_of, put_bits, Places}

-- a byte is the sum of its bits' weights; computed for all bytes
abbrev bit_sum : ℕ → ℕ → ℕ → ℕ → ℕ → ℕ → ℕ → ℕ → ℕ
bit_sum a b c d e f g h = a + 2 * b + 4 * c + 8 * d + 16 * e + 32 * f + 64 * g + 128 * h

abbrev own_sum : ℕ → ℕ
own_sum x = bit_sum (bit_at x 0) (bit_at x 1) (bit_at x 2) (bit_at x 3) (bit_at x 4) (bit_at x 5) (bit_at x 6) (bit_at x 7)

abbrev sum_test : ℕ → Bool
sum_test x = eqb x (own_sum x)

all_sums : below sum_test 256 ≡ true
all_sums = refl

own_sum_lem : (x : ℕ) → x < 256 → x ≡ own_sum x
own_sum_lem x h = eqb-true x (own_sum x) (below_at sum_test 256 x all_sums h)

-- two bytes with the same eight bits are one
same_bits : (x y : ℕ) → x < 256 → y < 256 → ((k : ℕ) → k < 8 → bit_at x k ≡ bit_at y k) → x ≡ y
same_bits x y h l e =
    own_sum_lem x h
    ∙ rw (e 0 (omega arith), e 1 (omega arith), e 2 (omega arith), e 3 (omega arith), e 4 (omega arith), e 5 (omega arith), e 6 (omega arith), e 7 (omega arith)) refl
    ∙ sym (own_sum_lem y l)

-- the bits of a byte into which a bit is put: that bit at its place, and the others as they were; computed for all bytes
abbrev level : Bool → ℕ
level true = 1
level false = 0

abbrev bit_test : ℕ → ℕ → Bool → ℕ → Bool
bit_test x k b j = eqb (bit_at (put_bit x k b) j) (pick (eqb j k) (level b) (bit_at x j))

abbrev place_test : ℕ → ℕ → ℕ → Bool
place_test x k j = bit_test x k true j && bit_test x k false j

abbrev byte_test : ℕ → Bool
byte_test x = below (λ (k : ℕ). below (place_test x k) 8) 8

all_bytes : below byte_test 256 ≡ true
all_bytes = refl

put_test : (x k j : ℕ) (b : Bool) → x < 256 → k < 8 → j < 8 → bit_test x k b j ≡ true
put_test x k j b h l m = go b (below_at (place_test x k) 8 j (below_at (λ (n : ℕ). below (place_test x n) 8) 8 k (below_at byte_test 256 x all_bytes h) l) m)
  where
    go : (b : Bool) → place_test x k j ≡ true → bit_test x k b j ≡ true
    go true t = (both_true (bit_test x k true j) (bit_test x k false j) t).0
    go false t = (both_true (bit_test x k true j) (bit_test x k false j) t).1

bit_there : (x k : ℕ) (b : Bool) → x < 256 → k < 8 → bit_at (put_bit x k b) k ≡ level b
bit_there x k b h l = eqb-true _ _ (put_test x k k b h l l) ∙ rw (eq-eqb k k refl) refl

bit_elsewhere : (x k j : ℕ) (b : Bool) → x < 256 → k < 8 → j < 8 → (j ≡ k → ⊥) → bit_at (put_bit x k b) j ≡ bit_at x j
bit_elsewhere x k j b h l m ne = eqb-true _ _ (put_test x k j b h l m) ∙ rw (ne_eqb j k ne) refl

-- a level that is 0 or 1 is itself as a bit
level_high : (b : ℕ) → b ≤ 1 → level (high b) ≡ b
level_high zero h = refl
level_high (suc zero) h = refl
level_high (suc (suc b)) h = absurd (omega arith)

-- a bit put where there is none adds its weight
put_adds : (x k b : ℕ) → bit_at x k ≡ 0 → b ≤ 1 → put_bit x k (high b) ≡ x + b * 2 ^ k
put_adds x k zero e h = rw e (omega arith)
put_adds x k (suc zero) e h = rw e (omega arith)
put_adds x k (suc (suc b)) e h = absurd (omega arith)

module _ (place : ℕ → ℕ) (P : Places place) where
  open P use {turn, place_low, turn_low, turn_place, place_turn}

  -- two turns have two places
  apart : (i j : ℕ) → i < 8 → j < 8 → (i ≡ j → ⊥) → place i ≡ place j → ⊥
  apart i j h l ne e = ne (sym (turn_place i h) ∙ ap turn e ∙ turn_place j l)

  -- bits put into a byte leave a byte
  puts_byte : (bits : List ℕ) (i x : ℕ) → x < 256 → i + length bits ≤ 8 → put_bits place i x bits < 256
  unfolding put_bits
  puts_byte [] i x h l = h
  puts_byte (b ∷ bs) i x h l = puts_byte bs (suc i) (put_bit x (place i) (high b)) (put_byte x (place i) (high b) h (place_low i (omega arith))) (omega arith)

  -- the place of an earlier turn keeps its bit
  puts_before : (bits : List ℕ) (i x j : ℕ) → x < 256 → i + length bits ≤ 8 → j < i → bit_at (put_bits place i x bits) (place j) ≡ bit_at x (place j)
  unfolding put_bits
  puts_before [] i x j h l m = refl
  puts_before (b ∷ bs) i x j h l m =
      puts_before bs (suc i) (put_bit x (place i) (high b)) j (put_byte x (place i) (high b) h (place_low i (omega arith))) (omega arith) (omega arith)
      ∙ bit_elsewhere x (place i) (place j) (high b) h (place_low i (omega arith)) (place_low j (omega arith)) (apart j i (omega arith) (omega arith) (λ e. omega arith))

  -- the place of each turn has its bit
  pub puts_there : (bits : List ℕ) (i x j : ℕ) → x < 256 → i + length bits ≤ 8 → j < length bits → Each (λ b. b ≤ 1) bits → bit_at (put_bits place i x bits) (place (i + j)) ≡ get_or bits j 0
  unfolding put_bits Each
  puts_there [] i x j h l m v = absurd (omega arith)
  puts_there (b ∷ bs) i x zero h l m v =
      let t : i + 0 ≡ i = omega arith in
      let y = put_bit x (place i) (high b) in
      rw t (puts_before bs (suc i) y i (put_byte x (place i) (high b) h (place_low i (omega arith))) (omega arith) (omega arith)
      ∙ bit_there x (place i) (high b) h (place_low i (omega arith)) ∙ level_high b v.0)
  puts_there (b ∷ bs) i x (suc j) h l m v =
      let t : i + suc j ≡ suc i + j = omega arith in
      rw t (puts_there bs (suc i) (put_bit x (place i) (high b)) j (put_byte x (place i) (high b) h (place_low i (omega arith))) (omega arith) (omega arith) v.1)

  -- the last bit of a list is put last
  pub puts_last : (bits : List ℕ) (i x b : ℕ) → put_bits place i x (bits ++ (b ∷ [])) ≡ put_bit (put_bits place i x bits) (place (i + length bits)) (high b)
  unfolding put_bits
  puts_last [] i x b = let t : i + 0 ≡ i = omega arith in rw t refl
  puts_last (c ∷ bs) i x b = let t : i + suc (length bs) ≡ suc i + length bs = omega arith in rw t (puts_last bs (suc i) (put_bit x (place i) (high c)) b)

  -- bits put where there are none add up
  puts_add : (bits : List ℕ) (i x : ℕ) → x < 256 → i + length bits ≤ 8 → Each (λ b. b ≤ 1) bits → ((j : ℕ) → i ≤ j → j < 8 → bit_at x (place j) ≡ 0) → put_bits place i x bits ≡ x + byte_from place i bits
  unfolding put_bits byte_from Each
  puts_add [] i x h l v z = omega arith
  puts_add (b ∷ bs) i x h l v z =
      let y = put_bit x (place i) (high b) in
      let q = puts_add bs (suc i) y (put_byte x (place i) (high b) h (place_low i (omega arith))) (omega arith) v.1
      (λ j m n. bit_elsewhere x (place i) (place j) (high b) h (place_low i (omega arith)) (place_low j n) (apart j i n (omega arith) (λ e. omega arith)) ∙ z j (omega arith) n) in
      let a : y ≡ x + b * 2 ^ place i = put_adds x (place i) b (z i (omega arith) (omega arith)) v.0 in
      q ∙ rw a (omega arith)

  -- EIGHT BITS put into any byte make `byte_of`
  pub eight_bits_lem : (bits : List ℕ) (x : ℕ) → length bits ≡ 8 → Each (λ b. b ≤ 1) bits → x < 256 → put_bits place 0 x bits ≡ byte_of place bits
  eight_bits_lem bits x n v h =
      same_bits (put_bits place 0 x bits) (put_bits place 0 0 bits) (puts_byte bits 0 x h (omega arith)) (puts_byte bits 0 0 (omega arith) (omega arith)) each
      ∙ puts_add bits 0 0 (omega arith) (omega arith) v none
      ∙ omega arith
    where
      none : (j : ℕ) → 0 ≤ j → j < 8 → bit_at 0 (place j) ≡ 0
      none j m l = below8 (λ (k : ℕ). bit_at 0 k ≡ 0) refl refl refl refl refl refl refl refl (place j) (place_low j l)

      at : (y : ℕ) → y < 256 → (k : ℕ) → k < 8 → bit_at (put_bits place 0 y bits) k ≡ get_or bits (turn k) 0
      at y m k l =
          let t : 0 + turn k ≡ turn k = omega arith in
          let u = puts_there bits 0 y (turn k) m (omega arith) (omega (arith, turn_low k l)) v in
          rw (t, place_turn k l) at u

      each : (k : ℕ) → k < 8 → bit_at (put_bits place 0 x bits) k ≡ bit_at (put_bits place 0 0 bits) k
      each k l = at x h k l ∙ sym (at 0 (omega arith) k l)

-- BOTH RULES use each place once
pub rule_places : (r : EepromRule) → Places (bit_place r)
rule_places Crate = record { turn = bit_place Crate; place_low = λ i h. h; turn_low = λ k h. h; turn_place = λ i h. refl; place_turn = λ k h. refl }
rule_places Datasheet =
    record { turn = bit_place Datasheet; place_low = λ i h. omega arith; turn_low = λ k h. omega arith; turn_place = λ i h. omega arith; place_turn = λ k h. omega arith }

-- so eight levels put into any byte in a rule's order make the byte of that order
pub rule_byte : (r : EepromRule) (bits : List ℕ) (x : ℕ) → length bits ≡ 8 → Each (λ b. b ≤ 1) bits → x < 256 → put_bits (bit_place r) 0 x bits ≡ byte_of (bit_place r) bits
rule_byte r = eight_bits_lem (bit_place r) (rule_places r)
