-- Laws of words as bytes: what was written is read; a run of stores is one store of the joined bytes.
-- Assumes nothing.
use Rattle.std.specs.Prelude.{◌≡◌, refl, Bool, true, false, List, [], ◌∷◌, ◌++◌, ℕ, zero, suc, ◌+◌, ◌*◌, ◌/◌, ◌%◌, ◌-◌, ◌^◌, ◌<◌, length, get_or, take, set}
use Rattle.std.proofs.Common.{sym, ap, ◌∙◌, append_assoc, add-zero, suc-add, pow-suc, div-lt_iff_lt-mul, zero-add, one-mul, mul-add, mul_assoc, add_assoc, mod-lt, mod-eq_of_lt, add-one, arith, length-append, get_or-append-add, take-suc, length-take-le}
use Rattle.std.proofs.Math.Nat.{pow-succ'}
use Rattle.std.proofs.lemmas.List.Edits.{sets}
use Rattle.laws.specs.Lists.{Each}
use Rattle.laws.proofs.ListsLaws.{each_at}
use Rattle.laws.specs.Words.{bytes_of, word_at, packed, unpacked, Fit, cut_from, cut, flag, is_flag}

pub length_bytes : (w n : ℕ) → length (bytes_of w n) ≡ w
unfolding bytes_of
length_bytes zero n = refl
length_bytes (suc w) n = ap suc (length_bytes w (n / 256))

-- a word after p is a word of what follows p
pub word_at_skip : (p q : List ℕ) (k w : ℕ) → word_at (p ++ q) (length p + k) w ≡ word_at q k w
unfolding word_at
word_at_skip p q k zero = refl
word_at_skip p q k (suc w) =
    let e : length p + k + 1 ≡ length p + (k + 1) = omega arith in
    rw (get_or-append-add p q k 0, e, word_at_skip p q (k + 1) w)

-- the word that was written
pub word_at_bytes : (w n : ℕ) (r : List ℕ) → n < 256 ^ w → word_at (bytes_of w n ++ r) 0 w ≡ n
unfolding bytes_of word_at
word_at_bytes zero n r h = omega arith
word_at_bytes (suc w) n r h =
    let q : n < 256 ^ w * 256 = rw pow-suc at h in
    let s : word_at ((n % 256 ∷ []) ++ (bytes_of w (n / 256) ++ r)) 1 w ≡ word_at (bytes_of w (n / 256) ++ r) 0 w = word_at_skip (n % 256 ∷ []) (bytes_of w (n / 256) ++ r) 0 w in
    let t : word_at (bytes_of w (n / 256) ++ r) 0 w ≡ n / 256 = word_at_bytes w (n / 256) r ((div-lt_iff_lt-mul {k = 256} (omega arith)).1 q) in
    rw (s, t) (omega arith)

-- stores of two runs, one after the other, are the store of the joined run
pub sets_append : (l : List ℕ) (i : ℕ) (a b : List ℕ) → sets l i (a ++ b) ≡ sets (sets l i a) (i + length a) b
sets_append l i [] b = rw add-zero
sets_append l i (x ∷ a) b =
    let e : suc i + length a ≡ i + suc (length a) = omega arith in
    sets_append (set l i x) (suc i) a b ∙ rw e

-- a loop that stores a word: what is left to store after a turn is what was left before it
pub sets_word : (l : List ℕ) (i left m : ℕ) → 0 < left → sets (set l i (m % 256)) (i + 1) (bytes_of (left - 1) (m / 256)) ≡ sets l i (bytes_of left m)
unfolding bytes_of
sets_word l i zero m h = absurd (omega arith)
sets_word l i (suc k) m h =
    let e : suc k - 1 ≡ k = omega arith in
    rw (e, add-one)

pub sets_none : (l : List ℕ) (i m : ℕ) → sets l i (bytes_of 0 m) ≡ l
unfolding bytes_of
sets_none l i m = refl

-- a loop that copies: one byte more
pub sets_copy : (l src : List ℕ) (at i : ℕ) → i < length src → set (sets l at (take i src)) (at + i) (get_or src i 0) ≡ sets l at (take (i + 1) src)
sets_copy l src at i h =
    let e : length (take i src) ≡ i = length-take-le i src (omega arith) in
    sym (rw (add-one, take-suc src i 0 h, sets_append l at (take i src) (get_or src i 0 ∷ []), e))

-- a word of two parts
pub word_at_add : (f : List ℕ) (at a b : ℕ) → word_at f at (a + b) ≡ word_at f at a + 256 ^ a * word_at f (at + a) b
unfolding word_at
word_at_add f at zero b = rw (zero-add, add-zero, zero-add, one-mul)
word_at_add f at (suc a) b =
    let e : at + 1 + a ≡ at + suc a = omega arith in
    rw (suc-add, word_at_add f (at + 1) a b, e, mul-add, pow-succ', mul_assoc, add_assoc)

-- past a word of a known width; past any list
pub word_at_past_bytes : (v n : ℕ) (q : List ℕ) (k w : ℕ) → word_at (bytes_of v n ++ q) (v + k) w ≡ word_at q k w
word_at_past_bytes v n q k w = rw length_bytes at (word_at_skip (bytes_of v n) q k w)

pub word_at_past : (p q : List ℕ) (at k w : ℕ) → at ≡ length p + k → word_at (p ++ q) at w ≡ word_at q k w
word_at_past p q at k w e = rw e (word_at_skip p q k w)

-- a body that was written is read, wherever it stands
pub unpacked_packed : (ws xs : List ℕ) → Fit ws xs → (p q : List ℕ) → unpacked ws (p ++ (packed ws xs ++ q)) (length p) ≡ xs
unfolding packed unpacked
unpacked_packed [] [] h p q = refl
unpacked_packed [] (x ∷ xs) h p q = absurd h
unpacked_packed (w ∷ ws) [] h p q = absurd h
unpacked_packed (w ∷ ws) (x ∷ xs) h p q =
    let R = packed ws xs in
    let a : word_at (p ++ ((bytes_of w x ++ R) ++ q)) (length p) w ≡ x = rw append_assoc (word_at_past p (bytes_of w x ++ (R ++ q)) (length p) 0 w (sym (add-zero _)) ∙ word_at_bytes w x (R ++ q) h.0) in
    let n : length (p ++ bytes_of w x) ≡ length p + w = length-append p (bytes_of w x) ∙ rw length_bytes in
    let l : (p ++ bytes_of w x) ++ (R ++ q) ≡ p ++ ((bytes_of w x ++ R) ++ q) = simp append_assoc in
    let t : unpacked ws (p ++ ((bytes_of w x ++ R) ++ q)) (length p + w) ≡ xs = rw (n, l) at (unpacked_packed ws xs h.1 (p ++ bytes_of w x) q) in
    rw (a, t)

-- a word of a list of bytes fits its width
pub word_at_fits : (f : List ℕ) (at w : ℕ) → Each (λ x. x < 256) f → word_at f at w < 256 ^ w
unfolding word_at
word_at_fits f at zero h = omega arith
word_at_fits f at (suc w) h =
    let b : get_or f at 0 < 256 = each_at (λ x. x < 256) f at (omega arith) h in
    let r : word_at f (at + 1) w < 256 ^ w = word_at_fits f (at + 1) w h in
    rw pow-suc (omega arith)

-- the words of a list of bytes fit their widths
pub unpacked_fits : (ws f : List ℕ) (at : ℕ) → Each (λ x. x < 256) f → Fit ws (unpacked ws f at)
unfolding unpacked
unpacked_fits [] f at h = tt
unpacked_fits (w ∷ ws) f at h = (word_at_fits f at w h, unpacked_fits ws f (at + w) h)

pub length_unpacked : (ws f : List ℕ) (at : ℕ) → length (unpacked ws f at) ≡ length ws
unfolding unpacked
length_unpacked [] f at = refl
length_unpacked (w ∷ ws) f at = ap suc (length_unpacked ws f (at + w))

pow_pos : (w : ℕ) → 0 < 256 ^ w
pow_pos zero = omega arith
pow_pos (suc w) = rw pow-suc (omega (arith, pow_pos w))

-- words that are cut to their widths fit them, and words that fit are not changed
pub cut_fits : (ws xs : List ℕ) (i : ℕ) → Fit ws (cut_from ws xs i)
cut_fits [] xs i = tt
cut_fits (w ∷ ws) xs i = (mod-lt (get_or xs i 0) (pow_pos w), cut_fits ws xs (suc i))

cut_from_lem : (ws p xs : List ℕ) → Fit ws xs → cut_from ws (p ++ xs) (length p) ≡ xs
cut_from_lem [] p [] h = refl
cut_from_lem [] p (x ∷ xs) h = absurd h
cut_from_lem (w ∷ ws) p [] h = absurd h
cut_from_lem (w ∷ ws) p (x ∷ xs) h =
    let g : get_or (p ++ (x ∷ xs)) (length p) 0 ≡ x = rw (add-zero (length p)) at (get_or-append-add p (x ∷ xs) 0 0) in
    let l : (p ++ (x ∷ [])) ++ xs ≡ p ++ (x ∷ xs) = append_assoc p (x ∷ []) xs in
    let n : length (p ++ (x ∷ [])) ≡ suc (length p) = length-append p (x ∷ []) ∙ add-one (length p) in
    let t : cut_from ws (p ++ (x ∷ xs)) (suc (length p)) ≡ xs = rw (n, l) at (cut_from_lem ws (p ++ (x ∷ [])) xs h.1) in
    rw (g, mod-eq_of_lt h.0, t) refl

pub cut_same : (ws xs : List ℕ) → Fit ws xs → cut ws xs ≡ xs
cut_same ws xs h = cut_from_lem ws [] xs h

pub flag_back : (set : Bool) → is_flag (flag set) ≡ set
flag_back true = refl
flag_back false = refl

pub flag_fits : (set : Bool) → flag set < 256
flag_fits true = omega arith
flag_fits false = omega arith

-- two runs of words that fit, one after the other
pub fit_append : (ws xs vs ys : List ℕ) → Fit ws xs → Fit vs ys → Fit (ws ++ vs) (xs ++ ys)
fit_append [] [] vs ys h k = k
fit_append [] (x ∷ xs) vs ys h k = absurd h
fit_append (w ∷ ws) [] vs ys h k = absurd h
fit_append (w ∷ ws) (x ∷ xs) vs ys h k = (h.0, fit_append ws xs vs ys h.1 k)

-- a word of the machine is not changed by the cut to eight bytes
pub cut_word : {x y : ℕ} → x ≡ y → x < 2 ^ 64 → x ≡ y % 256 ^ 8
cut_word {x} {y} e h = omega arith
