-- Laws of the bodies: how long each is, and that each is read back wherever it stands, from a part that fits the machine's types.
-- Assumes nothing.
use Rattle.std.specs.Prelude.{◌≡◌, Bool, true, false, ltb, min, ℕ, zero, suc, ◌+◌, ◌*◌, ◌-◌, ◌^◌, ◌≤◌, ◌<◌, length, get_or, take, drop, set}
use Rattle.std.proofs.Math.Path.{refl}
use Rattle.std.proofs.Common.{sym, ap, ◌∙◌, zero-add, pow-suc, add-one, arith, length-append, drop_of_length-le, length-take-le, get_or-take, drop-cons, leb-true, ltb-true, ltb-false}
use mathlib.Core.List.{List, [], ◌∷◌, ◌++◌, append_assoc, append-nil}
use Rattle.std.proofs.Math.Nat.{add-zero, add-suc, pow-le-pow_right}
use Rattle.std.proofs.lemmas.List.Edits.{sets}
use Rattle.std.proofs.Math.Seq.{take-append_seam, set_out}
use Rattle.laws.specs.Lists.{blank, every, zeros_from}
use Rattle.laws.proofs.ListsLaws.{zeros_at, sets_front, each_at, every_each}
use Rattle.laws.specs.Table.{filled}
use Rattle.laws.proofs.TableLaws.{filled_none, filled_more, filled_is, length_filled, get_d_within}
use Rattle.laws.specs.Words.{bytes_of, word_at, packed, unpacked, Fit}
use Rattle.laws.proofs.WordsLaws.{length_bytes, length_unpacked, unpacked_packed}
use Rattle.eeprom.specs.declared.EepromModel.{EepromModel}
use Rattle.eeprom.specs.declared.EepromModel.TheVariants.{X24C01, X24C02}
use Rattle.eeprom.specs.declared.Eeprom.{Eeprom}
use Rattle.eeprom.specs.Eeprom.{size}
use Rattle.eeprom.specs.Typed.{Typed}
use Rattle.eeprom_codes.specs.EepromWords.{eeprom_widths, eeprom_words, eeprom_of}
use Rattle.eeprom_codes.specs.EepromWordsLaws.{eeprom_fit, eeprom_back}
use Rattle.bandai_fcg.specs.declared.barcode_reader.BarcodeReader.{BarcodeReader}
use Rattle.bandai_fcg.specs.Typed.{TypedReader}
use Rattle.bandai_fcg.specs.ReaderWords.{reader_widths, reader_words, reader_of}
use Rattle.bandai_fcg.proofs.ReaderWordsLaws.{reader_fit, reader_back}
use Rattle.cart.specs.declared.Cart.{Cart}
use Rattle.cart.specs.CartWords.{cart_widths, cart_words, cart_of, TypedCart}
use Rattle.cart.proofs.CartWordsLaws.{cart_back}
use Rattle.regs.specs.declared.Regs.{Regs}
use Rattle.regs.specs.RegsWords.{regs_widths, regs_words, regs_of, TypedRegs}
use Rattle.regs.proofs.RegsWordsLaws.{regs_fit, regs_back}
use Rattle.state_bodies.specs.declared.cart_body.FileForm.{FileForm}
use Rattle.state_bodies.specs.declared.cart_body.FileForm.TheVariants.{Old, Current}
use Rattle.state_bodies.specs.Bodies.{is_width, total, read_into, cart_bytes, cart_length, cart_at, regs_bytes, regs_length, regs_at, reader_bytes, reader_length, reader_at, modules_at, eeprom_bytes, eeprom_length, eeprom_at, rom_at}

-- bytes read into an array: the loop's first and next turn
pub read_none : (l f : List ℕ) (at : ℕ) → l ≡ read_into l f at 0
unfolding read_into
read_none l f at = filled_none l 0 _

pub read_more : (l f : List ℕ) (at n : ℕ) → set (read_into l f at n) n (get_or f (at + n) 0) ≡ read_into l f at (n + 1)
unfolding read_into
read_more l f at n = let e : 0 + n ≡ n = zero-add n in rw e at (filled_more l 0 (λ i. get_or f (at + i) 0) n)

-- an array takes no more bytes than it has places
filled_past : (l : List ℕ) (f : ℕ → ℕ) (k : ℕ) → filled l 0 f (length l + k) ≡ filled l 0 f (length l)
unfolding filled
filled_past l f zero = rw add-zero refl
filled_past l f (suc k) = rw add-suc (set_out (filled l 0 f (length l + k)) _ _ (rw (length_filled, zero-add) (omega arith)) ∙ filled_past l f k)

pub read_room : (l f : List ℕ) (at n count : ℕ) → n ≡ min (length l) count → read_into l f at n ≡ read_into l f at count
unfolding read_into
read_room l f at n count e = go (ltb count (length l)) refl
  where
    go : (b : Bool) → ltb count (length l) ≡ b → filled l 0 (λ i. get_or f (at + i) 0) n ≡ filled l 0 (λ i. get_or f (at + i) 0) count
    go true h =
        let p : n ≡ count = omega (arith, ltb-true count (length l) h) in
        ap (filled l 0 (λ i. get_or f (at + i) 0)) p
    go false h =
        let p : n ≡ length l = omega (arith, ltb-false count (length l) h) in
        let q : length l + (count - length l) ≡ count = omega (arith, ltb-false count (length l) h) in
        ap (filled l 0 (λ i. get_or f (at + i) 0)) p ∙ sym (filled_past l (λ i. get_or f (at + i) 0) (count - length l)) ∙ ap (filled l 0 (λ i. get_or f (at + i) 0)) q

-- an array whose first n bytes stand within a list, and which has zeros past them, is read whole
pub read_within : (l p q : List ℕ) (room n at : ℕ) → length l ≡ room → n ≤ room → zeros_from n l ≡ true → length p ≡ at → read_into (blank room) (p ++ (take n l ++ q)) at n ≡ l
unfolding read_into
read_within l p q room n at el h z ep =
    rw (← ep, ← el)
    (filled_is l (λ i. get_or (p ++ (take n l ++ q)) (length p + i) 0) n (omega arith)
    (λ i hi. get_d_within p (take n l) q i (rw (length-take-le n l (omega arith)) hi) ∙ get_or-take n l i 0 hi)
    (λ k hk. zeros_at n l k hk z))

-- a word read from its top: one byte more, and that it has room in a word of the machine
pub word_turn : (f : List ℕ) (at left k : ℕ) → 0 < left → word_at f (at + left) k * 256 + get_or f (at + (left - 1)) 0 ≡ word_at f (at + (left - 1)) (suc k)
unfolding word_at
word_turn f at left k h =
    let e : at + (left - 1) + 1 ≡ at + left = omega arith in
    rw e (omega arith)

pub word_more : (k x b : ℕ) → x < 256 ^ k → b < 256 → x * 256 + b < 256 ^ suc k
word_more k x b h l = rw pow-suc (omega arith)

pub word_room : (k x : ℕ) → x < 256 ^ k → k < 8 → x < 2 ^ 56
word_room k x h l =
    let p : 256 ^ k ≤ 256 ^ 7 = pow-le-pow_right {n = 256} (omega arith) {i = k} {j = 7} (omega arith) in
    omega (arith, h, p)

-- each of the widths
pub width_at : (ws : List ℕ) (i : ℕ) → every is_width ws ≡ true → get_or ws i 0 ≤ 8
width_at ws i h = each_at (λ w. w ≤ 8) ws i (omega arith) (every_each is_width (λ w. w ≤ 8) (λ w t. leb-true w 8 t) ws h)

-- words read into an array: a turn, and the end
pub words_turn : (l f ws : List ℕ) (place i : ℕ) → i < length ws → sets (set l i (word_at f place (get_or ws i 0))) (i + 1) (unpacked (drop (i + 1) ws) f (place + get_or ws i 0)) ≡ sets l i (unpacked (drop i ws) f place)
unfolding unpacked
words_turn l f ws place i h = rw (drop-cons ws i 0 h, add-one i) refl

pub words_end : (l f ws : List ℕ) (place i : ℕ) → length ws ≤ i → sets l i (unpacked (drop i ws) f place) ≡ l
unfolding unpacked
words_end l f ws place i h = rw (drop_of_length-le ws h) refl

-- words read into an array that has a place for each
pub words_read : (ws f l : List ℕ) (at : ℕ) → length l ≡ length ws → sets l 0 (unpacked ws f at) ≡ unpacked ws f at
words_read ws f l at h =
    let n = length_unpacked ws f at in
    let none : drop (length (unpacked ws f at)) l ≡ [] = drop_of_length-le l {i = length (unpacked ws f at)} (omega (arith, n)) in
    sets_front l (unpacked ws f at) (omega (arith, n)) ∙ rw none (append-nil (unpacked ws f at))

-- HOW LONG EACH BODY IS
length_packed : (ws xs : List ℕ) → length ws ≡ length xs → length (packed ws xs) ≡ total ws
unfolding packed
length_packed [] xs h = refl
length_packed (w ∷ ws) [] h = absurd (omega arith)
length_packed (w ∷ ws) (x ∷ xs) h = rw (length-append, length_bytes, length_packed ws xs (omega arith)) refl

-- the twelve words of the old form have the first twelve widths
twelve_packed : (c : Cart) → packed cart_widths (take 12 (cart_words c)) ≡ packed (take 12 cart_widths) (take 12 (cart_words c))
unfolding packed
twelve_packed c = refl

pub length_cart : (form : FileForm) (c : Cart) → length (cart_bytes form c) ≡ cart_length form
unfolding cart_bytes
length_cart Old c = ap length (twelve_packed c) ∙ length_packed (take 12 cart_widths) (take 12 (cart_words c)) refl
length_cart Current c = length_packed cart_widths (cart_words c) refl

pub cart_most : (form : FileForm) → cart_length form ≤ 35
cart_most Old = omega arith
cart_most Current = omega arith

-- body 1 of the old form is the first 34 bytes of the 35, whose last is the rule
pub cart_rule_lem : (c : Cart) → cart_bytes Current c ≡ cart_bytes Old c ++ bytes_of 1 c.eeprom_rule
unfolding cart_bytes packed
cart_rule_lem c = simp (append_assoc, append-nil)

pub old_front : (c : Cart) → cart_bytes Old c ≡ take 34 (cart_bytes Current c)
old_front c =
    let front : take (length (cart_bytes Old c)) (cart_bytes Old c ++ bytes_of 1 c.eeprom_rule) ≡ cart_bytes Old c = take-append_seam (cart_bytes Old c) (bytes_of 1 c.eeprom_rule) in
    rw (cart_rule_lem c) (sym (rw (length_cart Old c) at front))

pub length_regs : (r : Regs) → length (regs_bytes r) ≡ regs_length
unfolding regs_bytes
length_regs r = length_packed regs_widths (regs_words r) refl

pub length_reader : (r : BarcodeReader) (modules : List ℕ) → r.module_count ≤ length modules → length (reader_bytes r modules) ≡ reader_length r
unfolding reader_bytes
length_reader r modules h = rw (length-append, length_packed reader_widths (reader_words r) refl, length-take-le r.module_count modules h) refl

pub size_within : (m : EepromModel) → size m ≤ 256
size_within X24C01 = omega arith
size_within X24C02 = omega arith

pub length_eeprom : (s : Eeprom) (rom : List ℕ) → length rom ≡ 256 → length (eeprom_bytes s rom) ≡ eeprom_length s.model
unfolding eeprom_bytes
length_eeprom s rom h =
    let k : size s.model ≤ length rom = omega (arith, size_within s.model) in
    rw (length-append, length_packed eeprom_widths (eeprom_words s) refl, length-take-le (size s.model) rom k) refl

-- EACH BODY IS READ BACK, wherever it stands
twelve_unpacked : (f : List ℕ) (at : ℕ) → take 12 (unpacked cart_widths f at) ≡ unpacked (take 12 cart_widths) f at
unfolding unpacked
twelve_unpacked f at = refl

twelve_fit : (c : Cart) → TypedCart c → Fit (take 12 cart_widths) (take 12 (cart_words c))
twelve_fit c t =
    let t5 = t.1.1.1.1.1 in
    (t.0, (t.1.0, (t.1.1.0, (t.1.1.1.0, (t.1.1.1.1.0, (t5.0, (t5.1.0, (t5.1.1.0, (t5.1.1.1.0, (t5.1.1.1.1.0, (t5.1.1.1.1.1.0, (t5.1.1.1.1.1.1.0, tt))))))))))))

-- a missing thirteenth word is rule 0
twelve_words : (c : Cart) → c.eeprom_rule ≡ 0 → cart_of (take 12 (cart_words c)) ≡ cart_of (cart_words c)
unfolding cart_of
twelve_words c e = rw e refl

pub old_rule : (f : List ℕ) (at : ℕ) → (cart_at Old f at).eeprom_rule ≡ 0
unfolding cart_at cart_of unpacked
old_rule f at = refl

-- a form has a place for a description's rule: the old one just where that is 0
abbrev pub Carries : FileForm → Cart → Type 0
Carries Old c = c.eeprom_rule ≡ 0
Carries Current c = Unit {0}

pub cart_read : (form : FileForm) (c : Cart) → TypedCart c → Carries form c → (p q : List ℕ) → cart_at form (p ++ (cart_bytes form c ++ q)) (length p) ≡ c
unfolding cart_bytes cart_at
cart_read Old c t e p q =
    ap (λ (l : List ℕ). cart_of (take 12 (unpacked cart_widths (p ++ (l ++ q)) (length p)))) (twelve_packed c)
    ∙ ap cart_of (twelve_unpacked (p ++ (packed (take 12 cart_widths) (take 12 (cart_words c)) ++ q)) (length p) ∙ unpacked_packed (take 12 cart_widths) (take 12 (cart_words c)) (twelve_fit c t) p q)
    ∙ twelve_words c e ∙ cart_back c t
cart_read Current c t e p q = ap cart_of (unpacked_packed cart_widths (cart_words c) t p q) ∙ cart_back c t

pub regs_read : (r : Regs) → TypedRegs r → (p q : List ℕ) → regs_at (p ++ (regs_bytes r ++ q)) (length p) ≡ r
unfolding regs_bytes regs_at
regs_read r t p q = ap regs_of (unpacked_packed regs_widths (regs_words r) (regs_fit r t) p q) ∙ regs_back r t

-- an array that stands after the words of its part
after_words : (ws xs l p q : List ℕ) (room n : ℕ) → length ws ≡ length xs → length l ≡ room → n ≤ room → zeros_from n l ≡ true → read_into (blank room) (p ++ ((packed ws xs ++ take n l) ++ q)) (length p + total ws) n ≡ l
after_words ws xs l p q room n es el h z =
    let w = packed ws xs in
    let e : p ++ ((w ++ take n l) ++ q) ≡ (p ++ w) ++ (take n l ++ q) = simp append_assoc in
    rw e (read_within l (p ++ w) q room n (length p + total ws) el h z (length-append p w ∙ rw (length_packed ws xs es) refl))

-- a reader whose digit count fits the byte that the file has for it
module _ (r : BarcodeReader) (modules : List ℕ) (p q : List ℕ) where
  pub reader_read : TypedReader r → r.new_barcode_digit_count < 256 → reader_at (p ++ (reader_bytes r modules ++ q)) (length p) ≡ r
  unfolding reader_bytes reader_at
  reader_read t h = rw append_assoc (ap reader_of (unpacked_packed reader_widths (reader_words r) (reader_fit r t h) p _) ∙ reader_back r t h)

  pub modules_read : length modules ≡ 160 → r.module_count ≤ 160 → zeros_from r.module_count modules ≡ true → modules_at (p ++ (reader_bytes r modules ++ q)) (length p) r.module_count ≡ modules
  unfolding reader_bytes modules_at
  modules_read el h z = after_words reader_widths (reader_words r) modules p q 160 r.module_count refl el h z

module _ (s : Eeprom) (rom : List ℕ) (t : Typed s rom) (p q : List ℕ) where
  pub eeprom_read : eeprom_at (p ++ (eeprom_bytes s rom ++ q)) (length p) ≡ s
  unfolding eeprom_bytes eeprom_at
  eeprom_read = rw append_assoc (ap eeprom_of (unpacked_packed eeprom_widths (eeprom_words s) (eeprom_fit s rom t) p _) ∙ eeprom_back s rom t)

  pub rom_read : zeros_from (size s.model) rom ≡ true → rom_at (p ++ (eeprom_bytes s rom ++ q)) (length p) (size s.model) ≡ rom
  unfolding eeprom_bytes rom_at
  rom_read z = after_words eeprom_widths (eeprom_words s) rom p q 256 (size s.model) refl t.memory.long (size_within s.model) z
