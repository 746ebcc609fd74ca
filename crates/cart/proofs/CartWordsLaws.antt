-- A description is read back from its words; any words give a description that fits the machine's types.
-- Assumes nothing.
use Rattle.std.specs.Prelude.{◌≡◌, List, ℕ}
use Rattle.std.proofs.Common.{ap}
use Rattle.laws.proofs.WordsLaws.{cut_fits, cut_same}
use Rattle.cart.specs.declared.Cart.{Cart}
use Rattle.cart.specs.CartWords.{cart_widths, cart_words, cart_from, cart_of, TypedCart}

pub cart_back : (c : Cart) → TypedCart c → cart_of (cart_words c) ≡ c
unfolding cart_of
cart_back c t = ap cart_from (cut_same cart_widths (cart_words c) t)

pub cart_typed : (xs : List ℕ) → TypedCart (cart_of xs)
unfolding cart_of
cart_typed xs = cut_fits cart_widths xs 0
