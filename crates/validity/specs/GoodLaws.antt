-- A good board by its parts, both ways, and a fresh board is good. Assumes nothing.
use Rattle.std.specs.Prelude.{◌≡◌}
use Rattle.cart.specs.declared.Cart.{Cart}
use Rattle.bandai_fcg.specs.declared.board.Board.{Board}
use Rattle.cart.specs.CartWords.{TypedCart}
use Rattle.cart.specs.Cart.{cart_refusal}
use Rattle.bandai_fcg.specs.Board.{fitted}
use Rattle.bandai_fcg.specs.Typed.{TypedBoard}
use Rattle.bandai_fcg.proofs.TypedLaws.{fresh_typed}
use Rattle.validity.specs.ValidLaws.{Valid, valid_parts, parts_valid, fresh_valid}
use Rattle.validity.specs.Good.{Good}

-- typed, and valid in each of the five parts
pub good_parts : (b : Board) → Good b → TypedBoard b × Valid b
good_parts b g = (g.typed, valid_parts b g.valid)

pub parts_good : (b : Board) → TypedBoard b → Valid b → Good b
parts_good b t v = record { typed = t; valid = parts_valid b v }

pub fresh_good : (c : Cart) → TypedCart c → cart_refusal c ≡ 0 → Good (fitted c)
fresh_good c t h = record { typed = fresh_typed c t; valid = fresh_valid c h }
