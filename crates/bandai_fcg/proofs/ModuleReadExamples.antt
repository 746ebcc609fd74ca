-- MODULE READS, COMPUTED: before an insertion, at the first and the last clock of a module, past the end of the card, at the last clock that a
-- valid reader has, and without a reader. Each hypothesis of the laws is met by one of these boards. Assumes nothing.
use Rattle.std.specs.Prelude.{◌≡◌, ℕ, ◌+◌, ◌^◌, ◌<◌, ◌≤◌, true, false, [], ◌∷◌, map, refl}
use Rattle.std.proofs.Common.{arith}
use Rattle.laws.specs.Decimal.{decimal, zeros_before}
use Rattle.laws.specs.Lists.{blank, padded}
use Rattle.digits.specs.Digits.{digits_of, weighed, weights, check_digit_of}
use Rattle.barcode.specs.Barcode.{modules_in, modules_of, patterns, pattern_of, patterns_of, parities, parity_of, left_of, right_of, lights, guard, centre}
use Rattle.cart.specs.CartWords.{cart_from}
use Rattle.bandai_fcg.specs.declared.board.Board.{Board}
use Rattle.bandai_fcg.specs.declared.module_read.ModuleRead.{ModuleRead}
use Rattle.bandai_fcg.specs.Reader.{at_clock, module_read_at}
use Rattle.bandai_fcg.specs.BoardSet.{with_reader, with_bandai}
use Rattle.bandai_fcg.specs.Board.{fitted_state, fitted, with_input, init_of, module_read_of}

-- a board of a mapper, its reader at a clock
unfoldable pub board_at : ℕ → ℕ → Board
board_at mapper n =
    let b = fitted (cart_from (mapper ∷ 0 ∷ 0 ∷ 1 ∷ 4 ∷ 262144 ∷ 0 ∷ 8192 ∷ 0 ∷ 256 ∷ 2048 ∷ 0 ∷ [])) in
    with_bandai (with_reader (at_clock n b.bandai.barcode_reader) b.bandai) b

-- the same, with a card of 13 digits put in and inserted at clock 2,500, so many clocks later
unfoldable pub card_after : ℕ → Board
card_after n =
    let put = board_at 157 2500 in
    let b = init_of (with_bandai (with_input 4901234567894 13 put.bandai) put) in
    with_bandai (with_reader (at_clock (2500 + n) b.bandai.barcode_reader) b.bandai) b

-- number, clocks spent and light
abbrev triple : ℕ → ℕ → ℕ → ModuleRead
triple n s l = record { number = n; spent = s; light = l }

pub before_insertion : module_read_of (board_at 157 2500) ≡ triple 2 500 0
unfolding board_at fitted_state fitted module_read_of module_read_at
before_insertion = refl

pub at_limit : module_read_of (board_at 157 (2 ^ 62)) ≡ triple 4611686018427387 904 0
unfolding board_at fitted_state fitted module_read_of module_read_at
at_limit = refl

pub of_159 : module_read_of (board_at 159 2500) ≡ triple 0 0 0
unfolding board_at fitted_state fitted module_read_of module_read_at
of_159 = refl

pub card_reads : map (λ n. module_read_of (card_after n)) (0 ∷ 32999 ∷ 33000 ∷ 33500 ∷ 159999 ∷ 160000 ∷ 1000000 ∷ []) ≡
    triple 0 0 8 ∷ triple 32 999 8 ∷ triple 33 0 0 ∷ triple 33 500 0 ∷ triple 159 999 8 ∷ triple 160 0 0 ∷ triple 1000 0 0 ∷ []
unfolding board_at card_after fitted_state fitted with_input init_of module_read_of module_read_at modules_in modules_of digits_of decimal zeros_before blank padded patterns pattern_of patterns_of parities parity_of weighed weights check_digit_of left_of right_of lights guard centre
card_reads = refl

-- THE LAWS' HYPOTHESES, met: a reader that shows a module, one past the end of its card, a board without a reader
pub shown_met : ((card_after 32999).bandai.has_barcode_reader ≡ true) × ((module_read_of (card_after 32999)).number < (card_after 32999).bandai.barcode_reader.module_count)
unfolding board_at card_after fitted_state fitted with_input init_of module_read_of module_read_at modules_in modules_of digits_of decimal zeros_before blank padded patterns pattern_of patterns_of parities parity_of weighed weights check_digit_of left_of right_of lights guard centre
shown_met = (refl, omega arith)

pub past_met : (card_after 160000).bandai.barcode_reader.module_count ≤ (module_read_of (card_after 160000)).number
unfolding board_at card_after fitted_state fitted with_input init_of module_read_of module_read_at modules_in modules_of digits_of decimal zeros_before blank padded patterns pattern_of patterns_of parities parity_of weighed weights check_digit_of left_of right_of lights guard centre
past_met = omega arith

pub none_met : (board_at 159 2500).bandai.has_barcode_reader ≡ false
unfolding board_at fitted_state fitted
none_met = refl
