-- A board of a state and the arrays beside it. Assumes nothing.
use Rattle.bandai_fcg.specs.declared.board.BandaiFCG.{BandaiFCG}
use Rattle.bandai_fcg.specs.declared.board.Board.{Board}
use Rattle.bandai_fcg.specs.BoardSet.{with_arrays}
use Rattle.event_step.specs.declared.Arrays.{Arrays}

abbrev pub board_of : BandaiFCG → Arrays → Board
board_of s a = with_arrays s a.modules a.standard_rom a.extra_rom
