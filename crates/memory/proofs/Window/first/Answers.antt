-- `memory::Window::first` meets its contract: by definition.
-- Assumes nothing.
use mathlib.Core.Path.{refl}
use Rattle.memory.specs.Walked.{first_window}
use Rattle.memory.proofs.Window.first.Goals as goal

pub returns : goal.returns
unfolding first_window
returns c = refl
