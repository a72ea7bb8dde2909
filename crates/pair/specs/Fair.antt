-- The first two promises of a pair of the code, after any number of its runs. Assumes nothing.
use Rattle.std.specs.Prelude.{◌≡◌, true, List}
use Rattle.board.specs.Boards.{Sources, lawful_board}
use Rattle.carrier.specs.Carriers.{Line}
use Rattle.protocol.specs.Pair.{Pair, new_pair, Call, run}
use Rattle.protocol.specs.History.{History, new_history, after_calls}
use Rattle.protocol.specs.Promise.{Given, PresentOrMarked, WasSo}

-- p was new, with a lawful board and any carrier, and went through fair calls; h is what went before
pub record CameFairly (p : Pair) (h : History) : Type 0 where
  pub board : Sources
  pub lawful : lawful_board board ≡ true
  pub line : Line
  pub calls : List Call
  pub given : Given (new_pair board line) new_history calls
  pub pair : p ≡ run (new_pair board line) calls
  pub history : h ≡ after_calls (new_pair board line) calls new_history

-- if p came fairly and goes through fair calls, so did p', and the first two promises hold of it
abbrev pub KeepsPromises : (p : Pair) → List Call → (p' : Pair) → Type 0
KeepsPromises p calls p' = (h : History) → CameFairly p h → Given p h calls →
    CameFairly p' (after_calls p calls h) × (PresentOrMarked p' × WasSo p' (after_calls p calls h))
