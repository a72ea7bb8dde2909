use Rattle.std.proofs.Common.{◌≡◌, drop}
use Rattle.marks.specs.View.{occurrences_in}
use Rattle.measured.specs.Runs.{run, at_start, writes}
use Rattle.measured.proofs.runs.write_all.Given as goal

-- what is left to write gives what the whole gives
abbrev pub invariant-loop-transmission : goal.invariant-loop-transmission
invariant-loop-transmission g l =
    writes (occurrences_in g.B.Board.told l.marked) (drop l.transmission-index l.transmissions) (run l.last l.buffer)
    ≡ writes (occurrences_in g.B.Board.told l.marked) l.transmissions (at_start l.initial.buffer)
