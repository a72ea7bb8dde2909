use Rattle.std.proofs.Common.{◌≡◌}
use Rattle.marks.specs.View.{marks_of}
use Rattle.enabling.proofs.Present.{Among}
use Rattle.enabling.proofs.snapshot.Given as goal

-- those of the places so far are marked
abbrev pub invariant-loop-place : goal.invariant-loop-place
invariant-loop-place g l = marks_of l.marks ≡ Among l.set (g.B.Board.told l.board) l.place
