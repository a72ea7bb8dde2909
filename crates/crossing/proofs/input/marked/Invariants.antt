use Rattle.marks.specs.View.{marks_of}
use Rattle.crossing.proofs.Marked.{MarkedBelow}
use Rattle.crossing.proofs.input.marked.Given as goal

-- those of the places so far are marked
abbrev pub invariant-loop-place : goal.invariant-loop-place
invariant-loop-place g l = MarkedBelow (g.B.Board.told l.board) l.mask l.place (marks_of l.marks)
