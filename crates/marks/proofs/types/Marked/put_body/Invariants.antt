use Rattle.std.proofs.Common.{◌≡◌, ◌+◌, length}
use Rattle.event.specs.Bytes.{placed}
use Rattle.event.specs.Sources.{ids}
use Rattle.list.specs.Lists.{body}
use Rattle.marks.specs.View.{marks_of, occurrences_in}
use Rattle.marks.proofs.Listing.{rest}
use Rattle.marks.proofs.types.Marked.put_body.Given as goal

-- writing what is left gives what the whole gives
abbrev pub invariant-loop-place : goal.invariant-loop-place
invariant-loop-place g l =
    (placed l.out l.at (rest (ids (g.B.Board.told l.self.board.now)) (marks_of l.self.marks.now) l.place) ≡ placed l.initial.out 0 (body (occurrences_in g.B.Board.told l.self)))
    × (l.at + length (rest (ids (g.B.Board.told l.self.board.now)) (marks_of l.self.marks.now) l.place) ≡ length (body (occurrences_in g.B.Board.told l.self)))
