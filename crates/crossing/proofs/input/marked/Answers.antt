use Rattle.std.proofs.Common.{ap, sym, ◌∙◌, arith}
use Rattle.board.proofs.Rereads.{few_sources}
use Rattle.marks.specs.View.{marks_of}
use Rattle.marks.specs.declared.types.Marks.{Marks}
use Rattle.crossing.proofs.Marked.{none_marked, marked_more, marked_same, all_listed}
use Rattle.crossing.proofs.input.marked.Goals as goal
use Rattle.crossing.proofs.input.marked.Goals.{then-is_set, else-is_set}

pub is_set-requires : goal.is_set-requires
is_set-requires g c = omega (arith, few_sources (g.B.Board.told c.args.board.now) (g.met.B.Board.lawful c.args.board.now), c.count-place-end.ensures)

pub loop-place-init : goal.loop-place-init
loop-place-init g c = none_marked (g.B.Board.told c.args.board.now) c.args.mask _ c.none-marks.ensures

pub loop-place-preserved : goal.loop-place-preserved
loop-place-preserved g c =
    let told = g.B.Board.told c.args.board.now in
    let i = c.loop-place.place in
    let m = marks_of c.loop-place.marks in
    elim c.if-is_set.branch [
      | then-is_set w ↦ marked_more told c.args.mask i m (marks_of c.if-is_set.marks) (ap marks_of w.marks-is ∙ w.mark_place.ensures) (sym c.is_set.ensures ∙ w.if-is_set.true) c.loop-place.invariant
      | else-is_set w ↦ λ q. ap (λ (k : Marks). marks_of k q) w.marks-is ∙ marked_same told c.args.mask i m (sym c.is_set.ensures ∙ w.if-is_set.false) c.loop-place.invariant q
    ]

pub returns : goal.returns
returns g c = all_listed (g.B.Board.told c.args.board.now) c.args.mask c.loop-place.place (marks_of c.loop-place.marks) (omega (arith, c.count-place-end.ensures)) c.loop-place.invariant
