use Rattle.std.proofs.Common.{◌≡◌, ◌<◌, Bool, cond, Some, ap, ◌∙◌, arith, rules}
use Rattle.std.proofs.lemmas.Bool.{lt-ltb}
use Rattle.event.specs.View.{held}
use Rattle.marks.specs.Marking.{update}
use Rattle.marks.specs.View.{marks_of}
use Rattle.board.proofs.Rereads.{few_sources}
use Rattle.enabling.proofs.Present.{Among, none_yet, shot_marked, shot_never, shot_off, shot_past}
use Rattle.enabling.proofs.snapshot.Goals as goal
use Rattle.enabling.proofs.snapshot.Goals.{in-Some+then-has+in-Some-reading, in_default, in_default-via-in-None-1, in_default-via-in-Some+else-has, in_default-via-in-Some+then-has+in-None-1}

pub loop-place-init : goal.loop-place-init
loop-place-init g c = c.none-marks.ensures ∙ none_yet c.args.set (g.B.Board.told c.args.board.now)

pub loop-place-preserved : goal.loop-place-preserved
loop-place-preserved g c =
    let told = g.B.Board.told c.args.board.now in
    let i = c.loop-place.place in
    let set = c.args.set in
    let m = marks_of c.loop-place.marks in
    let below : i < 64 = omega (arith, few_sources told (g.met.B.Board.lawful c.args.board.now), c.count-place-end.ensures) in
    elim c.match-id.branch [
      | in-Some+then-has+in-Some-reading w ↦
          shot_marked set told i w.in-Some.id (held w.in-Some-reading.reading) m (marks_of c.match-id.marks)
          w.in-Some.ensures w.if-has.ensures w.in-Some-reading.ensures c.loop-place.invariant
          (ap marks_of w.marks-is ∙ w.mark.ensures.after ∙ ap (λ (b : Bool). cond b (update m i (Some (held w.in-Some-reading.reading))) m) (lt-ltb i 64 below))
      | in_default w ↦
          let kept : marks_of c.match-id.marks ≡ Among set told i = ap marks_of w.marks-is ∙ c.loop-place.invariant in
          kept ∙ elim w.in_default.branch [
            | in_default-via-in-None-1 v ↦ shot_past set told i (search rules)
            | in_default-via-in-Some+else-has v ↦ shot_off set told i v.in-Some.id v.in-Some.ensures v.if-has.ensures
            | in_default-via-in-Some+then-has+in-None-1 v ↦ absurd (shot_never set told i v.in-Some.id v.in-Some.ensures (search rules))
          ]
    ]
