use Rattle.std.proofs.Common.{◌<◌, Bool, cond, Some, Option, ap, ◌∙◌, arith, rules}
use Rattle.std.proofs.lemmas.Bool.{lt-ltb}
use Rattle.event.specs.View.{held}
use Rattle.event.specs.Bytes.{Bytes}
use Rattle.marks.specs.Marking.{update}
use Rattle.marks.specs.View.{marks_of}
use Rattle.board.proofs.Rereads.{few_sources}
use Rattle.crossing.proofs.Marked.{never}
use Rattle.crossing.proofs.input.mark_place.Goals as goal

pub returns-in-Some : goal.returns-in-Some
returns-in-Some g c =
    let told = g.B.Board.told c.args.board.now in
    let i = c.args.place in
    let m = marks_of c.args.marks.now in
    let below : i < 64 = omega (arith, few_sources told (g.met.B.Board.lawful c.args.board.now)) in
    c.mark.ensures.after
    ∙ ap (λ (b : Bool). cond b (update m i (Some (held c.in-Some.reading))) m) (lt-ltb i 64 below)
    ∙ ap (λ (r : Option Bytes). update m i r) c.in-Some.ensures

pub returns-in_default : goal.returns-in_default
returns-in_default g c = absurd (never (g.B.Board.told c.args.board.now) c.args.place c.requires (search rules))
