use Rattle.std.proofs.Common.{◌≡◌, ℕ, List, ◌++◌, ◌+◌, ◌-◌, ◌<◌, ◌≤◌, length, sym, ap, ◌∙◌, arith, length-append}
use borrow.Rule.Slice.PartMut.{put_mid}
use Rattle.event.specs.declared.id.UniqueId.{UniqueId}
use Rattle.event.specs.declared.reading.Reading.{Reading}
use Rattle.event.specs.Bytes.{placed}
use Rattle.event.specs.Sources.{occurrence, ids}
use Rattle.event.specs.View.{held}
use Rattle.list.specs.Lists.{occurrence_bytes}
use Rattle.event.proofs.Placed.{placed-placed, placed-none}
use Rattle.marks.specs.Marking.{Marking}
use Rattle.marks.specs.View.{marks_of}
use Rattle.board.proofs.Rereads.{length_ids}
use Rattle.marks.proofs.Listing.{rest, rest-some, rest-none, rest_end}
use Rattle.marks.proofs.Parts.{part_placed, length-part}
use Rattle.marks.proofs.types.Marked.put_body.Goals as goal
use Rattle.marks.proofs.types.Marked.put_body.Goals.{in-Some, in_default}

-- the bytes of the occurrence at the place, and of what is left after it
step-length : (us : List UniqueId) (m : Marking) (i : ℕ) (u : UniqueId) (x : Reading) → rest us m i ≡ occurrence_bytes (occurrence u (held x)) ++ rest us m (i + 1)
    → length (rest us m i) ≡ length (occurrence_bytes (occurrence u (held x))) + length (rest us m (i + 1))
step-length us m i u x e = ap length e ∙ length-append _ _

pub loop-place-preserved : goal.loop-place-preserved
loop-place-preserved g c =
    let us = ids (g.B.Board.told c.args.self.now.board.now) in
    let m = marks_of c.args.self.now.marks.now in
    let i = c.loop-place.place in
    let left = rest us m (i + 1) in
    let inside : i < length us = omega (arith, length_ids (g.B.Board.told c.args.self.now.board.now), c.count-place-end.ensures) in
    elim c.match-zip.branch [
      | in-Some w ↦
          let bytes = occurrence_bytes (occurrence w.in-Some.id (held w.in-Some.reading)) in
          let d = c.loop-place.out in
          let at = c.loop-place.at in
          let step = rest-some us m i _ _ _ _ c.id.ensures c.get.ensures w.in-Some.ensures in
          let long = step-length us m i w.in-Some.id w.in-Some.reading step in
          let wrote = w.put_occurrence-at.ensures in
          let is-out = w.out-is ∙ ap (put_mid at (length d - at) d) wrote.out ∙ part_placed at d bytes in
          let is_at = w.at-is ∙ ap (λ (n : ℕ). at + n) wrote.count in (
            (λ i. placed (is-out i) (is_at i) left) ∙ placed-placed d at bytes left (omega arith) ∙ ap (placed d at) (sym step) ∙ c.loop-place.invariant.0,
            omega arith,
          )
      | in_default w ↦
          let step = rest-none us m i _ _ inside c.id.ensures c.get.ensures w.in_default.ensures in
          let long = ap length step in
          let is-out = w.out-is in
          let is_at = w.at-is in
          ((λ i. placed (is-out i) (is_at i) left) ∙ ap (placed c.loop-place.out c.loop-place.at) (sym step) ∙ c.loop-place.invariant.0, omega arith)
    ]

pub put_occurrence-at-requires : goal.put_occurrence-at-requires
put_occurrence-at-requires g c =
    let us = ids (g.B.Board.told c.args.self.now.board.now) in
    let m = marks_of c.args.self.now.marks.now in
    let step = rest-some us m c.loop-place.place _ _ _ _ c.id.ensures c.get.ensures c.in-Some.ensures in
    omega (arith, step-length us m c.loop-place.place c.in-Some.id c.in-Some.reading step, length-part c.loop-place.at c.loop-place.out)

pub overflow_add-at : goal.overflow_add-at
overflow_add-at g c =
    let us = ids (g.B.Board.told c.args.self.now.board.now) in
    let m = marks_of c.args.self.now.marks.now in
    let step = rest-some us m c.loop-place.place _ _ _ _ c.id.ensures c.get.ensures c.in-Some.ensures in
    omega (arith, step-length us m c.loop-place.place c.in-Some.id c.in-Some.reading step, c.put_occurrence-at.ensures.count)

pub returns : goal.returns
returns g c =
    let us = ids (g.B.Board.told c.args.self.now.board.now) in
    let past : length us ≤ c.loop-place.place = omega (arith, length_ids (g.B.Board.told c.args.self.now.board.now), c.count-place-end.ensures) in
    let z = rest_end us (marks_of c.args.self.now.marks.now) c.loop-place.place past in
    sym (placed-none c.loop-place.out c.loop-place.at) ∙ ap (placed c.loop-place.out c.loop-place.at) (sym z) ∙ c.loop-place.invariant.0
