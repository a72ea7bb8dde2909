use Rattle.std.proofs.Common.{◌≡◌, ◌≤◌, true, List, length, map, take, ap, sym, ◌∙◌, arith}
use Rattle.event.specs.Sources.{Occurrence}
use Rattle.board.specs.Tables.{rows_told as told_of, row_refusal, board_of}
use Rattle.crossing.specs.Crossing.{row_kept, all_short}
use Rattle.crossing.proofs.Short.{refused_long, board_kept}
use Rattle.crossing.proofs.input.table_of.Goals as goal
use Rattle.crossing.proofs.input.table_of.Goals.{else-rows-le64-via-then-rows-le64+else-not-all_short, else-rows-le64-via-else-rows-le64}

pub returns-then-not-all_short : goal.returns-then-not-all_short
returns-then-not-all_short c = refused_long c.args.rows.now c.if-rows-le64.true (sym c.all_short.ensures ∙ c.if-not-all_short.true)

pub returns : goal.returns
returns c =
    let rows = c.args.rows.now in
    let short : length rows ≤ 64 → all_short rows ≡ true = λ h. elim c.else-rows-le64.branch [
      | else-rows-le64-via-then-rows-le64+else-not-all_short w ↦ sym w.all_short.ensures ∙ w.if-not-all_short.false
      | else-rows-le64-via-else-rows-le64 w ↦ absurd (omega arith)
    ] in
    let kept : told_of c.deref.result.now ≡ map row_kept (take 65 rows) = ap told_of c.deref.ensures.0 ∙ c.told_rows.ensures in
    c.new.ensures ∙ ap (λ (os : List Occurrence). board_of (row_refusal os) os) kept ∙ board_kept rows short
