use Rattle.std.proofs.Common.{List, length, subst}
use Rattle.event.specs.Outcomes.{Gives}
use Rattle.event.specs.Sources.{Occurrence}
use Rattle.board.specs.Boards.{Sources}
use Rattle.board.specs.Tables.{table_sources}
use Rattle.wire.specs.Writing.{writes_answer}
use Rattle.crossing.specs.Crossing.{rows_told, chosen}
use Rattle.capi.proofs.Boards.{leaves, leaves-refused}
use Rattle.capi.proofs.writers.fenduxi_write_answer.Goals as goal

pub returns-in-Ok : goal.returns-in-Ok
returns-in-Ok c =
    let before = c.args.buffer.now in
    let room = length before in
    let gives = subst (λ (os : List Occurrence). Gives (writes_answer room c.args.slot os) before c.write_answer.new.buffer c.write_answer.result) c.marked.ensures c.write_answer.ensures.wrote in
    leaves (rows_told c.args.rows.now) before c.write_answer.new.buffer c.hand_out.new.count c.hand_out.result (table_sources c.in-Ok.board.rows)
    (λ (os : Sources). writes_answer room c.args.slot (chosen c.args.mask os)) c.write_answer.result c.in-Ok.ensures gives c.hand_out.ensures.number c.hand_out.ensures.count

pub returns-in-Err : goal.returns-in-Err
returns-in-Err c =
    leaves-refused (rows_told c.args.rows.now) c.args.buffer.now c.hand_out-in-Err.new.count c.hand_out-in-Err.result c.in-Err.refusal c.in-Err.ensures
    c.hand_out-in-Err.ensures.number c.hand_out-in-Err.ensures.count
    (writes_answer (length c.args.buffer.now) c.args.slot (chosen c.args.mask (rows_told c.args.rows.now)))
