use Rattle.std.proofs.Common.{List, ap, ◌∙◌}
use Rattle.event.specs.Sources.{Occurrence}
use Rattle.board.specs.Boards.{Sources}
use Rattle.board.specs.Tables.{table_sources}
use Rattle.measured.specs.Runs.{writes, at_start}
use Rattle.crossing.specs.Crossing.{rows_told, chosen}
use Rattle.capi.proofs.Boards.{runs, runs-refused}
use Rattle.capi.proofs.runs.fenduxi_write_events.Goals as goal

pub returns-in-Ok : goal.returns-in-Ok
returns-in-Ok c =
    let before = c.args.buffer.now in
    let ts = c.args.transmissions.now in
    let ran = c.write_all.ensures ∙ ap (λ (os : List Occurrence). writes os ts (at_start before)) c.marked.ensures in
    runs (rows_told c.args.rows.now) before c.write_all.new.buffer c.hand_out.new.count c.hand_out.result (table_sources c.in-Ok.board.rows)
    (λ (board : Sources). writes (chosen c.args.mask board) ts (at_start before)) c.write_all.result c.in-Ok.ensures ran c.hand_out.ensures.number c.hand_out.ensures.count

pub returns-in-Err : goal.returns-in-Err
returns-in-Err c =
    let before = c.args.buffer.now in
    let rows = rows_told c.args.rows.now in
    runs-refused rows before c.hand_out-in-Err.new.count c.hand_out-in-Err.result c.in-Err.refusal c.in-Err.ensures
    c.hand_out-in-Err.ensures.number c.hand_out-in-Err.ensures.count (writes (chosen c.args.mask rows) c.args.transmissions.now (at_start before))
