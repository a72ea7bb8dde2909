use Rattle.board.specs.Boards.{Sources}
use Rattle.board.specs.Tables.{table_sources}
use Rattle.measured.specs.Runs.{new_steps}
use Rattle.crossing.specs.Crossing.{rows_told}
use Rattle.capi.proofs.Boards.{runs, runs-refused}
use Rattle.capi.proofs.runs.fenduxi_endpoint_steps.Goals as goal

pub returns-in-Ok : goal.returns-in-Ok
returns-in-Ok c =
    let before = c.args.buffer.now in
    runs (rows_told c.args.rows.now) before c.take_steps.new.buffer c.hand_out.new.count c.hand_out.result (table_sources c.in-Ok.board.rows)
    (λ (board : Sources). new_steps board c.args.message.now c.args.steps.now before) c.take_steps.result c.in-Ok.ensures c.take_steps.ensures c.hand_out.ensures.number c.hand_out.ensures.count

pub returns-in-Err : goal.returns-in-Err
returns-in-Err c =
    let before = c.args.buffer.now in
    runs-refused (rows_told c.args.rows.now) before c.hand_out-in-Err.new.count c.hand_out-in-Err.result c.in-Err.refusal c.in-Err.ensures
    c.hand_out-in-Err.ensures.number c.hand_out-in-Err.ensures.count (new_steps (rows_told c.args.rows.now) c.args.message.now c.args.steps.now before)
