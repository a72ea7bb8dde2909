use Rattle.std.proofs.Common.{◌+◌, get_or, length, drop, ◌∙◌}
use Rattle.carrier.specs.Mailboxes.{line_of}
use Rattle.endpoint.specs.View.{as_endpoint}
use Rattle.measured.specs.Runs.{run, step}
use Rattle.measured.proofs.Calls.{turned, step_more, step_end}
use Rattle.measured.proofs.runs.take_steps.Goals as goal

pub loop-number-preserved : goal.loop-number-preserved
loop-number-preserved g c =
    let board = g.B.Board.told c.args.board.now in
    let message = c.args.message.now in
    let ns = c.args.steps.now in
    let i = c.loop-number.number-index in
    let before = c.loop-number.buffer in
    let line = line_of c.loop-number.carrier in
    let e = as_endpoint c.loop-number.endpoint in
    turned board message (drop (i + 1) ns) (step board message (get_or ns i 0) (length before) line e) (line_of c.step-last.new.carrier) (as_endpoint c.step-last.new.endpoint) before
    c.step-last.new.buffer c.step-last.result c.step-last.ensures
    ∙ step_more board message ns i line e c.loop-number.last before c.loop-number-test.true
    ∙ c.loop-number.invariant

pub returns : goal.returns
returns g c =
    step_end (g.B.Board.told c.args.board.now) c.args.message.now c.args.steps.now c.loop-number.number-index (line_of c.loop-number.carrier) (as_endpoint c.loop-number.endpoint)
    (run c.loop-number.last c.loop-number.buffer) c.loop-number-test.false
    ∙ c.loop-number.invariant
