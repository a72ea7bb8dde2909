use Rattle.std.proofs.Common.{◌≡◌, drop}
use Rattle.carrier.specs.Mailboxes.{line_of}
use Rattle.endpoint.specs.View.{as_endpoint}
use Rattle.measured.specs.Runs.{run, steps, new_steps}
use Rattle.measured.proofs.runs.take_steps.Given as goal

-- what is left to take gives what the whole gives
abbrev pub invariant-loop-number : goal.invariant-loop-number
invariant-loop-number g l =
    steps (g.B.Board.told l.board) l.message (drop l.number-index l.steps) (line_of l.carrier) (as_endpoint l.endpoint) (run l.last l.buffer)
    ≡ new_steps (g.B.Board.told l.board) l.message l.steps l.initial.buffer
