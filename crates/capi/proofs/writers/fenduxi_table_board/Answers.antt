use Rattle.std.proofs.Common.{ap, ◌∙◌}
use Rattle.crossing.specs.Outcomes.{refusal_number}
use Rattle.capi.proofs.writers.fenduxi_table_board.Goals as goal

pub returns-in-Ok : goal.returns-in-Ok
returns-in-Ok c = ap refusal_number c.in-Ok.ensures

pub returns-in-Err : goal.returns-in-Err
returns-in-Err c = c.number.ensures ∙ ap refusal_number c.in-Err.ensures
