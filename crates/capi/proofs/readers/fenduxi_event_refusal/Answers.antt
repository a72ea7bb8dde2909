use Rattle.std.proofs.Common.{ap, ◌∙◌}
use Rattle.crossing.specs.Outcomes.{refusal_number}
use Rattle.capi.proofs.readers.fenduxi_event_refusal.Goals as goal

pub returns-in-Ok : goal.returns-in-Ok
returns-in-Ok c = ap refusal_number c.in-Ok.ensures.said

pub returns-in-Err : goal.returns-in-Err
returns-in-Err c = c.number.ensures ∙ ap refusal_number c.in-Err.ensures.said
