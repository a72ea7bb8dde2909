use Rattle.std.proofs.Common.{ap, ◌∙◌}
use Rattle.crossing.specs.Outcomes.{refusal_number, count_of}
use Rattle.capi.proofs.writers.fenduxi_write_ack.Goals as goal

pub returns : goal.returns
returns c = record {
  number = c.hand_out.ensures.number ∙ ap refusal_number c.write_ack.ensures.result;
  count = c.hand_out.ensures.count ∙ ap count_of c.write_ack.ensures.result;
  buffer = c.write_ack.ensures.buffer;
}
