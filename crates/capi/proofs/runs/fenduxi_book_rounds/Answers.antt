use Rattle.std.proofs.Common.{ap, ◌∙◌}
use Rattle.crossing.specs.Outcomes.{refusal_number, count_of}
use Rattle.capi.proofs.runs.fenduxi_book_rounds.Goals as goal

pub returns : goal.returns
returns c = record {
  number = c.hand_out.ensures.number ∙ ap refusal_number c.go_round.ensures.result;
  count = c.hand_out.ensures.count ∙ ap count_of c.go_round.ensures.result;
  buffer = c.go_round.ensures.buffer;
}
