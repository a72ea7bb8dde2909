use Rattle.std.proofs.Common.{length, ap, ◌∙◌}
use Rattle.event.specs.Outcomes.{Outcome, over_front}
use Rattle.carrier.specs.Carriers.{Line, after_put, fetched}
use Rattle.crossing.specs.Outcomes.{refusal_number, count_of}
use Rattle.capi.proofs.carriers.fenduxi_mailbox_deliver.Goals as goal

pub returns : goal.returns
returns c =
    let before = c.args.buffer.now in
    let same = ap (λ (l : Line). fetched (length before) (after_put l c.args.destination_id c.args.message.now).message) c.new-mailbox.ensures in
    let result = c.deliver.ensures.gives.result ∙ ap (λ (o : Outcome). o.result) same in
    record {
      number = c.hand_out.ensures.number ∙ ap refusal_number result;
      count = c.hand_out.ensures.count ∙ ap count_of result;
      buffer = c.deliver.ensures.gives.buffer ∙ ap (λ (o : Outcome). over_front o.written before) same;
    }
