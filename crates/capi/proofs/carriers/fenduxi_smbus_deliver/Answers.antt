use Rattle.std.proofs.Common.{Bool, cond, length, sym, ap, ◌∙◌}
use Rattle.event.specs.Outcomes.{Outcome, refusal, over_front}
use Rattle.event.specs.Refusals.{number}
use Rattle.event.specs.declared.refusal.Refusal.TheVariants.{AddressTooHigh}
use Rattle.carrier.specs.Carriers.{new_line, after_put, fetched}
use Rattle.smbus.specs.Seen.{Seen, seen, seen_as, addressed, low_addresses}
use Rattle.crossing.specs.Outcomes.{refusal_number, count_of}
use Rattle.capi.specs.Packing.{laid}
use Rattle.capi.proofs.Sent.{low, high}
use Rattle.capi.proofs.carriers.fenduxi_smbus_deliver.Goals as goal

pub returns-in-Ok : goal.returns-in-Ok
returns-in-Ok c =
    let a = addressed c.args.destination_address c.args.source_address c.args.source_id in
    let destination = c.args.destination_id in
    let message = c.args.message.now in
    let before = c.args.buffer.now in
    let room = length before in
    let p = low (seen_as a new_line) (seen c.in-Ok.carrier) (low_addresses a) c.in-Ok.ensures in
    let same =
    ap (λ (s : Seen). fetched room (after_put s.line destination message).message) p.1
    ∙ ap (λ (b : Bool). cond b (fetched room (laid destination message).message) (refusal AddressTooHigh)) (sym p.0) in
    let result = c.deliver.ensures.gives.result ∙ ap (λ (o : Outcome). o.result) same in
    record {
      number = c.hand_out.ensures.number ∙ ap refusal_number result;
      count = c.hand_out.ensures.count ∙ ap count_of result;
      buffer = c.deliver.ensures.gives.buffer ∙ ap (λ (o : Outcome). over_front o.written before) same;
    }

pub returns-in-Err : goal.returns-in-Err
returns-in-Err c =
    let a = addressed c.args.destination_address c.args.source_address c.args.source_id in
    let before = c.args.buffer.now in
    let o = fetched (length before) (laid c.args.destination_id c.args.message.now).message in
    let p = high (seen_as a new_line) c.in-Err.refusal (low_addresses a) c.in-Err.ensures in
    let same = ap (λ (b : Bool). cond b o (refusal AddressTooHigh)) (sym p.0) in
    record {
      number = c.hand_out-in-Err.ensures.number ∙ ap number p.1 ∙ ap (λ (o : Outcome). refusal_number o.result) same;
      count = c.hand_out-in-Err.ensures.count ∙ ap (λ (o : Outcome). count_of o.result) same;
      buffer = ap (λ (o : Outcome). over_front o.written before) same;
    }
