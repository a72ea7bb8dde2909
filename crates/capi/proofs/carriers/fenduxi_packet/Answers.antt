use Rattle.std.proofs.Common.{Bool, cond, length, sym, ap, ◌∙◌}
use Rattle.std.specs.Option.{unwrap_or}
use Rattle.event.specs.Outcomes.{Outcome, done, refusal, over_front}
use Rattle.event.specs.Refusals.{number}
use Rattle.event.specs.declared.refusal.Refusal.TheVariants.{AddressTooHigh}
use Rattle.event.proofs.Placed.{placed-front}
use Rattle.smbus.specs.Packets.{packets_on, chosen}
use Rattle.smbus.specs.Seen.{Seen, seen, seen_as, addressed, low_addresses}
use Rattle.crossing.specs.Outcomes.{refusal_number, count_of}
use Rattle.capi.specs.Packing.{laid, packet_sent}
use Rattle.capi.proofs.Sent.{low, high, or_none}
use Rattle.capi.proofs.carriers.fenduxi_packet.Goals as goal

pub returns-in-Ok : goal.returns-in-Ok
returns-in-Ok c =
    let a = addressed c.args.destination_address c.args.source_address c.args.source_id in
    let before = c.args.buffer.now in
    let room = length before in
    let p = low (seen_as a (laid c.args.destination_id c.args.message.now)) (seen c.in-Ok.carrier) (low_addresses a) c.in-Ok.ensures in
    let same =
    ap (λ (s : Seen). done (chosen (packets_on s.addresses s.line) c.args.number room)) p.1
    ∙ ap (λ (b : Bool). cond b (done (packet_sent a c.args.destination_id c.args.message.now c.args.number room)) (refusal AddressTooHigh)) (sym p.0) in
    record {
      number = c.hand_out.ensures.number ∙ ap (λ (o : Outcome). refusal_number o.result) same;
      count =
          c.hand_out.ensures.count
          ∙ c.unwrap_or.ensures
          ∙ ap (λ n. unwrap_or n 0) c.copy_packet.ensures.count
          ∙ or_none _
          ∙ ap (λ (o : Outcome). count_of o.result) same;
      buffer = c.copy_packet.ensures.buffer ∙ placed-front before _ ∙ ap (λ (o : Outcome). over_front o.written before) same;
    }

pub returns-in-Err : goal.returns-in-Err
returns-in-Err c =
    let a = addressed c.args.destination_address c.args.source_address c.args.source_id in
    let before = c.args.buffer.now in
    let bytes = packet_sent a c.args.destination_id c.args.message.now c.args.number (length before) in
    let p = high (seen_as a (laid c.args.destination_id c.args.message.now)) c.in-Err.refusal (low_addresses a) c.in-Err.ensures in
    let same = ap (λ (b : Bool). cond b (done bytes) (refusal AddressTooHigh)) (sym p.0) in
    record {
      number = c.hand_out-in-Err.ensures.number ∙ ap number p.1 ∙ ap (λ (o : Outcome). refusal_number o.result) same;
      count = c.hand_out-in-Err.ensures.count ∙ ap (λ (o : Outcome). count_of o.result) same;
      buffer = ap (λ (o : Outcome). over_front o.written before) same;
    }
