use Rattle.std.proofs.Common.{Bool, cond, length, Ok, Err, sym, ap, ◌∙◌}
use Rattle.event.specs.Refusals.{number}
use Rattle.event.specs.declared.refusal.Refusal.TheVariants.{AddressTooHigh}
use Rattle.smbus.specs.Packets.{packets_on}
use Rattle.smbus.specs.Seen.{Seen, seen, seen_as, addressed, low_addresses}
use Rattle.crossing.specs.Outcomes.{refusal_number, count_of}
use Rattle.capi.specs.Packing.{laid, packets_sent}
use Rattle.capi.proofs.Sent.{low, high}
use Rattle.capi.proofs.carriers.fenduxi_packet_count.Goals as goal

pub returns-in-Ok : goal.returns-in-Ok
returns-in-Ok c =
    let a = addressed c.args.destination_address c.args.source_address c.args.source_id in
    let k = length (packets_sent a c.args.destination_id c.args.message.now) in
    let p = low (seen_as a (laid c.args.destination_id c.args.message.now)) (seen c.in-Ok.carrier) (low_addresses a) c.in-Ok.ensures in
    record {
      number = c.hand_out.ensures.number ∙ ap (λ (b : Bool). refusal_number (cond b (Ok k) (Err AddressTooHigh))) (sym p.0);
      count =
          c.hand_out.ensures.count
          ∙ c.packet_count.ensures.count
          ∙ ap (λ (s : Seen). length (packets_on s.addresses s.line)) p.1
          ∙ ap (λ (b : Bool). count_of (cond b (Ok k) (Err AddressTooHigh))) (sym p.0);
    }

pub returns-in-Err : goal.returns-in-Err
returns-in-Err c =
    let a = addressed c.args.destination_address c.args.source_address c.args.source_id in
    let k = length (packets_sent a c.args.destination_id c.args.message.now) in
    let p = high (seen_as a (laid c.args.destination_id c.args.message.now)) c.in-Err.refusal (low_addresses a) c.in-Err.ensures in
    record {
      number = c.hand_out-in-Err.ensures.number ∙ ap number p.1 ∙ ap (λ (b : Bool). refusal_number (cond b (Ok k) (Err AddressTooHigh))) (sym p.0);
      count = c.hand_out-in-Err.ensures.count ∙ ap (λ (b : Bool). count_of (cond b (Ok k) (Err AddressTooHigh))) (sym p.0);
    }
