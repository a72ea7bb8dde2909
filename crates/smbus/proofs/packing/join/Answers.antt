use Rattle.std.proofs.Common.{◌≡◌, ◌+◌, ◌++◌, map, length, take, sym, refl, ap, ◌∙◌, arith, length-append}
use Rattle.event.specs.Bytes.{Bytes}
use Rattle.event.specs.Outcomes.{over_front}
use Rattle.smbus.specs.Packets.{payloads}
use Rattle.smbus.specs.Stored.{held}
use Rattle.smbus.specs.Joins.{copied_more, payloads_push, stored_more}
use Rattle.smbus.proofs.packing.join.Goals as goal

pub loop-packet-init : goal.loop-packet-init
unfolding payloads
loop-packet-init c = (refl, refl, omega arith)

pub loop-packet-preserved : goal.loop-packet-preserved
loop-packet-preserved c =
    let i = c.loop-packet.packet-index in
    let row = c.args.packets.now in
    let p = c.packet-item.result in
    let front = payloads (map held (take i row)) in
    let part = c.payload-payload.result.now in
    let more : payloads (map held (take (i + 1) row)) ≡ front ++ part =
    ap payloads (stored_more row i p c.loop-packet-test.true c.packet-item.is)
    ∙ payloads_push (map held (take i row)) (held p)
    ∙ ap (λ (b : Bytes). front ++ b) (sym c.payload-payload.ensures.part) in (
      omega (arith, ap length more, length-append front part),
      copied_more c.args.buffer.now c.loop-packet.buffer front part c.copy_from_slice.new.self c.loop-packet.at _
          c.loop-packet.invariant.1 c.loop-packet.invariant.0 c.copy_from_slice.ensures.after (omega arith)
          ∙ ap (λ (b : Bytes). over_front b c.args.buffer.now) (sym more),
      omega arith,
    )
