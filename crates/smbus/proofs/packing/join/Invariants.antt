use Rattle.std.proofs.Common.{◌≡◌, ◌*◌, ◌≤◌, map, length, take}
use Rattle.event.specs.Outcomes.{over_front}
use Rattle.smbus.specs.Packets.{payloads}
use Rattle.smbus.specs.Stored.{held}
use Rattle.smbus.proofs.packing.join.Given as goal

abbrev pub invariant-loop-packet : goal.invariant-loop-packet
invariant-loop-packet l =
    (l.at ≡ length (payloads (map held (take l.packet-index l.packets))))
    × (l.buffer ≡ over_front (payloads (map held (take l.packet-index l.packets))) l.initial.buffer)
    × (l.at ≤ 64 * l.packet-index)
