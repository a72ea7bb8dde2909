use Rattle.std.proofs.Common.{◌≡◌, ◌*◌, ◌≤◌, map, length, drop}
use Rattle.std.specs.List.{range_with_len}
use Rattle.carrier.specs.Carriers.{message_to}
use Rattle.smbus.specs.Packets.{packet, packet_count}
use Rattle.smbus.specs.Stored.{stored}
use Rattle.smbus.proofs.packing.split.Given as goal

abbrev pub invariant-loop-number : goal.invariant-loop-number
invariant-loop-number l =
    let n = l.number-iterator.count in record {
      size : l.number-iterator.iter.size ≡ 64;
      rest : l.number-iterator.iter.rest.now ≡ drop (64 * n) l.message;
      few : n ≤ packet_count (length l.message);
      whole : length l.row ≡ 66;
      made : stored n l.row ≡ map (packet l.addresses (message_to l.destination l.message)) (range_with_len 0 n);
    }
