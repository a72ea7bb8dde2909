use Rattle.std.proofs.Common.{◌+◌, ◌-◌, drop, arith, length-take}
use Rattle.smbus.specs.Joins.{payload_held}
use Rattle.smbus.proofs.packet.Packet.payload.Goals as goal

pub returns : goal.returns
returns c =
    let p = c.args.self.now in
    record {
      part = payload_held p.len p.bytes p.short p.whole;
      few = omega (arith, length-take (8 + p.len - 8) (drop 8 p.bytes), p.short);
    }
