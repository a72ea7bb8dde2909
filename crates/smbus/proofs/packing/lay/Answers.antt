use Rattle.std.proofs.Common.{arith}
use Rattle.smbus.specs.Joins.{laid}
use Rattle.smbus.proofs.packing.lay.Goals as goal

pub returns : goal.returns
returns c =
    laid c.args.row.now c.args.header.now c.args.payload.now c.copy_from_slice.new.self c.copy_from_slice-2.new.self _ c.crc8-check.result
    c.requires.0 c.requires.1.0 c.requires.1.1 c.copy_from_slice.ensures.after c.copy_from_slice-2.ensures.after (omega arith) c.crc8-check.ensures
