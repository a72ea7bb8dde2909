use Rattle.std.proofs.Common.{refl, arith}
use Rattle.event.proofs.Placed.{placed_copy}
use Rattle.wire.proofs.check.put.Goals as goal

pub returns : goal.returns
returns c = record { end = refl; buffer = placed_copy _ _ _ _ _ c.copy_from_slice.ensures.after (omega arith) }
