use Rattle.std.proofs.Common.{arith}
use Rattle.wire.proofs.Stepped.{in_end}
use Rattle.wire.proofs.items.ItemsIterator.next.Goals as goal

pub returns-in_err-number-clause-steps : goal.returns-in_err-number-clause-steps
returns-in_err-number-clause-steps c = let e = in_end c.args.self.now.number c.args.self.now.rest.now (omega arith) in rw c.from_residual.ensures (e, e)
