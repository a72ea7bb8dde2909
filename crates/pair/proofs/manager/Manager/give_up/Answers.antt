use Rattle.std.proofs.Common.{rules}
use Rattle.pair.proofs.manager.Manager.give_up.Goals as goal

pub returns : goal.returns
returns c = search rules
