use Rattle.std.proofs.Common.{rules}
use Rattle.event.proofs.refusal.Refusal.number.Goals as goal

pub returns : goal.returns
returns c = search rules
