use Rattle.std.proofs.Common.{rules}
use Rattle.event.proofs.delay.Tenths.ticks.Goals as goal

pub returns : goal.returns
returns c = search rules
