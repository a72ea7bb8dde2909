use Rattle.std.proofs.Common.{rules}
use Rattle.event.proofs.delay.Seconds.ticks.Goals as goal

pub returns : goal.returns
returns c = search rules
