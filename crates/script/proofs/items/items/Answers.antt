use Rattle.std.proofs.Common.{rules}
use Rattle.script.proofs.items.items.Goals as goal

pub returns-then-is_dash-clause-none : goal.returns-then-is_dash-clause-none
returns-then-is_dash-clause-none c = search rules
