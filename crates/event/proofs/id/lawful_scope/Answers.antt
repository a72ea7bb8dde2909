use Rattle.std.proofs.Common.{rules}
use Rattle.event.proofs.id.lawful_scope.Goals as goal

pub returns-in-5-to-9 : goal.returns-in-5-to-9
returns-in-5-to-9 c = search rules
