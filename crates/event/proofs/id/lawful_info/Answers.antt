use Rattle.std.proofs.Common.{rules}
use Rattle.event.proofs.id.lawful_info.Goals as goal

pub returns-in-2 : goal.returns-in-2
returns-in-2 c = search rules
