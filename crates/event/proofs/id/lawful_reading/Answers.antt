use Rattle.std.proofs.Common.{rules}
use Rattle.event.proofs.id.lawful_reading.Goals as goal

pub returns-in-2 : goal.returns-in-2
returns-in-2 c = search rules

pub returns-in-192-to-255 : goal.returns-in-192-to-255
returns-in-192-to-255 c = search rules
