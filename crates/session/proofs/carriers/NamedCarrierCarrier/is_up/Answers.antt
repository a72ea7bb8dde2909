use Rattle.std.proofs.Common.{rules}
use Rattle.session.proofs.carriers.NamedCarrierCarrier.is_up.Goals as goal

pub returns-in-Smbus : goal.returns-in-Smbus
returns-in-Smbus c = search rules
