use Rattle.std.proofs.Common.{rules}
use Rattle.event.proofs.reading.Reading.as_bytes.Goals as goal

pub returns : goal.returns
returns c = search rules
