use Rattle.std.proofs.Common.{rules}
use Rattle.marks.proofs.bytes.header_bytes.Goals as goal

pub returns : goal.returns
returns c = search rules
