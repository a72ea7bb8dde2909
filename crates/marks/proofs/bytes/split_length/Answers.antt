use Rattle.std.proofs.Common.{rules}
use Rattle.marks.proofs.bytes.split_length.Goals as goal

pub returns-in-192-to-255-clause-specific : goal.returns-in-192-to-255-clause-specific
returns-in-192-to-255-clause-specific c = search rules

pub returns-in-192-to-255-clause-vendor : goal.returns-in-192-to-255-clause-vendor
returns-in-192-to-255-clause-vendor c = search rules
