use Rattle.std.proofs.Common.{rules}
use Rattle.smbus.specs.Seen.{addressed}
use Rattle.smbus.specs.Lying.{defined_none}
use Rattle.smbus.proofs.bus.SmbusCarrier.new.Goals as goal

pub invariant_of-result-clause-defined : goal.invariant_of-result-clause-defined
invariant_of-result-clause-defined c = defined_none (addressed c.args.destination_address c.args.source_address c.args.source_id) 0

pub returns-then-destination_address-ge128 : goal.returns-then-destination_address-ge128
returns-then-destination_address-ge128 c = search rules

pub invariant_of-result-clause-low : goal.invariant_of-result-clause-low
invariant_of-result-clause-low c = search rules

pub returns : goal.returns
returns c = search rules
