use Rattle.std.proofs.Common.{rules}
use Rattle.smbus.specs.Lying.{defined_empty}
use Rattle.smbus.proofs.calls.SmbusCarrierCarrier.withdraw.Goals as goal

pub invariant_of-self-clause-defined : goal.invariant_of-self-clause-defined
invariant_of-self-clause-defined c = search (rules, defined_empty)

pub returns-clause-after : goal.returns-clause-after
returns-clause-after c = search rules
