use Rattle.std.proofs.Common.{arith}
use Rattle.std.proofs.lemmas.Grind.{common_steps}
use Rattle.smbus.specs.Seen.{line_of}
use Rattle.smbus.specs.Lying.{payloads_lying}
use Rattle.smbus.proofs.bus.SmbusCarrier.packet_count.Goals as goal

pub returns-clause-joined : goal.returns-clause-joined
returns-clause-joined c = payloads_lying c.args.self.now.addresses (line_of c.args.self.now).message

pub returns-clause-count : goal.returns-clause-count
returns-clause-count c = grind (arith, common_steps)

pub returns-clause-few : goal.returns-clause-few
returns-clause-few c = grind (arith, common_steps)
