use Rattle.std.proofs.Common.{◌≡◌, true, ap, ◌∙◌, sym, arith}
use Rattle.std.proofs.lemmas.Bool.{and_from}
use Rattle.carrier.specs.Carriers.{linked, message_fits}
use Rattle.carrier.proofs.Lines.{fits_length, put_taken}
use Rattle.smbus.specs.Stored.{stored}
use Rattle.smbus.specs.Seen.{line_of}
use Rattle.smbus.specs.Lying.{defined_packets, brought_packets}
use Rattle.smbus.proofs.calls.SmbusCarrierCarrier.put.Goals as goal

pub returns-clause-after : goal.returns-clause-after
returns-clause-after c =
    let s = c.args.self.now in
    let message = c.args.message.now in
    let up : s.up ≡ true = cc in
    let fits : message_fits message ≡ true = cc in
    ap (linked s.up) (brought_packets s.addresses c.args.destination message (stored c.split-self.result c.split-self.new.row) c.split-self.ensures.all (fits_length message fits).0)
    ∙ sym (put_taken (line_of s) c.args.destination message (and_from _ _ up fits))

pub invariant_of-self : goal.invariant_of-self
invariant_of-self c =
    let s = c.args.self.now in
    let message = c.args.message.now in
    let fits : message_fits message ≡ true = cc in
    let size = fits_length message fits in
    record {
      low = s.low;
      few = omega arith;
      whole = omega arith;
      defined = defined_packets s.addresses c.args.destination message (stored c.split-self.result c.split-self.new.row) c.split-self.ensures.all;
    }
