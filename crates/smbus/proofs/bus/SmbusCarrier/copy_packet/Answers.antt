use Rattle.std.proofs.Common.{◌≡◌, ◌<◌, ◌≤◌, [], length, take, get_or, sym, ap, ◌∙◌, arith, zero-add}
use lib.ListN.{length-map}
use Rattle.std.proofs.lemmas.Grind.{common_steps}
use Rattle.event.specs.Bytes.{placed}
use Rattle.event.proofs.Placed.{placed-none}
use Rattle.smbus.specs.Packets.{packets_on, copied_length}
use Rattle.smbus.specs.Stored.{held, stored}
use Rattle.smbus.specs.Seen.{line_of}
use Rattle.smbus.specs.Lying.{shown, shown_at, copied_stored, chosen_none, chosen_long, chosen_fits}
use Rattle.smbus.proofs.bus.SmbusCarrier.copy_packet.Goals as goal
use Rattle.smbus.proofs.bus.SmbusCarrier.copy_packet.Goals.{After-as_bytes-bytes}

-- the packet of the number is the one whose bytes are read
read : (c : After-as_bytes-bytes) → get_or (packets_on c.args.self.now.addresses (line_of c.args.self.now)) c.args.number [] ≡ c.as_bytes-bytes.result.now
read c =
    shown_at c.args.self.now c.stored.result.now c.args.number c.in_ok-get.field-0.now c.stored.ensures c.in_ok-get.ensures.lookup.3.0 c.in_ok-get.ensures.lookup.1
    ∙ sym c.as_bytes-bytes.ensures

pub returns-in_err-get-clause-buffer : goal.returns-in_err-get-clause-buffer
returns-in_err-get-clause-buffer c =
    let s = c.args.self.now in
    let buffer = c.args.buffer.now in
    let ps = packets_on s.addresses (line_of s) in
    let row = c.stored.result.now in
    let past : length ps ≤ c.args.number =
    omega (arith, ap length (shown s row c.stored.ensures), length-map row held, c.in_err-get.ensures.lookup.3) in
    sym (ap (placed buffer 0) (chosen_none ps c.args.number (length buffer) past) ∙ placed-none buffer 0)

pub returns-then-buffer-len-clause-buffer : goal.returns-then-buffer-len-clause-buffer
returns-then-buffer-len-clause-buffer c =
    let s = c.args.self.now in
    let buffer = c.args.buffer.now in
    let ps = packets_on s.addresses (line_of s) in
    let at = read (goal.at.returns-then-buffer-len-clause-buffer c).After-as_bytes-bytes in
    sym (ap (placed buffer 0) (chosen_long ps c.args.number (length buffer) c.as_bytes-bytes.result.now at (omega arith)) ∙ placed-none buffer 0)

pub returns-clause-count : goal.returns-clause-count
returns-clause-count c =
    let s = c.args.self.now in
    let buffer = c.args.buffer.now in
    let ps = packets_on s.addresses (line_of s) in
    let at = read (goal.at.returns-clause-count c).After-as_bytes-bytes in
    let here : c.args.number < length (stored s.count s.row) =
    omega (arith, length-map (take s.count s.row) held, ap length c.stored.ensures, c.in_ok-get.ensures.lookup.3.0) in
    sym (ap copied_length (chosen_fits ps c.args.number (length buffer) c.as_bytes-bytes.result.now at (omega arith)) ∙ copied_stored s c.args.number c.as_bytes-bytes.result.now here at)

pub returns-clause-buffer : goal.returns-clause-buffer
unfolding placed
returns-clause-buffer c =
    let s = c.args.self.now in
    let buffer = c.args.buffer.now in
    let ps = packets_on s.addresses (line_of s) in
    let at = read (goal.at.returns-clause-buffer c).After-as_bytes-bytes in
    rw (chosen_fits ps c.args.number (length buffer) c.as_bytes-bytes.result.now at (omega arith)) (grind (arith, common_steps, zero-add))
