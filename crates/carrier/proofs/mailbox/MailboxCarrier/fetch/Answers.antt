use Rattle.std.proofs.Common.{◌≡◌, ℕ, ◌-◌, ◌≤◌, length, take, Ok, sym, ap, ◌∙◌, arith, rules}
use Rattle.std.proofs.lemmas.List.{length-take-le}
use Rattle.event.specs.Outcomes.{done, over_front}
use Rattle.event.proofs.Placed.{placed_copy, placed-front}
use Rattle.carrier.specs.Carriers.{lies, fetched}
use Rattle.carrier.specs.Mailboxes.{line_of}
use Rattle.carrier.proofs.Lines.{fetched_room, kept_some}
use Rattle.carrier.proofs.mailbox.MailboxCarrier.fetch.Goals as goal

pub returns-then-len-eq0 : goal.returns-then-len-eq0
returns-then-len-eq0 c = search rules

pub returns : goal.returns
returns c =
    let now = c.args.self.now in
    let buffer = c.args.buffer.now in
    let bytes = take now.len now.bytes in
    let long : length bytes ≡ now.len = length-take-le now.len now.bytes (omega arith) in
    let all : now.len - 0 ≡ now.len = omega arith in
    let room : 4224 ≤ length buffer = omega arith in
    let given : fetched (length buffer) (line_of now).message ≡ done bytes =
    fetched_room (length buffer) _ room ∙ ap lies (kept_some now.destination bytes (omega arith)) in
    record {
      result = ap Ok (sym long) ∙ sym (ap (λ o. o.result) given);
      buffer =
          placed_copy buffer 0 _ c.copy_from_slice.new.self bytes (c.copy_from_slice.ensures.after ∙ ap (λ (k : ℕ). take k now.bytes) all) (all ∙ sym long)
          ∙ placed-front buffer bytes
          ∙ sym (ap (λ o. over_front o.written buffer) given);
    }
