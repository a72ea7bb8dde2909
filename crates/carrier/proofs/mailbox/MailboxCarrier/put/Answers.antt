use Rattle.std.proofs.Common.{◌≡◌, true, sym, ap, ◌∙◌, rules}
use Rattle.std.proofs.lemmas.Bool.{and_from}
use Rattle.carrier.specs.Carriers.{linked, message_fits}
use Rattle.carrier.specs.Mailboxes.{line_of}
use Rattle.carrier.proofs.Lines.{fits_length, put_taken, kept_copy}
use Rattle.carrier.proofs.mailbox.MailboxCarrier.put.Goals as goal

pub returns-clause-taken : goal.returns-clause-taken
returns-clause-taken c = search rules

pub returns-clause-after : goal.returns-clause-after
returns-clause-after c =
    let now = c.args.self.now in
    let message = c.args.message.now in
    let up : now.up ≡ true = cc in
    let fits : message_fits message ≡ true = cc in
    ap (linked now.up) (kept_copy c.args.destination now.bytes c.copy_from_slice.new.self message (fits_length message fits).0 c.copy_from_slice.ensures.after)
    ∙ sym (put_taken (line_of now) c.args.destination message (and_from _ _ up fits))

pub returns-then-not-self-clause-taken : goal.returns-then-not-self-clause-taken
returns-then-not-self-clause-taken c = search rules
