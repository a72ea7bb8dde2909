use Rattle.std.proofs.Common.{codes, sym, ap, arith, rules}
use Rattle.std.proofs.lemmas.Slice.Eq.{text_from_reads}
use Rattle.script.proofs.Names.{unread}
use Rattle.script.specs.Actions.{about_messages_of}
use Rattle.script.proofs.action.about_messages.Goals as goal

pub returns-in_default : goal.returns-in_default
returns-in_default c =
    let s = c.args.name.now in
    rw (
      unread s (codes "ack") (λ r. grind arith),
      unread s (codes "give-up") (λ r. grind arith),
      unread s (codes "pick-up") (λ r. grind arith),
      unread s (codes "fetch") (λ r. grind arith),
      unread s (codes "packets") (λ r. grind arith),
    )

pub returns-in-ack : goal.returns-in-ack
returns-in-ack c =
    ap about_messages_of (sym (text_from_reads c.args.name.now (codes "ack") (omega arith) (search rules)))

pub returns-in-103 : goal.returns-in-103
returns-in-103 c =
    ap about_messages_of (sym (text_from_reads c.args.name.now (codes "give-up") (omega arith) (search rules)))

pub returns-in-112 : goal.returns-in-112
returns-in-112 c =
    ap about_messages_of (sym (text_from_reads c.args.name.now (codes "pick-up") (omega arith) (search rules)))

pub returns-in-fetch : goal.returns-in-fetch
returns-in-fetch c =
    ap about_messages_of (sym (text_from_reads c.args.name.now (codes "fetch") (omega arith) (search rules)))

pub returns-in-packets : goal.returns-in-packets
returns-in-packets c =
    ap about_messages_of (sym (text_from_reads c.args.name.now (codes "packets") (omega arith) (search rules)))
