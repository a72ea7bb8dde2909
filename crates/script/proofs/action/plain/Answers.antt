use Rattle.std.proofs.Common.{codes, sym, ap, arith, rules}
use Rattle.std.proofs.lemmas.Slice.Eq.{text_from_reads}
use Rattle.script.proofs.Names.{unread}
use Rattle.script.specs.Actions.{plain_of}
use Rattle.script.proofs.action.plain.Goals as goal

pub returns-in_default : goal.returns-in_default
returns-in_default c =
    let s = c.args.name.now in
    rw (
      unread s (codes "up") (λ r. grind arith),
      unread s (codes "down") (λ r. grind arith),
      unread s (codes "lose") (λ r. grind arith),
      unread s (codes "reset") (λ r. grind arith),
    ) c.about_messages.ensures

pub returns-in-up : goal.returns-in-up
returns-in-up c =
    ap plain_of (sym (text_from_reads c.args.name.now (codes "up") (omega arith) (search rules)))

pub returns-in-down : goal.returns-in-down
returns-in-down c =
    ap plain_of (sym (text_from_reads c.args.name.now (codes "down") (omega arith) (search rules)))

pub returns-in-lose : goal.returns-in-lose
returns-in-lose c =
    ap plain_of (sym (text_from_reads c.args.name.now (codes "lose") (omega arith) (search rules)))

pub returns-in-reset : goal.returns-in-reset
returns-in-reset c =
    ap plain_of (sym (text_from_reads c.args.name.now (codes "reset") (omega arith) (search rules)))
