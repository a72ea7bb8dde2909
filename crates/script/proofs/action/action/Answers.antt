use Rattle.std.proofs.Common.{Ok, Err, Result, codes, refl, ap, inr, arith, rules}
use Rattle.std.proofs.lemmas.Slice.Eq.{text_from_reads}
use Rattle.script.proofs.Names.{unread}
use Rattle.syntax.specs.declared.fault.Fault.{Fault}
use Rattle.script.specs.declared.command.Action.{Action}
use Rattle.syntax.specs.Strings.{GivesAs}
use Rattle.script.specs.Said.{action_said, said_take, ◌>>=◌}
use Rattle.script.proofs.action.action.Goals as goal

gives : (r : Result Action Fault) → GivesAs action_said r (r >>= (λ action. Ok (action_said action)))
gives (Ok action) = refl
gives (Err fault) = inr refl

pub returns-in-change : goal.returns-in-change
returns-in-change c =
    rw (text_from_reads c.args.name.now (codes "change") (omega arith) (search rules)) c.change.ensures

pub returns-in-sync : goal.returns-in-sync
returns-in-sync c =
    rw (text_from_reads c.args.name.now (codes "sync") (omega arith) (search rules)) c.sync.ensures

pub returns-in-hand : goal.returns-in-hand
returns-in-hand c =
    rw (text_from_reads c.args.name.now (codes "hand") (omega arith) (search rules)) c.hand.ensures

pub returns-in-tick : goal.returns-in-tick
returns-in-tick c =
    rw (text_from_reads c.args.name.now (codes "tick") (omega arith) (search rules), ← c.tick.ensures) (gives c.tick.result)

pub returns-in-show : goal.returns-in-show
returns-in-show c =
    rw (text_from_reads c.args.name.now (codes "show") (omega arith) (search rules), ← c.show.ensures) (gives c.show.result)

pub returns-in_ok-message-in-take : goal.returns-in_ok-message-in-take
returns-in_ok-message-in-take c =
    rw (text_from_reads c.args.name.now (codes "take") (omega arith) (search rules)) (ap (λ r. r >>= (λ message. Ok (said_take message))) c.in_ok-message-in-take.ensures)

pub returns-in_default : goal.returns-in_default
returns-in_default c =
    let s = c.args.name.now in
    rw (
      unread s (codes "change") (λ r. grind arith),
      unread s (codes "tick") (λ r. grind arith),
      unread s (codes "sync") (λ r. grind arith),
      unread s (codes "hand") (λ r. grind arith),
      unread s (codes "take") (λ r. grind arith),
      unread s (codes "show") (λ r. grind arith),
    ) c.alone.ensures
