use Rattle.std.proofs.Common.{◌≡◌, get_or, codes, arith}
use Rattle.script.proofs.Names.{unread, no_word, command-call}
use Rattle.syntax.specs.Lines.{texts}
use Rattle.script.specs.Commands.{command_of, call_of}
use Rattle.script.proofs.parse.command.Goals as goal
use Rattle.script.proofs.parse.command.Goals.{In_default-name}

-- a name that is none of three is that of a call
other : (c : In_default-name) → command_of (texts c.args.words.now) ≡ call_of (texts c.args.words.now)
other c =
    let s = (get_or c.args.words.now 0 no_word).now in
    command-call c.args.words.now (unread s (codes "board") (λ r. grind arith)) (unread s (codes "row") (λ r. grind arith)) (unread s (codes "carrier") (λ r. grind arith))

pub returns-in_default-name : goal.returns-in_default-name
returns-in_default-name c = rw (other (goal.at.returns-in_default-name c).In_default-name) c.call.ensures
