use Rattle.std.proofs.Common.{rules}
use Rattle.wire.proofs.MessagesBack.{too_short, not_starting, not_checked, the_list}
use Rattle.wire.proofs.read.read_framed.Goals as goal

pub returns-in_err-message : goal.returns-in_err-message
returns-in_err-message c = let none = too_short c.args.head.now c.args.bytes.now in search (rules, none)

pub returns-in_err-list : goal.returns-in_err-list
returns-in_err-list c = let none = not_starting c.args.head.now c.args.bytes.now in search (rules, none)

pub returns-then-not-is_checked : goal.returns-then-not-is_checked
returns-then-not-is_checked c = let none = not_checked c.args.head.now c.args.bytes.now in search (rules, none)

pub returns : goal.returns
returns c = let list = the_list c.args.head.now c.args.bytes.now in search (rules, list)
