use Rattle.std.proofs.Common.{◌<◌, length, vec_items, arith, false-eqb}
use Rattle.syntax.proofs.Cuts.{keep_turn}
use Rattle.syntax.proofs.words.keep.Goals as goal

pub returns-in_ok-push-clause-kept : goal.returns-in_ok-push-clause-kept
returns-in_ok-push-clause-kept c =
    let some : 0 < length c.args.piece.now = omega (arith, false-eqb _ 0 c.if-not-is_empty.ensures) in
    keep_turn (vec_items c.args.words.now) (vec_items c.push.new.self) c.args.piece some c.in_ok-push.ensures.items
