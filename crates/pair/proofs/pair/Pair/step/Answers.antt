use Rattle.std.proofs.Common.{length, ap, rules}
use Rattle.pair.specs.Receipts.{awaited}
use Rattle.pair.specs.View.{pair_in, call_to}
use Rattle.pair.proofs.Calls.{steps_as, answer_steps}
use Rattle.pair.proofs.pair.Pair.step.Goals as goal

pub returns-in-Answer : goal.returns-in-Answer
returns-in-Answer g c =
    let p = pair_in g.B.Board.told g.C.Carrier.carried c.args.self.now in
    steps_as p _ _ _ _ _ _ (ap (call_to p (length c.args.buffer.now)) c.in-Answer.is)
    (answer_steps p (awaited p.book.phase) _ _ c.args.buffer.now _ c.answer.ensures)

pub returns-in-Change : goal.returns-in-Change
returns-in-Change g c = search rules

pub returns-in-Tick : goal.returns-in-Tick
returns-in-Tick g c = search rules

pub returns-in-LinkUp : goal.returns-in-LinkUp
returns-in-LinkUp g c = search rules

pub returns-in-LinkDown : goal.returns-in-LinkDown
returns-in-LinkDown g c = search rules

pub returns-in-Lose : goal.returns-in-Lose
returns-in-Lose g c = search rules

pub returns-in-WriteSync : goal.returns-in-WriteSync
returns-in-WriteSync g c = search rules

pub returns-in-WriteAck : goal.returns-in-WriteAck
returns-in-WriteAck g c = search rules

pub returns-in-Request : goal.returns-in-Request
returns-in-Request g c = search rules

pub returns-in-GiveUp : goal.returns-in-GiveUp
returns-in-GiveUp g c = search rules

pub returns-in-PickUp : goal.returns-in-PickUp
returns-in-PickUp g c = search rules

pub returns-in-Fetch : goal.returns-in-Fetch
returns-in-Fetch g c = search rules

pub returns-in-Show : goal.returns-in-Show
returns-in-Show g c = search rules

pub returns-in-Reset : goal.returns-in-Reset
returns-in-Reset g c = search rules
