use Rattle.std.proofs.Common.{◌-◌, ◌≤◌, length, refl, ◌∙◌, arith}
use Rattle.pair.specs.View.{pair_in}
use Rattle.pair.specs.Runs.{call_for}
use Rattle.pair.proofs.Parts.{part_long, part_steps, steps_note}
use Rattle.pair.proofs.pair.Pair.work.Goals as goal

pub returns : goal.returns
returns g c =
    let p = pair_in g.B.Board.told g.C.Carrier.carried c.args.self.now in
    let fits : c.lent-room.result - 0 ≤ length c.args.log.now.buffer = omega (arith, c.lent-room.ensures.fits, c.args.log.now.long) in
    let turn = part_steps p c.args.task _ c.args.log.now.buffer _ c.step-reply.new.buffer (c.lent-room.result - 0) _ fits (omega (arith, c.lent-room.ensures.room)) refl c.step-reply.auto.buffer c.step-reply.ensures in
    record { pair = turn.pair; note = steps_note p (call_for p c.args.task) _ _ _ c.args.log.now.reply _ turn }

pub invariant_of-log : goal.invariant_of-log
invariant_of-log g c =
    let fits : c.lent-room.result - 0 ≤ length c.args.log.now.buffer = omega (arith, c.lent-room.ensures.fits, c.args.log.now.long) in
    record { long = part_long c.args.log.now.buffer c.step-reply.new.buffer (c.lent-room.result - 0) fits c.step-reply.auto.buffer ∙ c.args.log.now.long }
