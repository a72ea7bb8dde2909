use Rattle.list.proofs.Steps.{no_front}
use Rattle.list.proofs.Bodies.{body_without_front, body_behind}
use Rattle.list.proofs.read.behind_lawful.Goals as goal

pub returns-in_err-front : goal.returns-in_err-front
returns-in_err-front c =
    rw c.from_residual.ensures (body_without_front c.args.bytes.now (no_front c.args.bytes.now c.in_err-front.ensures))

pub returns : goal.returns
returns c =
    rw c.then_some.ensures (body_behind c.args.bytes.now (λ k. (c.type_inv.bytes k).fits) c.in_ok-front.front c.in_ok-front.ensures _ c.is_in_form.ensures)
