use Rattle.std.proofs.Common.{Ok, sym, ap, ◌∙◌, arith, rules}
use Rattle.std.proofs.lemmas.Result.{err_from_is_err_and}
use Rattle.wire.specs.declared.types.Message.{Message}
use Rattle.wire.specs.Requests.{Sync, Ack}
use Rattle.wire.specs.View.{left, read_by}
use Rattle.endpoint.proofs.Asked.{asked, refused}
use Rattle.endpoint.proofs.types.Endpoint.work.Goals as goal

pub returns-in_err-slot : goal.returns-in_err-slot
returns-in_err-slot g c =
    let p = err_from_is_err_and c.from_residual.result c.from_residual.ensures.1 in
    rw (p.1, p.2) (refused _ _ _ _ _ _ _ _ (omega arith) c.in_err-slot.ensures.said)

pub returns-in-Sync : goal.returns-in-Sync
returns-in-Sync g c =
    asked _ _ _ _ _ _ _ _ _ _ _ (Sync c.in-Sync.slot (left c.in-Sync.items) c.in-Sync.delays.first.0 c.in-Sync.delays.retry.0) (omega arith)
    (ap (λ (m : Message). Ok (read_by m)) (sym c.in-Sync.is) ∙ c.in_ok-slot.ensures.said)
    c.sync.ensures

pub returns-in-Ack : goal.returns-in-Ack
returns-in-Ack g c =
    asked _ _ _ _ _ _ _ _ _ _ _ (Ack c.in-Ack.slot) (omega arith)
    (ap (λ (m : Message). Ok (read_by m)) (sym c.in-Ack.is) ∙ c.in_ok-slot.ensures.said)
    c.ack.ensures
