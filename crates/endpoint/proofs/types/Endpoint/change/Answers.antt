use Rattle.std.proofs.Common.{true, false, leb, length, sym, refl, ap, ◌∙◌}
use Rattle.std.proofs.lemmas.Option.{cond_some}
use Rattle.std.proofs.lemmas.Result.{err_from_is_err_and}
use Rattle.event.specs.Bytes.{Bytes}
use Rattle.event.specs.View.{held, held_if}
use Rattle.protocol.specs.Endpoint.{mark}
use Rattle.endpoint.specs.View.{as_endpoint}
use Rattle.event.proofs.Readings.{too_long}
use Rattle.endpoint.proofs.Changes.{place_below, found, error-is, no_place, unlawful, not_taken, taken}
use Rattle.endpoint.proofs.types.Endpoint.change.Goals as goal

pub returns-in_err-id : goal.returns-in_err-id
returns-in_err-id g c =
    let p = err_from_is_err_and c.from_residual.result c.from_residual.ensures.1 in
    rw (p.1, p.2, error-is _ _ _ c.in_err-id.ensures.ok_part c.in_err-id.ensures.value)
    (no_place _ _ _ _ (found _ _ _ c.in_err-id.ensures.ok_part c.id.ensures))

pub returns-in_err-kept : goal.returns-in_err-kept
returns-in_err-kept g c =
    let p = err_from_is_err_and c.from_residual-in_err-kept.result c.from_residual-in_err-kept.ensures.1 in
    let long = too_long _ _ (found _ _ _ (ap held_if c.in_err-kept.ensures.ok_part) c.new.ensures) in
    rw (p.1, p.2, error-is _ _ _ c.in_err-kept.ensures.ok_part c.in_err-kept.ensures.value)
    (unlawful _ _ _ c.in_ok-id.id _ (found _ _ _ c.in_ok-id.ensures.ok_part c.id.ensures) long)

pub returns-in_err-try_set : goal.returns-in_err-try_set
returns-in_err-try_set g c =
    let p = err_from_is_err_and c.from_residual-in_err-try_set.result c.from_residual-in_err-try_set.ensures.1 in
    rw (p.1, p.2)
    (not_taken _ _ _ c.in_ok-id.id _ (found _ _ _ c.in_ok-id.ensures.ok_part c.id.ensures) _ _ c.in_err-try_set.ensures.result c.in_err-try_set.ensures.after)

pub mark-requires : goal.mark-requires
mark-requires g c =
    place_below _ _ c.in_ok-id.id (g.met.B.Board.lawful c.args.board.now) (found _ _ _ c.in_ok-id.ensures.ok_part c.id.ensures)

pub returns-then-has : goal.returns-then-has
returns-then-has g c =
    let e = as_endpoint c.args.self.now in
    let r = c.args.reading.now in
    let kept = cond_some (leb (length r) 64) r (held c.in_ok-kept.kept) (sym (found _ _ _ (ap held_if c.in_ok-kept.ensures.ok_part) c.new.ensures)) in
    taken _ _ _ c.in_ok-id.id e (found _ _ _ c.in_ok-id.ensures.ok_part c.id.ensures) true (as_endpoint c.mark.new.self) _ c.in_ok-try_set.ensures.result c.if-has.ensures
    (c.mark.ensures ∙ ap (λ (k : Bytes). mark e.state c.args.place k e) (sym kept.1)) c.in_ok-try_set.ensures.after

pub returns-else-has : goal.returns-else-has
returns-else-has g c =
    taken _ _ _ c.in_ok-id.id _ (found _ _ _ c.in_ok-id.ensures.ok_part c.id.ensures) false (as_endpoint c.args.self.now) _ c.in_ok-try_set.ensures.result c.if-has.ensures refl c.in_ok-try_set.ensures.after
