use Rattle.std.proofs.Common.{leb, length, Ok, Err, Option, subst, ap}
use Rattle.std.proofs.lemmas.Result.{err_from_is_err_and}
use Rattle.event.specs.declared.refusal.Refusal.{Refusal}
use Rattle.event.specs.declared.refusal.Refusal.TheVariants.{RequestBufferShort, StillAwaiting}
use Rattle.event.specs.Outcomes.{Gives, unless}
use Rattle.event.specs.Refusals.{first_no}
use Rattle.wire.specs.declared.types.Kind.TheVariants.{Sync}
use Rattle.wire.specs.Requests.{request_message}
use Rattle.wire.specs.Writing.{item_questions}
use Rattle.protocol.specs.declared.types.Phase.TheVariants.{Waiting}
use Rattle.protocol.specs.Book.{awaits_nothing, in_phase, sync_questions}
use Rattle.book.specs.Turns.{request_questions}
use Rattle.book.proofs.Questions.{all_asked, asked_no, one_no, yes_between, not_written, writer_refuses, written}
use Rattle.book.proofs.parts.Book.write_sync.Goals as goal

pub returns-in_err-may_write : goal.returns-in_err-may_write
returns-in_err-may_write c =
    let p = err_from_is_err_and c.from_residual.result c.from_residual.ensures.1 in
    let r = c.in_err-may_write.field-0.0 in
    let k = c.args.self.now in
    let items = c.args.items.now in
    let room = length c.args.buffer.now in
    rw (p.1, p.2) (not_written Sync _ (request_message c.args.delays.first.0 c.args.delays.retry.0 items) k c.args.buffer.now r
    (one_no (request_questions k.phase room) (item_questions items) r (asked_no _ r c.in_err-may_write.ensures)))

pub returns-in_err-count : goal.returns-in_err-count
returns-in_err-count c =
    let p = err_from_is_err_and c.from_residual-in_err-count.result c.from_residual-in_err-count.ensures.1 in
    let k = c.args.self.now in
    let items = c.args.items.now in
    let before = c.args.buffer.now in
    let after = c.write_sync.new.buffer in
    let r = c.in_err-count.field-0.0 in
    let bytes = request_message c.args.delays.first.0 c.args.delays.retry.0 items in
    let asked = yes_between (leb 217 (length before)) (awaits_nothing k.phase) RequestBufferShort StillAwaiting (item_questions items) (all_asked _ c.in_ok-may_write.ensures) in
    rw (p.1, p.2) (writer_refuses Sync (first_no (sync_questions k.phase (length before) items)) bytes k before after r
    (subst (λ (q : Option Refusal). Gives (unless q bytes) before after (Err r)) asked c.in_err-count.ensures))

pub returns : goal.returns
returns c =
    let k = c.args.self.now in
    let items = c.args.items.now in
    let before = c.args.buffer.now in
    let after = c.write_sync.new.buffer in
    let n = c.in_ok-count.count in
    let bytes = request_message c.args.delays.first.0 c.args.delays.retry.0 items in
    let asked = yes_between (leb 217 (length before)) (awaits_nothing k.phase) RequestBufferShort StillAwaiting (item_questions items) (all_asked _ c.in_ok-may_write.ensures) in
    written Sync (first_no (sync_questions k.phase (length before) items)) bytes k _ before after n (ap (in_phase (Waiting Sync)) c.self.view_is)
    (subst (λ (q : Option Refusal). Gives (unless q bytes) before after (Ok n)) asked c.in_ok-count.ensures)
