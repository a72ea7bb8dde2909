use Rattle.std.proofs.Common.{Bool, Ok, Result, cond, [], ◌++◌, length, drop, sym, ap, ◌∙◌, subst}
use Rattle.std.proofs.lemmas.Bool.{le-leb, lt-leb}
use Rattle.event.specs.declared.refusal.Refusal.{Refusal}
use Rattle.event.specs.Bytes.{Bytes}
use Rattle.event.specs.Outcomes.{over_front}
use Rattle.wire.specs.Requests.{Request, Ack, read_request, list_part}
use Rattle.wire.specs.View.{read_by, AckHasList}
use Rattle.wire.specs.declared.types.Message.{Message}
use Rattle.crossing.specs.Outcomes.{refusal_number}
use Rattle.capi.specs.Reading.{list_of}
use Rattle.capi.proofs.Asked.{asked, not_asked, listed}
use Rattle.capi.proofs.readers.fenduxi_ack_list.Goals as goal

pub returns-in-Err : goal.returns-in-Err
returns-in-Err c =
    let before = c.args.buffer.now in
    let part = list_part c.args.bytes.now in
    let read = not_asked c.in-Err.refusal (read_request c.args.bytes.now) c.in-Err.ensures.said in
    record {
      number = c.number.ensures ∙ ap refusal_number read;
      count = ap (λ (q : Result Request Refusal). length (list_of q part (length before))) read;
      buffer = ap (λ (q : Result Request Refusal). over_front (list_of q part (length before)) before) read;
    }

pub returns-then-list-buffer : goal.returns-then-list-buffer
returns-then-list-buffer c =
    let bytes = c.args.bytes.now in
    let before = c.args.buffer.now in
    let room = length before in
    let list = c.in-Ok-Ack.list.now in
    let read = asked (Ack c.in-Ok-Ack.field-0-0) (read_request bytes) (sym (ap (λ (m : Message). Ok (read_by m)) c.in-Ok-Ack.field-0-is) ∙ c.in-Ok-Ack.ensures.said) in
    let part = subst (λ (m : Message). AckHasList bytes (Ok m)) c.in-Ok-Ack.field-0-is c.in-Ok-Ack.ensures.list in
    let whole = sym (ap (λ (b : Bool). cond b list []) (le-leb (length list) room c.if-list-buffer.true)) ∙ listed c.in-Ok-Ack.field-0-0 bytes list room read part in
    record {
      number = ap refusal_number read;
      count = ap length whole;
      buffer = ap (λ (s : Bytes). s ++ drop (length list) before) c.copy_from_slice.ensures.after ∙ ap (λ (l : Bytes). over_front l before) whole;
    }

pub returns-else-list-buffer : goal.returns-else-list-buffer
returns-else-list-buffer c =
    let bytes = c.args.bytes.now in
    let before = c.args.buffer.now in
    let room = length before in
    let list = c.in-Ok-Ack.list.now in
    let read = asked (Ack c.in-Ok-Ack.field-0-0) (read_request bytes) (sym (ap (λ (m : Message). Ok (read_by m)) c.in-Ok-Ack.field-0-is) ∙ c.in-Ok-Ack.ensures.said) in
    let part = subst (λ (m : Message). AckHasList bytes (Ok m)) c.in-Ok-Ack.field-0-is c.in-Ok-Ack.ensures.list in
    let none = sym (ap (λ (b : Bool). cond b list []) (lt-leb (length list) room c.if-list-buffer.false)) ∙ listed c.in-Ok-Ack.field-0-0 bytes list room read part in
    record {
      number = ap refusal_number read;
      count = ap length none;
      buffer = ap (λ (l : Bytes). over_front l before) none;
    }
