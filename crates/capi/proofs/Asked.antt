-- What is read of a request, as a reader of all messages tells it. Assumes nothing.
use Rattle.std.proofs.Common.{◌≡◌, ℕ, Bool, cond, leb, [], length, Ok, Err, Result, sym, ap, ◌∙◌}
use Rattle.event.specs.Bytes.{Bytes}
use Rattle.event.specs.declared.refusal.Refusal.{Refusal}
use Rattle.wire.specs.Requests.{Request, Ack, read_request, list_part}
use Rattle.wire.specs.View.{Read, request, event, answer, request_in}
use Rattle.capi.specs.Reading.{list_of, ack_list}
use Rattle.capi.proofs.Results.{same_value, same_refusal, no_refusal}

abbrev request_or : Request → Read → Request
request_or d (request q) = q
request_or d (event v) = d
request_or d (answer a) = d

pub asked : (q : Request) (r : Result Request Refusal) → ◌≡◌ {A = Result Read Refusal} (Ok (request q)) (request_in r) → Ok q ≡ r
asked q (Ok p) e = ap (λ (m : Read). Ok (request_or q m)) (same_value (request q) (request p) e)
asked q (Err s) e = absurd (no_refusal (request q) s e)

pub not_asked : (r : Refusal) (a : Result Request Refusal) → ◌≡◌ {A = Result Read Refusal} (Err r) (request_in a) → Err r ≡ a
not_asked r (Ok p) e = absurd (no_refusal (request p) r (sym e))
not_asked r (Err s) e = ap Err (same_refusal {A = Read} r s e)

-- the list of an ack that was read is that of the definition
pub listed : (slot : Bool) (bytes list : Bytes) (room : ℕ) → Ok (Ack slot) ≡ read_request bytes → list ≡ list_part bytes → cond (leb (length list) room) list [] ≡ ack_list bytes room
listed slot bytes list room read part = ap (λ (q : Result Request Refusal). list_of q list room) read ∙ ap (λ (l : Bytes). list_of (read_request bytes) l room) part
