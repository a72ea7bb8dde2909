-- What a request comes to, once it is read. Assumes nothing.
use Rattle.std.proofs.Common.{◌≡◌, ℕ, suc, ◌≤◌, Bool, false, cond, List, [], ◌∷◌, Some, None, Ok, Err, Option, Result, sym, refl, ap, ◌∙◌, subst}
use Rattle.std.proofs.lemmas.Bool.{le-leb}
use Rattle.event.specs.declared.id.UniqueId.{UniqueId}
use Rattle.event.specs.declared.refusal.Refusal.{Refusal}
use Rattle.event.specs.declared.refusal.Refusal.TheVariants.{AnswerBufferShort}
use Rattle.event.specs.Bytes.{Bytes}
use Rattle.event.specs.Outcomes.{refusal}
use Rattle.board.specs.Boards.{Sources}
use Rattle.list.specs.Lists.{body, over}
use Rattle.marks.specs.Marking.{unmarked, listed_from, occurrences}
use Rattle.carrier.specs.Carriers.{Line}
use Rattle.wire.specs.Requests.{Request, request_refusal, request_of, read_as, read_request}
use Rattle.wire.specs.View.{request as request_read, request_in}
use Rattle.protocol.specs.Endpoint.{Endpoint, Turn, turn, handle, requested, request}
use Rattle.endpoint.specs.View.{Turned}

-- nothing is listed of no marks
pub none-listed : (k : ℕ) (us : List UniqueId) → listed_from k us unmarked ≡ []
unfolding listed_from unmarked
none-listed k [] = refl
none-listed k (u ∷ us) = none-listed (suc k) us

-- and that does not overflow
pub none_over : (us : List UniqueId) → over (occurrences us unmarked) ≡ false
unfolding over body
none_over us = ap over (none-listed 0 us)

module _ (room sender : ℕ) (bytes : Bytes) (board : Sources) (line : Line) (e : Endpoint) (after : Endpoint) (carried : Line) (buffer filled : Bytes) (r : Result ℕ Refusal) where
  -- with the room for an answer, by whether the request is refused
  by_refusal : (o : Option Refusal) → 4115 ≤ room → request_refusal bytes ≡ o → Turned (requested o sender bytes board line e) after carried buffer filled r
      → Turned (request room sender bytes board line e) after carried buffer filled r
  by_refusal o h is = subst (λ (t : Turn). Turned t after carried buffer filled r)
      (ap (λ (p : Option Refusal). requested p sender bytes board line e) (sym is) ∙ ap (λ (b : Bool). requested (cond b (request_refusal bytes) (Some AnswerBufferShort)) sender bytes board line e) (sym (le-leb 4115 room h)))

  -- a request that is read
  pub asked : (q : Request) → 4115 ≤ room → Ok (request_read q) ≡ request_in (read_request bytes) → Turned (handle sender q board line e) after carried buffer filled r
      → Turned (request room sender bytes board line e) after carried buffer filled r
  unfolding read_request
  asked q h read w = go (request_refusal bytes) refl read
    where
      go : (o : Option Refusal) → request_refusal bytes ≡ o → Ok (request_read q) ≡ request_in (read_as o bytes) → Turned (request room sender bytes board line e) after carried buffer filled r
      go None is said =
          let same : q ≡ request_of bytes = cc in
          by_refusal None h is (subst (λ (p : Request). Turned (handle sender p board line e) after carried buffer filled r) same w)
      go (Some f) is said = absurd (cc)

-- a request that is refused
pub refused : (room sender : ℕ) (bytes : Bytes) (board : Sources) (line : Line) (e : Endpoint) (buffer : Bytes) (f : Refusal) → 4115 ≤ room → Err f ≡ request_in (read_request bytes)
    → Turned (request room sender bytes board line e) e line buffer buffer (Err f)
unfolding read_request
refused room sender bytes board line e buffer f h read = go (request_refusal bytes) refl read
  where
    go : (o : Option Refusal) → request_refusal bytes ≡ o → Err f ≡ request_in (read_as o bytes) → Turned (request room sender bytes board line e) e line buffer buffer (Err f)
    go None is said = absurd (cc)
    go (Some k) is said =
        let same : f ≡ k = cc in
        by_refusal room sender bytes board line e e line buffer buffer (Err f) (Some k) h is
        (subst (λ (x : Refusal). Turned (turn e line (refusal x)) e line buffer buffer (Err f)) same
        (record { left = record { endpoint = refl; carrier = refl }; outcome = record { result = refl; buffer = refl } }))
