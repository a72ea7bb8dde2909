-- Two pairs side by side. Assumes nothing.
use Rattle.std.proofs.Common.{◌≡◌, ℕ, Bool, true, false, cond, List, [], ◌∷◌, Some, None, Ok, Err, Option, Result, sym, refl, ap, ◌∙◌, subst}
use Rattle.event.specs.declared.refusal.Refusal.{Refusal}
use Rattle.event.specs.declared.refusal.Refusal.TheVariants.{NoneAwaited}
use Rattle.event.specs.Outcomes.{Outcome, done, refusal}
use Rattle.wire.specs.declared.types.Kind.{Kind}
use Rattle.wire.specs.declared.types.Kind.TheVariants.{Sync, Ack}
use Rattle.wire.proofs.MessagesBack.{events_read_back, answers_read_back}
use Rattle.protocol.specs.declared.types.Phase.{Phase}
use Rattle.protocol.specs.declared.types.Phase.TheVariants.{Blind, Settled, Holding, Waiting}
use Rattle.protocol.specs.Book.{Book, book_turn, blind, awaits}
use Rattle.protocol.specs.Pair.{Pair, Call, gives_up, run}
use Rattle.protocol.specs.Masking.{compared}
use Rattle.protocol.specs.Promise.{Alike, SyncStartsAnew}
use Rattle.promises.proofs.Anew.{sync-starts-anew}
use Rattle.pair.specs.declared.call.Task.{Task}
use Rattle.pair.specs.Receipts.{awaited}
use Rattle.pair.specs.View.{call_of, step_if}
use Rattle.pair.specs.Runs.{room_of, call_for, calls_in, prepend, GoOnAlike}

-- the third promise
pub anew : SyncStartsAnew
anew = sync-starts-anew events_read_back answers_read_back

-- every list of calls brings the same of both
abbrev Even : Pair → Pair → Type 0
Even p q = (calls : List Call) → compared p calls ≡ compared q calls

-- was it taken?
abbrev taken : Result ℕ Refusal → Bool
taken (Ok n) = true
taken (Err r) = false

-- was the first call taken?
abbrev first_taken : List Outcome → Bool
first_taken [] = false
first_taken (o ∷ os) = taken o.result

-- the outcomes of the calls after the first
abbrev rest : List Outcome → List Outcome
rest [] = []
rest (o ∷ os) = os

-- a giving up is taken if the request is awaited
up_taken : (waits : Bool) (k : Book) → taken (cond waits (book_turn blind (done [])) (book_turn k (refusal NoneAwaited))).outcome.result ≡ waits
up_taken true k = refl
up_taken false k = refl

awaits_same : (p q : Pair) → Even p q → (kind : Kind) → awaits kind p.book.phase ≡ awaits kind q.book.phase
awaits_same p q even kind =
    sym (up_taken (awaits kind p.book.phase) p.book) ∙ ap first_taken (even (gives_up kind ∷ [])) ∙ up_taken (awaits kind q.book.phase) q.book

-- the kind that is awaited, by which of the two is
abbrev either : (sync ack : Bool) → Option Kind
either true ack = Some Sync
either false true = Some Ack
either false false = None

awaited_either : (phase : Phase) → awaited phase ≡ either (awaits Sync phase) (awaits Ack phase)
awaited_either Blind = refl
awaited_either Settled = refl
awaited_either Holding = refl
awaited_either (Waiting Sync) = refl
awaited_either (Waiting Ack) = refl

awaited_same : (p q : Pair) → Even p q → awaited p.book.phase ≡ awaited q.book.phase
awaited_same p q even =
    awaited_either p.book.phase
    ∙ ap (λ (v : Bool). either v (awaits Ack p.book.phase)) (awaits_same p q even Sync)
    ∙ ap (either (awaits Sync q.book.phase)) (awaits_same p q even Ack)
    ∙ sym (awaited_either q.book.phase)

even_step : (p q : Pair) (c : Option Call) → Even p q → Even (step_if p c) (step_if q c)
even_step p q None even = even
even_step p q (Some c) even = λ calls. ap rest (even (c ∷ calls))

-- so both make the same calls
calls_same : (p q : Pair) → Even p q → (ts : List Task) → calls_in p ts ≡ calls_in q ts
calls_same p q even [] = refl
calls_same p q even (t ∷ ts) =
    let same : call_for p t ≡ call_for q t = ap (λ (kind : Option Kind). call_of kind (room_of t) t.call) (awaited_same p q even) in
    ap (λ (c : Option Call). prepend c (calls_in (step_if p c) ts)) same
    ∙ ap (prepend (call_for q t)) (calls_same (step_if p (call_for q t)) (step_if q (call_for q t)) (even_step p q (call_for q t) even) ts)

-- the third promise of two pairs that are run
pub go_on : (p q : Pair) (ts : List Task) (p' q' : Pair) → p' ≡ run p (calls_in p ts) → q' ≡ run q (calls_in q ts) → GoOnAlike p q ts p' q'
go_on p q ts p' q' e f sender request a b agree =
    let promise = anew sender request p q a b agree in
    let same = calls_same p q (λ calls. (promise calls).0) ts in
    let x = promise (calls_in p ts) in
    let ends = subst (λ (v : Pair). Alike v (run q (calls_in p ts))) (sym e) x.1 in
    (same, (x.0 ∙ ap (compared q) same, subst (λ (v : Pair). Alike p' v) (ap (run q) same ∙ sym f) ends))
