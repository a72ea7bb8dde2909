-- A completed sync makes twins of any two pairs. Assumes nothing.
use Rattle.std.proofs.Common.{◌≡◌, ℕ, ◌+◌, ◌*◌, ◌%◌, ◌<◌, Bool, true, false, cond, List, [], ◌∷◌, Some as some, None as none, Ok, Err, Option, Result, sym, refl, ap, ◌∙◌, subst, arith}
use mathlib.Core.Path.{subst₃}
use mathlib.Core.Bool.{false≢true}
use Rattle.event.specs.declared.id.UniqueId.{UniqueId}
use Rattle.event.specs.declared.refusal.Refusal.{Refusal}
use Rattle.event.specs.Bytes.{Bytes, byte}
use Rattle.event.specs.Identifiers.{Words, has, any}
use Rattle.event.specs.Outcomes.{Outcome, done}
use Rattle.event.specs.Refusals.{first_no}
use Rattle.event.specs.Sources.{Occurrence, lawful_reading, ids}
use Rattle.board.specs.Boards.{Sources, at, after_set}
use Rattle.list.specs.Lists.{these, overflow, told, over}
use Rattle.marks.specs.Marking.{unmarked, occurrences}
use Rattle.wire.specs.declared.types.Item.{Item}
use Rattle.wire.specs.declared.types.Kind.{Kind}
use Rattle.wire.specs.declared.types.Kind.TheVariants.{Sync as sync, Ack as ack}
use Rattle.wire.specs.Laws.{EventsReadBack, AnswersReadBack}
use Rattle.wire.specs.Messages.{read_answer, slot_of}
use Rattle.wire.specs.Requests.{Request, Sync, Ack, request_as, request_of, request_message, kind_of, items_in, item_count, items_part}
use Rattle.carrier.specs.Carriers.{Message, message_to, Line}
use Rattle.protocol.specs.declared.types.State.{State}
use Rattle.protocol.specs.declared.types.State.TheVariants.{Off, Armed, Sending, Failed}
use Rattle.protocol.specs.declared.types.Phase.{Phase}
use Rattle.protocol.specs.declared.types.Phase.TheVariants.{Blind, Settled, Holding, Waiting}
use Rattle.protocol.specs.Endpoint.{Endpoint, mark, change, tick, turn, enabling, present, reported, reply, synced, acknowledge, accept, handle, refusal_of, requested}
use Rattle.protocol.specs.Book.{Book, book_of, shown_in, sync_questions, ack_questions, writes, answer_told, answer_read}
use Rattle.protocol.specs.Pair.{
  Pair,
  pair_of,
  new_pair,
  Step,
  Call,
  changes,
  ticks,
  link_goes_up,
  link_goes_down,
  loses,
  writes_sync,
  writes_ack,
  requests,
  answers,
  gives_up,
  picks_up,
  fetches,
  shows,
  resets,
  acted,
  noted,
  step,
  run,
  outcomes,
}
use Rattle.protocol.specs.Masking.{masked_message}
use Rattle.protocol.specs.Promise.{JustSynced, Agree, Alike, SyncStartsAnew}
use Rattle.board.proofs.Rereads.{ids-after}
use Rattle.promises.proofs.Boards.{set_taken, set_unlawful, set_past}
use Rattle.promises.proofs.Lists.{never}
use Rattle.promises.proofs.Invariant.{LawfulReadings, Laws}
use Rattle.promises.proofs.ChangeKeeps.{board-lawful}
use Rattle.promises.proofs.Requests.{present-lawful}
use Rattle.promises.proofs.Lawful.{readings_of, laws_of}
use Rattle.promises.proofs.Steps.{handle_says, sync_kind}
use Rattle.promises.proofs.Ticks.{either, tick_way}
use Rattle.promises.proofs.Twins.{SameMessage, SameDestination, SameRemembered, message-done, Twin, run-both}

-- WHAT HOLDS AFTER EVERY LIST OF CALLS, WHATEVER IS HANDED IN

-- of a pair with these sources
pub record Basic (us : List UniqueId) (p : Pair) : Type 0 where
  pub same : ids p.board ≡ us
  pub lawful : LawfulReadings p.board
  pub small : p.endpoint.generation < 32

Small : Endpoint → Type 0
Small e = e.generation < 32

tick_small : (us : List UniqueId) (room : ℕ) (c : Line) (e : Endpoint) → Small e → Small (tick us room c e).endpoint
unfolding Small
tick_small us room c e x =
    let next : (e.generation + 1) % 32 < 32 = omega arith in
    tick_way (λ t. t.endpoint.generation < 32) us room c e x x (record { stays = λ s. x; begins = next; unbegun = next; sends = λ retries s. x; fails = x })

mark_small : (s : State) (p : ℕ) (r : Bytes) (e : Endpoint) → Small e → Small (mark s p r e)
unfolding Small
mark_small Off p r e x = x
mark_small (Armed age) p r e x = x
mark_small (Sending attempt waited) p r e x = x
mark_small Failed p r e x = x

change_small : (o : Option UniqueId) (p : ℕ) (r : Bytes) (e : Endpoint) → Small e → Small (change o p r e)
change_small none p r e x = x
change_small (some u) p r e x = go (lawful_reading u.identifier r) (has e.enabled u.identifier)
  where
    go : (test on : Bool) → Small (cond test (cond on (mark e.state p r e) e) e)
    go true true = mark_small e.state p r e x
    go true false = x
    go false on = x

accept_small : (b : Sources) (c : Line) (sender : ℕ) (q : Request) (e : Endpoint) (o : Outcome) → Small e → Small (accept sender q b c e o).endpoint
unfolding Small
accept_small b c sender (Sync slot items delay retry) e o x = x
accept_small b c sender (Ack slot) e o x = go e.state
  where
    go : (s : State) → (acknowledge sender s c e o).endpoint.generation < 32
    go Off = x
    go (Armed age) = x
    go (Sending attempt waited) = x
    go Failed = x

-- a set leaves lawful readings
set-lawful : (b : Sources) (p : ℕ) (r : Bytes) → LawfulReadings b → LawfulReadings (after_set b p r)
set-lawful b p r ok = go (at (ids b) p) refl
  where
    go : (o : Option UniqueId) → at (ids b) p ≡ o → LawfulReadings (after_set b p r)
    go none here = subst LawfulReadings (sym (set_past b p r here)) ok
    go (some u) here = test (lawful_reading u.identifier r) refl
      where
        test : (v : Bool) → lawful_reading u.identifier r ≡ v → LawfulReadings (after_set b p r)
        test true allowed = subst LawfulReadings (sym (set_taken b p u r here allowed)) (board-lawful (ids b) b refl u p r here allowed ok)
        test false refused = subst LawfulReadings (sym (set_unlawful b p u r here refused)) ok

module _ (us : List UniqueId) (p : Pair) (x : Basic us p) where
  -- the endpoint has acted
  acted_basic : (e : Endpoint) (c : Line) (k : Book) → Small e → Basic us (pair_of e c p.board k)
  unfolding Small
  acted_basic e c k small = record { same = x.same; lawful = x.lawful; small = small }

  written_basic : (o : Option Refusal) (kind : Kind) (bytes : Bytes) → Basic us (noted (writes o kind bytes p.book) p).pair
  unfolding Small
  written_basic none kind bytes = acted_basic _ _ _ x.small
  written_basic (some r) kind bytes = x

  requested_basic : (o : Option Refusal) (sender : ℕ) (bytes : Bytes) → Basic us (acted (requested o sender bytes p.board p.line p.endpoint) p).pair
  unfolding Small
  requested_basic none sender bytes =
      acted_basic _ _ _
      (either (λ t. t.endpoint.generation < 32) (over (reported (request_of bytes) p.board p.endpoint)) (turn p.endpoint p.line _) _ x.small
      (accept_small p.board p.line sender (request_of bytes) p.endpoint _ x.small))
  requested_basic (some r) sender bytes = x

  step_basic : (call : Call) → Basic us (step p call).pair
  unfolding Small
  step_basic (changes place r) = record {
    same = ids-after p.board place r ∙ x.same;
    lawful = set-lawful p.board place r x.lawful;
    small = change_small (at (ids p.board) place) place r p.endpoint x.small;
  }
  step_basic (ticks room) = acted_basic _ _ _ (tick_small (ids p.board) room p.line p.endpoint x.small)
  step_basic link_goes_up = acted_basic _ _ _ x.small
  step_basic link_goes_down = acted_basic _ _ _ x.small
  step_basic loses = acted_basic _ _ _ x.small
  step_basic (writes_sync items delay retry room) = written_basic (first_no (sync_questions p.book.phase room items)) sync (request_message delay retry items)
  step_basic (writes_ack room) = written_basic (first_no (ack_questions p.book.phase room)) ack (request_message 0 0 [])
  step_basic (requests sender bytes room) = requested_basic (refusal_of room bytes) sender bytes
  step_basic (answers kind bytes) = acted_basic _ _ _ x.small
  step_basic (gives_up kind) = acted_basic _ _ _ x.small
  step_basic (picks_up room) = acted_basic _ _ _ x.small
  step_basic (fetches room) = x
  step_basic (shows u room) = x
  step_basic resets = acted_basic _ _ _ x.small

pub run_basic : (us : List UniqueId) (p : Pair) (calls : List Call) → Basic us p → Basic us (run p calls)
run_basic us p [] x = x
run_basic us p (call ∷ calls) x = run_basic us (step p call).pair calls (step_basic us p x call)

-- OUTCOMES

is_done : Outcome → Bool
is_done o = go o.result
  where
    go : Result ℕ Refusal → Bool
    go (Ok n) = true
    go (Err r) = false

first_of : List Outcome → Outcome
first_of [] = done []
first_of (o ∷ os) = o

rest_of : List Outcome → List Outcome
rest_of [] = []
rest_of (o ∷ os) = os

is_settled : Phase → Bool
is_settled Blind = false
is_settled Settled = true
is_settled Holding = false
is_settled (Waiting kind) = false

is_sync : Kind → Bool
is_sync sync = true
is_sync ack = false

-- THE FORM OF A PAIR THAT HAS JUST COMPLETED A SYNC

pub record Form (sender : ℕ) (request : Bytes) (p : Pair) : Type 0 where
  pub enabled : Words
  pub before : Endpoint
  pub small : before.generation < 32
  pub endpoint : p.endpoint ≡ synced sender enabled (byte request 10) (byte request 9) before
  pub message : p.line.message ≡ none
  pub book : p.book ≡ book_of Settled (occurrences (ids p.board) (present enabled p.board)) none

-- the request's acceptance by this pair, and the taking of its answer
module _ (sender : ℕ) (p : Pair) (laws : Laws (ids p.board)) (lawful : LawfulReadings p.board) (small : p.endpoint.generation < 32) (request answer : Bytes) where
  abbrev enabled : Words
  enabled = enabling (ids p.board) (items_in (item_count request) (items_part request)) p.endpoint.enabled

  abbrev ws : List Occurrence
  ws = occurrences (ids p.board) (present enabled p.board)

  abbrev waiting : Book
  waiting = book_of (Waiting sync) p.book.entries p.book.remembered

  abbrev q : Request
  q = request_as sync request

  abbrev said : Outcome
  said = done (reply (request_as sync request) p.board p.endpoint)

  took : reply q p.board p.endpoint ≡ answer → (v : Bool) → over ws ≡ v →
      (answer_read sync (read_answer answer) waiting).book ≡ answer_told sync (cond v overflow (these ws)) waiting
  took is v o =
      let r : read_answer answer ≡ some (record { slot = slot_of request; told = told ws }) =
      ap read_answer (sym is) ∙ laws.answers (slot_of request) (present enabled p.board) (present-lawful (ids p.board) p.board refl enabled lawful) in
      ap (λ a. (answer_read sync a waiting).book) r ∙ ap (λ v. answer_told sync (cond v overflow (these ws)) waiting) o

  formed : reply q p.board p.endpoint ≡ answer → (v : Bool) → over ws ≡ v →
      let t = cond v (turn p.endpoint p.line said) (accept sender q p.board p.line p.endpoint said) in
      (answer_read sync (read_answer answer) waiting).book.phase ≡ Settled →
      (t.endpoint ≡ synced sender enabled (byte request 10) (byte request 9) p.endpoint) × (t.line.message ≡ none)
      × ((answer_read sync (read_answer answer) waiting).book ≡ book_of Settled ws none)
  unfolding is_settled
  formed is true o settled = absurd (false≢true (ap (λ (k : Book). is_settled k.phase) (sym (took is true o)) ∙ ap is_settled settled))
  formed is false o settled = (refl, refl, took is false o)

  abbrev taking : List Call
  taking = answers sync answer ∷ []

  -- the sync is written
  abbrev asked : Pair
  asked = (noted (writes none sync request p.book) p).pair

  -- its request is accepted, as one of this kind
  abbrev accepted_as : Kind → Step
  accepted_as kind = acted (handle sender (request_as kind request) p.board p.line p.endpoint) asked

  abbrev EndsWell : Step → Type 0
  EndsWell s = (s.outcome ∷ outcomes s.pair taking ≡ done answer ∷ done [] ∷ []) → (run s.pair taking).book.phase ≡ Settled → Form sender request (run s.pair taking)

  form₃ : (kind : Kind) → kind ≡ sync → EndsWell (accepted_as kind)
  unfolding is_sync first_of
  form₃ ack e outs settled = absurd (false≢true (ap is_sync e))
  form₃ sync e outs settled =
      let says = handle_says sender (request_as sync request) p.board p.line p.endpoint in
      let is : reply (request_as sync request) p.board p.endpoint ≡ answer = ap (λ (o : Outcome). o.written) (sym says ∙ ap first_of outs) in
      let x = formed is (over ws) refl settled in
      record { enabled = enabled; before = p.endpoint; small = small; endpoint = x.0; message = x.1; book = x.2 }

  form₂ : (o : Option Refusal) → kind_of request ≡ sync → EndsWell (acted (requested o sender request p.board p.line p.endpoint) asked)
  unfolding first_of is_done
  form₂ none kind outs settled = form₃ (kind_of request) kind outs settled
  form₂ (some r) kind outs settled = absurd (false≢true (ap (λ os. is_done (first_of os)) outs))

module _ (sender : ℕ) (p : Pair) (laws : Laws (ids p.board)) (lawful : LawfulReadings p.board) (small : p.endpoint.generation < 32) where
  form₁ : (items : List Item) (delay retry : ℕ) (request answer : Bytes) (writing_room answer_room : ℕ) (o : Option Refusal) → first_no (sync_questions p.book.phase writing_room items) ≡ o →
      let s = noted (writes o sync (request_message delay retry items) p.book) p in
      let two = requests sender request answer_room ∷ answers sync answer ∷ [] in
      (s.outcome ∷ outcomes s.pair two ≡ done request ∷ done answer ∷ done [] ∷ []) → (run s.pair two).book.phase ≡ Settled →
      Form sender request (run s.pair two)
  unfolding first_of rest_of is_done
  form₁ items delay retry request answer writing_room answer_room (some r) is outs settled = absurd (false≢true (ap (λ os. is_done (first_of os)) outs))
  form₁ items delay retry request answer writing_room answer_room none is outs settled =
      let bytes = request_message delay retry items in
      let same : request_message delay retry items ≡ request = ap (λ os. (first_of os).written) outs in
      let G : Bytes → Type 0 = λ r. (let s = noted (writes none sync bytes p.book) p in let calls = requests sender r answer_room ∷ answers sync answer ∷ [] in
      (s.outcome ∷ outcomes s.pair calls ≡ done r ∷ done answer ∷ done [] ∷ []) → (run s.pair calls).book.phase ≡ Settled → Form sender r (run s.pair calls)) in
      subst G same (λ outs settled. form₂ sender p laws lawful small bytes answer (refusal_of answer_room bytes) (sync_kind p.book.phase writing_room delay retry items is) (ap rest_of outs) settled) outs settled

-- what is known of a pair that has just completed a sync
pub record Synced (sender : ℕ) (request : Bytes) (p : Pair) : Type 0 where
  pub laws : Laws (ids p.board)
  pub form : Form sender request p

just_synced : EventsReadBack → AnswersReadBack → (sender : ℕ) (request : Bytes) (p : Pair) → JustSynced sender request p → Synced sender request p
just_synced events replies sender request p x =
    let new = new_pair x.board x.line in
    let before = run new x.calls in
    let basic : Basic (ids x.board) (run (new_pair x.board x.line) x.calls) = run_basic (ids x.board) new x.calls (record { same = refl; lawful = readings_of x.board x.lawful; small = omega arith }) in
    let laws : Laws (ids before.board) = subst Laws (sym basic.same) (laws_of events replies x.board x.lawful) in
    subst (Synced sender request) (sym x.last.1)
    (record {
      laws = laws;
      form = form₁ sender before laws basic.lawful basic.small x.items x.delay x.retry request x.answer x.writing_room x.answer_room
          (first_no (sync_questions before.book.phase x.writing_room x.items)) refl x.last.0 (ap (λ (z : Pair). z.book.phase) (sym x.last.1) ∙ x.settled);
    })

-- TWO OF THAT FORM

same_destination : (any : Bool) (sender a b : ℕ) → SameDestination (cond any (Armed 0) Off) (cond any sender a) (cond any sender b)
same_destination true sender a b = refl
same_destination false sender a b = tt

no_message : (us : List UniqueId) (δ : ℕ) (l l' : Option Message) → l ≡ none → l' ≡ none → SameMessage us δ l l'
no_message us δ none none x y = tt
no_message us δ none (some m) x y = never m (sym y)
no_message us δ (some m) none x y = never m (sym x)
no_message us δ (some m) (some m') x y = never m (sym x)

no_memory : (δ : ℕ) (r r' : Option ℕ) → r ≡ none → r' ≡ none → SameRemembered δ r r'
no_memory δ none none x y = tt
no_memory δ none (some m) x y = never m (sym y)
no_memory δ (some m) none x y = never m (sym x)
no_memory δ (some m) (some m') x y = never m (sym x)

twins : (sender : ℕ) (request : Bytes) (p q : Pair) → Form sender request p → Form sender request q → Agree p q →
    Twin (ids p.board) (q.endpoint.generation + 31 * p.endpoint.generation) p q
unfolding unmarked
twins sender request p q a b agree =
    let en : b.enabled ≡ a.enabled = sym (ap (λ (e : Endpoint). e.enabled) b.endpoint) ∙ sym agree.enabled ∙ ap (λ (e : Endpoint). e.enabled) a.endpoint in
    let some-on : any b.enabled ≡ any a.enabled = ap any en in
    let boards : q.board ≡ p.board = sym agree.board in
    let state : q.endpoint.state ≡ p.endpoint.state =
    ap (λ (e : Endpoint). e.state) b.endpoint ∙ ap (λ v. cond v (Armed 0) Off) some-on ∙ sym (ap (λ (e : Endpoint). e.state) a.endpoint) in
    let delays : q.endpoint.delay ≡ p.endpoint.delay = ap (λ (e : Endpoint). e.delay) b.endpoint ∙ sym (ap (λ (e : Endpoint). e.delay) a.endpoint) in
    let retries : q.endpoint.retry ≡ p.endpoint.retry = ap (λ (e : Endpoint). e.retry) b.endpoint ∙ sym (ap (λ (e : Endpoint). e.retry) a.endpoint) in
    let priors : q.endpoint.prior ≡ p.endpoint.prior = ap (λ (e : Endpoint). e.prior) b.endpoint ∙ sym (ap (λ (e : Endpoint). e.prior) a.endpoint) in
    let sinces : q.endpoint.since ≡ p.endpoint.since = ap (λ (e : Endpoint). e.since) b.endpoint ∙ sym (ap (λ (e : Endpoint). e.since) a.endpoint) in
    let failures : q.endpoint.failure ≡ p.endpoint.failure = ap (λ (e : Endpoint). e.failure) b.endpoint ∙ sym (ap (λ (e : Endpoint). e.failure) a.endpoint) in
    let lists : occurrences (ids q.board) (present b.enabled q.board) ≡ occurrences (ids p.board) (present a.enabled p.board) =
    λ i. occurrences (ids (boards i)) (present (en i) (boards i)) in
    record {
      same = refl;
      endpoint = λ i. record {
        state = state i;
        enabled = sym agree.enabled i;
        delay = delays i;
        retry = retries i;
        prior = priors i;
        since = sinces i;
        generation = q.endpoint.generation;
        destination = q.endpoint.destination;
        failure = failures i;
      };
      link = sym agree.link;
      board = boards;
      phase = ap (λ (k : Book). k.phase) b.book ∙ sym (ap (λ (k : Book). k.phase) a.book);
      entries = ap (λ (k : Book). k.entries) b.book ∙ lists ∙ sym (ap (λ (k : Book). k.entries) a.book);
      generation = (
        omega arith,
        subst (λ (e : Endpoint). e.generation < 32) (sym a.endpoint) a.small,
        subst (λ (e : Endpoint). e.generation < 32) (sym b.endpoint) b.small,
      );
      destination = subst₃ SameDestination (sym (ap (λ (e : Endpoint). e.state) a.endpoint)) (sym (ap (λ (e : Endpoint). e.destination) a.endpoint))
          (ap (λ v. cond v sender b.before.destination) (sym some-on) ∙ sym (ap (λ (e : Endpoint). e.destination) b.endpoint))
          (same_destination (any a.enabled) sender a.before.destination b.before.destination);
      message = no_message _ _ p.line.message q.line.message a.message b.message;
      remembered = no_memory _ p.book.remembered q.book.remembered (ap (λ (k : Book). k.remembered) a.book) (ap (λ (k : Book). k.remembered) b.book);
      lawful = λ place u r here x. never r (sym (ap (λ (e : Endpoint). e.prior place) a.endpoint) ∙ x);
    }

-- WHAT TWINS HAVE IN COMMON

shown_same : (s s' : Phase) (es es' : List Occurrence) (u : UniqueId) → s' ≡ s → es' ≡ es → shown_in s es u ≡ shown_in s' es' u
shown_same s s' es es' u is entries = λ i. shown_in (sym is i) (sym entries i) u

masked_same : (us : List UniqueId) (δ : ℕ) (l l' : Option Message) → SameMessage us δ l l' → masked_message l ≡ masked_message l'
masked_same us δ none none x = refl
masked_same us δ none (some m) x = absurd x
masked_same us δ (some m) none x = absurd x
masked_same us δ (some m) (some m') x =
    let c = ap (λ (o : Outcome). o.written) (message-done us δ m m' x) in
    λ i. some (message_to (x.destination i) (c i))

alike : (us : List UniqueId) (δ : ℕ) (p q : Pair) → Twin us δ p q → Alike p q
alike us δ p q x = record {
  message = masked_same us δ p.line.message q.line.message x.message;
  prior = sym (ap (λ (e : Endpoint). e.prior) x.endpoint);
  since = sym (ap (λ (e : Endpoint). e.since) x.endpoint);
  showings = λ u. shown_same p.book.phase q.book.phase p.book.entries q.book.entries u x.phase x.entries;
}

pub sync-starts-anew : EventsReadBack → AnswersReadBack → SyncStartsAnew
sync-starts-anew events replies sender request p q a b agree calls =
    let x = just_synced events replies sender request p a in
    let y = just_synced events replies sender request q b in
    let z = run-both (ids p.board) x.laws _ p q calls (twins sender request p q x.form y.form agree) in
    (z.0, alike (ids p.board) _ (run p calls) (run q calls) z.1)
