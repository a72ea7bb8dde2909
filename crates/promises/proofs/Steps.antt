-- Every call keeps the invariant, and the invariant says that the book is right. Assumes nothing.
use Rattle.std.proofs.Common.{◌≡◌, ℕ, Bool, true, false, cond, leb, ◌⊎◌, List, [], ◌∷◌, length, Some as some, None as none, Ok, Option, sym, refl, ap, ◌∙◌, subst, inl, inr, arith}
use Rattle.std.proofs.lemmas.Option.{same_Some}
use lib.Dec.{eqb-suc-zero}
use Rattle.event.specs.declared.id.UniqueId.{UniqueId}
use Rattle.event.specs.declared.refusal.Refusal.{Refusal}
use Rattle.event.specs.declared.refusal.Refusal.TheVariants.{NotHolding, RequestBufferShort, StillAwaiting, ItemCount, NoneAwaited, SameGeneration}
use Rattle.event.specs.Bytes.{Bytes}
use Rattle.event.specs.Identifiers.{nothing, has}
use Rattle.event.specs.Outcomes.{Outcome, done, refusal, refusal_over}
use Rattle.event.specs.Refusals.{first_no}
use Rattle.event.specs.Sources.{Occurrence, occurrence, lawful_reading, ids}
use Rattle.board.specs.Boards.{Sources, at, reread, after_set}
use Rattle.list.specs.Lists.{Told, these, overflow, told, over}
use Rattle.marks.specs.Marking.{unmarked, occurrences}
use Rattle.wire.specs.declared.types.Item.{Item}
use Rattle.wire.specs.declared.types.Kind.{Kind}
use Rattle.wire.specs.declared.types.Kind.TheVariants.{Sync as sync, Ack as ack}
use Rattle.wire.specs.Checks.{checked}
use Rattle.wire.specs.Messages.{Event, read_event, Answer, read_answer}
use Rattle.wire.specs.Requests.{kind_of, Request, Sync, Ack, request_of, request_message}
use Rattle.wire.proofs.RequestsBack.{kind_of_none}
use Rattle.carrier.specs.Carriers.{Message, Line, linked_up, linked_down, withdrawn}
use Rattle.protocol.specs.declared.types.State.{State}
use Rattle.protocol.specs.declared.types.State.TheVariants.{Off, Armed, Sending, Failed}
use Rattle.protocol.specs.declared.types.Phase.{Phase}
use Rattle.protocol.specs.declared.types.Phase.TheVariants.{Blind, Settled, Holding, Waiting}
use Rattle.protocol.specs.Endpoint.{Endpoint, change, changed, tick, reset, Turn, turn, acknowledge, accept, reported, reply, handle, refusal_of, requested}
use Rattle.protocol.specs.Book.{
  find,
  merge,
  Book,
  BookTurn,
  book_turn,
  book_of,
  blind,
  shown_in,
  awaits_nothing,
  sync_questions,
  ack_questions,
  writes,
  answer_told,
  answer_read,
  answered,
  remembers,
  learn,
  hears,
  heard,
  found,
  finds,
  pick_up_questions,
}
use Rattle.protocol.specs.Pair.{Pair, pair_of, new_pair, Call, changes, ticks, link_goes_up, link_goes_down, loses, writes_sync, writes_ack, requests, answers, gives_up, picks_up, fetches, shows, resets, acted, noted, step, run}
use Rattle.protocol.specs.History.{History, new_history, while_waiting, later, completes, begins, wrote, accepts as record_acceptance, after_call, after_calls}
use Rattle.protocol.specs.Promise.{Fair, Given, Marked, Had, PresentOrMarked, WasSo}
use Rattle.board.proofs.Rereads.{at-ids}
use Rattle.promises.proofs.Boards.{set_taken, set_unlawful, set_past}
use Rattle.promises.proofs.Lists.{never, At, merge_source, merge-held, merge-at}
use Rattle.promises.proofs.Words.{none_in}
use Rattle.promises.proofs.Invariant.{LawfulReadings, Laws, Now, Shows, OwnOne, Own, NotArmed, Knows, Sound, Learned, Awaiting, Inv}
use Rattle.promises.proofs.EndpointKeeps.{Kept, nothing-marked, shows_more, stays, tick_keeps, reset_keeps}
use Rattle.promises.proofs.ChangeKeeps.{change_keeps}
use Rattle.promises.proofs.Requests.{accepts}

-- THE ENDPOINT ACTS

module _ (us : List UniqueId) (e : Endpoint) (b : Sources) (l : Option Message) (e' : Endpoint) (b' : Sources) (l' : Option Message) (k : Kept us e b l e' b' l') where
  carry : (s : Phase) (a : Option Bytes) (h d : List Sources) (es : List Occurrence) → Learned us s a h d es e b l → Learned us s (while_waiting s a) (b' ∷ h) (b' ∷ d) es e' b' l'
  carry Blind a h d es x = tt
  carry Settled a h d es x = (k.shows d es x.0, k.own x.1)
  carry Holding a h d es x = ((k.shows d es x.0.0, k.own x.0.1), k.held es x.1)
  carry (Waiting sync) none h d es x = tt
  carry (Waiting sync) (some a) h d es x = λ os is. (k.shows h os (x os is).0, k.own (x os is).1)
  carry (Waiting ack) none h d es x = ((k.shows d es x.0.0, k.own x.0.1), k.held es x.1)
  carry (Waiting ack) (some a) h d es x = λ os is. (k.shows d (merge es os) (x os is).0, k.own (x os is).1)

still_awaiting : (s : Phase) (w : Option Bytes) → Awaiting s w → Awaiting s (while_waiting s w)
still_awaiting Blind w x = refl
still_awaiting Settled w x = refl
still_awaiting Holding w x = refl
still_awaiting (Waiting kind) w x = x

acted_keeps : (us : List UniqueId) (p : Pair) (h : History) (b : Sources) (e : Endpoint) (c : Line) → Kept us p.endpoint p.board p.line.message e b c.message → Inv us p h →
    Inv us (pair_of e c b p.book) (later p.book.phase b h)
acted_keeps us p h b e c k x =
    (k.sound, carry us _ _ _ _ _ _ k p.book.phase h.answer h.accepted h.completed p.book.entries x.1, still_awaiting p.book.phase h.awaited x.2)

-- the endpoint and the board stay
idles : (us : List UniqueId) (p : Pair) (h : History) (c : Line) → (Own us p.endpoint p.line.message → Own us p.endpoint c.message) → Inv us p h →
    Inv us (pair_of p.endpoint c p.board p.book) (later p.book.phase p.board h)
idles us p h c own x = acted_keeps us p h p.board p.endpoint c (stays us p.board p.line p.endpoint p.line.message c.message x.0 own) x

-- nothing has changed
rested_keeps : (us : List UniqueId) (p : Pair) (h : History) → Inv us p h → Inv us p (later p.book.phase p.board h)
rested_keeps us p h x = idles us p h p.line (λ o. o) x

-- THE BOOK ACTS

module _ (us : List UniqueId) (laws : Laws us) (e : Endpoint) (b : Sources) (ok : Sound us e b) where
  more : (h : List Sources) (es : List Occurrence) (l : Option Message) → Knows us h es e b l → Knows us (b ∷ h) es e b l
  more h es l x = (shows_more us h es _ _ _ b b x.0, x.1)

  module _ (l : Option Message) (h d : List Sources) where
    Next : (a w : Option Bytes) → List Sources → Book → Type 0
    Next a w d' k = Learned us k.phase (while_waiting k.phase a) (b ∷ h) (b ∷ d') k.entries e b l × Awaiting k.phase (while_waiting k.phase w)

    module _ (es : List Occurrence) (g : Option ℕ) (w : Option Bytes) where
      -- the book stays
      rests : (s : Phase) (a : Option Bytes) → Learned us s a h d es e b l → Awaiting s w → Next a w d (book_of s es g)
      unfolding Next
      rests Blind a x y = (tt, refl)
      rests Settled a x y = (more d es l x, refl)
      rests Holding a x y = ((more d es l x.0, x.1), refl)
      rests (Waiting sync) none x y = (tt, y)
      rests (Waiting sync) (some a) x y = (λ os is. more h os l (x os is), y)
      rests (Waiting ack) none x y = ((more d es l x.0, x.1), y)
      rests (Waiting ack) (some a) x y = (λ os is. more d (merge es os) l (x os is), y)

      blinded : (a : Option Bytes) (d' : List Sources) → Next a w d' blind
      unfolding Next
      blinded a d' = (tt, refl)

      either : (test : Bool) (a : Option Bytes) (t t' : BookTurn) → Next a w d t.book → Next a w d t'.book → Next a w d (cond test t t').book
      either true a t t' x y = x
      either false a t t' x y = y

      up_to : (test : Bool) (a : Option Bytes) (k : Book) → Next a w d k → Next a w d (cond test k blind)
      up_to true a k x = x
      up_to false a k x = blinded a d

      gave_up : (test : Bool) (s : Phase) (a : Option Bytes) → Learned us s a h d es e b l → Awaiting s w →
          Next a w d (cond test (book_turn blind (done [])) (book_turn (book_of s es g) (refusal NoneAwaited))).book
      gave_up test s a x y = either test a (book_turn blind (done [])) (book_turn (book_of s es g) (refusal NoneAwaited)) (blinded a d) (rests s a x y)

      -- the answer that the acceptance wrote is read
      taken : (kind : Kind) (bytes : Bytes) (v : Answer) → read_answer bytes ≡ some v → Learned us (Waiting kind) (some bytes) h d es e b l →
          let k = answer_told kind v.told (book_of (Waiting kind) es g) in Next (some bytes) w (completes (Waiting kind) k.phase h d) k
      unfolding Next
      taken kind bytes v is x = go kind v.told (is ∙ refl) x
        where
          go : (kind : Kind) (t : Told) → read_answer bytes ≡ some (record { slot = v.slot; told = t }) → Learned us (Waiting kind) (some bytes) h d es e b l →
              let k = answer_told kind t (book_of (Waiting kind) es g) in Next (some bytes) w (completes (Waiting kind) k.phase h d) k
          go sync overflow is x = (tt, refl)
          go ack overflow is x = (tt, refl)
          go sync (these os) is x = (more h os l (x os (v.slot, is)), refl)
          go ack (these os) is x = up_to (leb (length (merge es os)) 64) (some bytes) (book_of Settled (merge es os) g) (more d (merge es os) l (x os (v.slot, is)), refl)

      unread : (kind : Kind) (a : Option Bytes) → Next a w (completes (Waiting kind) Blind h d) blind
      unfolding Next
      unread sync a = (tt, refl)
      unread ack a = (tt, refl)

      taken_read : (kind : Kind) (a : Option Bytes) (bytes : Bytes) (o : Option Answer) → read_answer bytes ≡ o →
          ((n : ℕ) × ((answer_read kind o (book_of (Waiting kind) es g)).outcome.result ≡ Ok n) → a ≡ some bytes) → Learned us (Waiting kind) a h d es e b l →
          let k = (answer_read kind o (book_of (Waiting kind) es g)).book in Next a w (completes (Waiting kind) k.phase h d) k
      taken_read kind a bytes none is fair x = unread kind a
      taken_read kind a bytes (some v) is fair x =
          let k = answer_told kind v.told (book_of (Waiting kind) es g) in
          subst (λ y. Next y w (completes (Waiting kind) k.phase h d) k) (sym (fair (0, refl)))
          (taken kind bytes v is (subst (λ y. Learned us (Waiting kind) y h d es e b l) (fair (0, refl)) x))

      took : (s : Phase) (a : Option Bytes) (kind : Kind) (bytes : Bytes) → ((n : ℕ) × ((answered s kind bytes (book_of s es g)).outcome.result ≡ Ok n) → a ≡ some bytes) →
          Learned us s a h d es e b l → Awaiting s w →
          let k = (answered s kind bytes (book_of s es g)).book in Next a w (completes s k.phase h d) k
      took Blind a kind bytes fair x y = rests Blind a x y
      took Settled a kind bytes fair x y = rests Settled a x y
      took Holding a kind bytes fair x y = rests Holding a x y
      took (Waiting sync) a sync bytes fair x y = taken_read sync a bytes (read_answer bytes) refl fair x
      took (Waiting sync) a ack bytes fair x y = rests (Waiting sync) a x y
      took (Waiting ack) a sync bytes fair x y = rests (Waiting ack) a x y
      took (Waiting ack) a ack bytes fair x y = taken_read ack a bytes (read_answer bytes) refl fair x

      -- the endpoint's own event is read
      own_read : (s : State) (m : Message) (v : Event) → OwnOne us s e m → read_event m.bytes ≡ some v → NotArmed s × (v.told ≡ told (occurrences us e.prior))
      own_read Off m v own is = absurd own
      own_read (Armed age) m v own is = absurd own
      own_read Failed m v own is = absurd own
      own_read (Sending attempt waited) m v own is =
          (tt, ap (λ (x : Event). x.told) (same_Some _ _ (sym is ∙ ap read_event own.2 ∙ laws.events e.generation own.0 e.prior own.1 ok.0.prior-lawful)))

      event-shows : Shows us d es e.enabled e.prior e.since b → Shows us (b ∷ d) (merge es (occurrences us e.prior)) e.enabled e.prior e.since b
      event-shows x = record {
        now = λ q u r a on f. now q u r a on (merge-at us laws.distinct e.prior es u q a r f);
        had = λ u r f. had u r (merge_source us e.prior es u r f);
        prior_had = λ q u r a y. inr (x.prior_had q u r a y);
        since_had = λ q u r a y. inr (x.since_had q u r a y);
      }
        where
          now : (q : ℕ) (u : UniqueId) (r : Bytes) → at us q ≡ some u → has e.enabled u.identifier ≡ true →
              (e.prior q ≡ some r) ⊎ ((e.prior q ≡ none) × (find u es ≡ some r)) → Now b q u r ⊎ (Marked e.prior q ⊎ Marked e.since q)
          now q u r a on (inl y) = inr (inl (r, y))
          now q u r a on (inr y) = x.now q u r a on y.1

          had : (u : UniqueId) (r : Bytes) → At us e.prior u r ⊎ (find u es ≡ some r) → (q : ℕ) × Had (b ∷ d) q (occurrence u r)
          had u r (inl y) = (y.0, inr (x.prior_had y.0 u r y.1 y.2))
          had u r (inr y) = let z = x.had u r y in (z.0, inr z.1)

      learned : (generation : ℕ) (test : Bool) → NotArmed e.state → Knows us d es e b l → (a : Option Bytes) →
          Next a w d (learn (book_of Settled es g) generation (cond test overflow (these (occurrences us e.prior))))
      unfolding Next
      learned generation true armed x a = (tt, refl)
      learned generation false armed x a =
          let ws = occurrences us e.prior in
          up_to (leb (length (merge es ws)) 64) a (book_of Holding (merge es ws) (some generation))
          (((event-shows x.0, x.1), (armed, λ q u r here y. merge-held us laws.distinct e.prior es u q here r y)), refl)

      hearing : (a : Option Bytes) (m : Message) (v : Event) → OwnOne us e.state e m → read_event m.bytes ≡ some v → Knows us d es e b l →
          Next a w d (learn (book_of Settled es g) v.generation v.told)
      hearing a m v own is x =
          let both = own_read e.state m v own is in
          subst (λ t. Next a w d (learn (book_of Settled es g) v.generation t)) (sym both.1) (learned v.generation (over (occurrences us e.prior)) both.0 x a)

      heard_keeps : (s : Phase) (a : Option Bytes) (bytes : Bytes) (o : Option Event) → Next a w d (book_of s es g) → ((v : Event) → o ≡ some v → Next a w d (hears s (book_of s es g) v)) →
          Next a w d (heard s bytes o (book_of s es g)).book
      heard_keeps s a bytes none x y = x
      heard_keeps s a bytes (some v) x y =
          either (remembers g v.generation) a (book_turn (book_of s es g) (refusal_over bytes SameGeneration)) (book_turn (hears s (book_of s es g) v) (done bytes)) x (y v refl)

  -- a message is picked up
  found_keeps : (l : Option Message) (h d : List Sources) (es : List Occurrence) (g : Option ℕ) (w : Option Bytes) (s : Phase) (a : Option Bytes) →
      Learned us s a h d es e b l → Awaiting s w → Next l h d a w d (found s l (book_of s es g)).book
  unfolding Next
  found_keeps none h d es g w s a x y = rests none h d es g w s a x y
  found_keeps (some m) h d es g w Blind a x y = heard_keeps (some m) h d es g w Blind a m.bytes (read_event m.bytes) (rests (some m) h d es g w Blind a x y) (λ v is. (tt, refl))
  found_keeps (some m) h d es g w Settled a x y =
      heard_keeps (some m) h d es g w Settled a m.bytes (read_event m.bytes) (rests (some m) h d es g w Settled a x y) (λ v is. hearing (some m) h d es g w a m v (x.1 m refl) is x)
  found_keeps (some m) h d es g w Holding a x y = heard_keeps (some m) h d es g w Holding a m.bytes (read_event m.bytes) (rests (some m) h d es g w Holding a x y) (λ v is. (tt, refl))
  found_keeps (some m) h d es g w (Waiting kind) a x y =
      heard_keeps (some m) h d es g w (Waiting kind) a m.bytes (read_event m.bytes) (rests (some m) h d es g w (Waiting kind) a x y) (λ v is. (tt, refl))

  picked : (o : Option Refusal) (l : Option Message) (h d : List Sources) (es : List Occurrence) (g : Option ℕ) (w : Option Bytes) (s : Phase) (a : Option Bytes) →
      Learned us s a h d es e b l → Awaiting s w → Next l h d a w d (finds o s l (book_of s es g)).book
  picked none l h d es g w s a x y = found_keeps l h d es g w s a x y
  picked (some r) l h d es g w s a x y = rests l h d es g w s a x y

-- WRITINGS

no_refusal : {B : Type 0} (v : Bool) (r r' : Refusal) → cond v (some r) (some r') ≡ none → B
no_refusal true r r' e = never r (sym e)
no_refusal false r r' e = never r' (sym e)

-- an ack is written by a book that holds
holding : (s : Phase) (room : ℕ) → first_no (ack_questions s room) ≡ none → s ≡ Holding
holding Blind room e = no_refusal (leb 217 room) NotHolding RequestBufferShort e
holding Settled room e = no_refusal (leb 217 room) NotHolding RequestBufferShort e
holding Holding room e = refl
holding (Waiting kind) room e = no_refusal (leb 217 room) StillAwaiting RequestBufferShort e

-- a written sync has items, and so it is read as a sync
pub sync_kind : (s : Phase) (room delay retry : ℕ) (items : List Item) → first_no (sync_questions s room items) ≡ none → kind_of (request_message delay retry items) ≡ sync
unfolding kind_of request_message checked
sync_kind s room delay retry [] e = go (leb 217 room) (awaits_nothing s) e
  where
    go : (v w : Bool) → cond v (cond w (some ItemCount) (some StillAwaiting)) (some RequestBufferShort) ≡ none → ack ≡ sync
    go true w e = no_refusal w ItemCount StillAwaiting e
    go false w e = never RequestBufferShort (sym e)
sync_kind s room delay retry (i ∷ is) e = ap (λ v. cond v ack sync) (eqb-suc-zero (length is))

-- ACCEPTED REQUESTS

pub handle_says : (sender : ℕ) (q : Request) (b : Sources) (c : Line) (e : Endpoint) → (handle sender q b c e).outcome ≡ done (reply q b e)
handle_says sender q b c e = go (over (reported q b e))
  where
    acks : (s : State) (o : Outcome) → (acknowledge sender s c e o).outcome ≡ o
    acks Off o = refl
    acks (Armed age) o = refl
    acks (Sending attempt waited) o = refl
    acks Failed o = refl

    says : (q : Request) (o : Outcome) → (accept sender q b c e o).outcome ≡ o
    says (Sync slot items delay retry) o = refl
    says (Ack slot) o = acks e.state o

    go : (v : Bool) → let o = done (reply q b e) in (cond v (turn e c o) (accept sender q b c e o)).outcome ≡ o
    go true = refl
    go false = says q (done (reply q b e))

waits : (s : Phase) (w : Option Bytes) (bytes : Bytes) → Awaiting s w → w ≡ some bytes → s ≡ Waiting (kind_of bytes)
waits Blind w bytes x e = never bytes (sym x ∙ e)
waits Settled w bytes x e = never bytes (sym x ∙ e)
waits Holding w bytes x e = never bytes (sym x ∙ e)
waits (Waiting kind) w bytes x e = ap Waiting (sym (x bytes e))

-- EVERY CALL

-- of a pair with this board
module _ (p : Pair) (h : History) (laws : Laws (ids p.board)) (x : Inv (ids p.board) p h) where
  us : List UniqueId
  us = ids p.board

  -- what a call leaves that gives this step
  Leaves : Pair → History → Type 0
  Leaves p' h' = Inv (ids p.board) p' h'

  changed_keeps : (o : Option UniqueId) (place : ℕ) (r : Bytes) → at (ids p.board) place ≡ o →
      Leaves (pair_of (change o place r p.endpoint) p.line (after_set p.board place r) p.book) (later p.book.phase (after_set p.board place r) h)
  unfolding Leaves
  changed_keeps none place r is =
      subst (λ b. Inv (ids p.board) (pair_of p.endpoint p.line b p.book) (later p.book.phase b h)) (sym (set_past p.board place r is)) (rested_keeps (ids p.board) p h x)
  changed_keeps (some u) place r is = go (lawful_reading u.identifier r) refl
    where
      go : (test : Bool) → lawful_reading u.identifier r ≡ test → Inv (ids p.board)
          (pair_of (cond test (changed u place r p.endpoint) p.endpoint) p.line (after_set p.board place r) p.book) (later p.book.phase (after_set p.board place r) h)
      go true allowed =
          subst (λ b. Inv (ids p.board) (pair_of (changed u place r p.endpoint) p.line b p.book) (later p.book.phase b h)) (sym (set_taken p.board place u r is allowed))
          (acted_keeps (ids p.board) p h (reread p.board place r) (changed u place r p.endpoint) p.line
          (change_keeps (ids p.board) p.board refl u place r is allowed p.line.message p.endpoint x.0) x)
      go false refused =
          subst (λ b. Inv (ids p.board) (pair_of p.endpoint p.line b p.book) (later p.book.phase b h)) (sym (set_unlawful p.board place u r is refused)) (rested_keeps (ids p.board) p h x)

  -- the history that a writing adds to
  written_after : BookTurn → History
  written_after t = later t.book.phase p.board (wrote t.outcome.result t.outcome.written h)

  sync-written : (items : List Item) (delay retry room : ℕ) (o : Option Refusal) → first_no (sync_questions p.book.phase room items) ≡ o →
      let t = writes o sync (request_message delay retry items) p.book in Leaves (noted t p).pair (written_after t)
  unfolding Leaves written_after
  sync-written items delay retry room none is =
      (x.0, tt, λ bytes e. ap kind_of (sym (same_Some _ bytes e)) ∙ sync_kind p.book.phase room delay retry items is)
  sync-written items delay retry room (some r) is = rested_keeps (ids p.board) p h x

  ack-written : (room : ℕ) (o : Option Refusal) → first_no (ack_questions p.book.phase room) ≡ o →
      let t = writes o ack (request_message 0 0 []) p.book in Leaves (noted t p).pair (written_after t)
  unfolding Leaves written_after
  ack-written room none is =
      let y : Learned (ids p.board) Holding h.answer h.accepted h.completed p.book.entries p.endpoint p.board p.line.message =
      subst (λ s. Learned (ids p.board) s h.answer h.accepted h.completed p.book.entries p.endpoint p.board p.line.message) (holding p.book.phase room is) x.1 in
      (x.0, (more (ids p.board) laws p.endpoint p.board x.0 h.completed p.book.entries p.line.message y.0, y.1), λ bytes e. ap kind_of (sym (same_Some _ bytes e)) ∙ kind_of_none)
  ack-written room (some r) is = rested_keeps (ids p.board) p h x

  -- the history that a request adds to
  requested-after : Bytes → Turn → History
  requested-after bytes t = later p.book.phase p.board (record_acceptance t.outcome.result (kind_of bytes) t.outcome.written h)

  handed : (sender : ℕ) (bytes : Bytes) → h.awaited ≡ some bytes → h.answer ≡ none →
      let t = handle sender (request_of bytes) p.board p.line p.endpoint in Leaves (acted t p).pair (requested-after bytes t)
  unfolding Leaves requested-after
  handed sender bytes awaited new =
      let e = p.endpoint in
      let b = p.board in
      let vs = ids p.board in
      let q = request_of bytes in
      let t = handle sender q b p.line e in
      let says : t.outcome ≡ done (reply q b e) = handle_says sender q b p.line e in
      let waiting : p.book.phase ≡ Waiting (kind_of bytes) = waits p.book.phase h.awaited bytes x.2 awaited in
      let before : Learned vs (Waiting (kind_of bytes)) none h.accepted h.completed p.book.entries e b p.line.message =
      subst (λ s. Learned vs s none h.accepted h.completed p.book.entries e b p.line.message) waiting
      (subst (λ a. Learned vs p.book.phase a h.accepted h.completed p.book.entries e b p.line.message) new x.1) in
      let after = accepts b laws sender (kind_of bytes) bytes p.line e h.accepted h.completed p.book.entries (done (reply q b e)) (over (reported q b e)) refl x.0 before in
      let kept : Awaiting (Waiting (kind_of bytes)) h.awaited = subst (λ s. Awaiting s h.awaited) waiting x.2 in
      subst (λ (o : Outcome). Sound vs t.endpoint b
      × Learned vs p.book.phase (while_waiting p.book.phase (record_acceptance o.result (kind_of bytes) o.written h).answer) (b ∷ (record_acceptance o.result (kind_of bytes) o.written h).accepted)
      (b ∷ (record_acceptance o.result (kind_of bytes) o.written h).completed) p.book.entries t.endpoint b t.line.message
      × Awaiting p.book.phase (while_waiting p.book.phase (record_acceptance o.result (kind_of bytes) o.written h).awaited))
      (sym says)
      (subst (λ s. Sound vs t.endpoint b
      × Learned vs s (while_waiting s (some (reply q b e))) (b ∷ begins (kind_of bytes) h.accepted) (b ∷ h.completed) p.book.entries t.endpoint b t.line.message
      × Awaiting s (while_waiting s h.awaited))
      (sym waiting) (after.0, after.1, kept))

  request_keeps : (sender : ℕ) (bytes : Bytes) (o : Option Refusal) → let t = requested o sender bytes p.board p.line p.endpoint in
      ((n : ℕ) × (t.outcome.result ≡ Ok n) → (h.awaited ≡ some bytes) × (h.answer ≡ none)) → Leaves (acted t p).pair (requested-after bytes t)
  unfolding Leaves requested-after
  request_keeps sender bytes none fair =
      let says = handle_says sender (request_of bytes) p.board p.line p.endpoint in
      let f = fair (length (reply (request_of bytes) p.board p.endpoint), ap (λ (o : Outcome). o.result) says) in
      handed sender bytes f.0 f.1
  request_keeps sender bytes (some r) fair = rested_keeps (ids p.board) p h x

  pub keeps : (c : Call) → Fair c p h → Inv (ids p.board) (step p c).pair (after_call p c h)
  unfolding Next Leaves written_after requested-after
  keeps (changes place r) fair = changed_keeps (at (ids p.board) place) place r refl
  keeps (ticks room) fair =
      let t = tick (ids p.board) room p.line p.endpoint in
      acted_keeps (ids p.board) p h p.board t.endpoint t.line (tick_keeps (ids p.board) p.board p.line room p.endpoint x.0) x
  keeps link_goes_up fair = idles (ids p.board) p h (linked_up p.line) (λ o. o) x
  keeps link_goes_down fair = idles (ids p.board) p h (linked_down p.line) (λ o m is. never m is) x
  keeps loses fair = idles (ids p.board) p h (withdrawn p.line) (λ o m is. never m is) x
  keeps (writes_sync items delay retry room) fair = sync-written items delay retry room (first_no (sync_questions p.book.phase room items)) refl
  keeps (writes_ack room) fair = ack-written room (first_no (ack_questions p.book.phase room)) refl
  keeps (requests sender bytes room) fair = request_keeps sender bytes (refusal_of room bytes) fair
  keeps (answers kind bytes) fair =
      let y = took (ids p.board) laws p.endpoint p.board x.0 p.line.message h.accepted h.completed p.book.entries p.book.remembered h.awaited p.book.phase h.answer kind bytes fair x.1 x.2 in
      (x.0, y.0, y.1)
  keeps (gives_up kind) fair =
      let y = gave_up (ids p.board) laws p.endpoint p.board x.0 p.line.message h.accepted h.completed p.book.entries p.book.remembered h.awaited _ p.book.phase h.answer x.1 x.2 in
      (x.0, y.0, y.1)
  keeps (picks_up room) fair =
      let y = picked (ids p.board) laws p.endpoint p.board x.0 (first_no (pick_up_questions p.book.phase room)) p.line.message h.accepted h.completed p.book.entries p.book.remembered h.awaited p.book.phase h.answer x.1 x.2 in
      (x.0, y.0, y.1)
  keeps (fetches room) fair = rested_keeps (ids p.board) p h x
  keeps (shows id room) fair = rested_keeps (ids p.board) p h x
  keeps resets fair =
      let t = reset p.line p.endpoint in
      acted_keeps (ids p.board) p h p.board t.endpoint t.line (reset_keeps (ids p.board) p.board p.line p.endpoint x.0) x

-- every list of calls
pub runs : (vs : List UniqueId) → Laws vs → (p : Pair) (h : History) (cs : List Call) → Given p h cs → Inv vs p h → Inv vs (run p cs) (after_calls p cs h)
runs vs laws p h [] given x = x
runs vs laws p h (c ∷ cs) given x =
    let is : ids p.board ≡ vs = x.0.0.same in
    let kept : Inv (ids p.board) (step p c).pair (after_call p c h) = keeps p h (subst Laws (sym is) laws) (subst (λ ws. Inv ws p h) (sym is) x) c given.0 in
    runs vs laws (step p c).pair (after_call p c h) cs given.1 (subst (λ ws. Inv ws (step p c).pair (after_call p c h)) is kept)

pub starts : (b : Sources) (c : Line) → LawfulReadings b → Inv (ids b) (new_pair b c) new_history
unfolding unmarked
starts b c ok = ((nothing-marked (ids b) nothing b refl ok, (none_in nothing refl, λ q. refl, λ q. refl), omega arith), tt, refl)

-- WHAT THE INVARIANT SAYS

knows_shown : (vs : List UniqueId) (s : Phase) (a : Option Bytes) (h d : List Sources) (es : List Occurrence) (e : Endpoint) (b : Sources) (l : Option Message) →
    Learned vs s a h d es e b l → (u : UniqueId) (r : Bytes) → shown_in s es u ≡ some r → Knows vs d es e b l × (find u es ≡ some r)
knows_shown vs Blind a h d es e b l x u r is = never r is
knows_shown vs Settled a h d es e b l x u r is = (x, is)
knows_shown vs Holding a h d es e b l x u r is = (x.0, is)
knows_shown vs (Waiting kind) a h d es e b l x u r is = never r is

module _ (vs : List UniqueId) (p : Pair) (h : History) (x : Inv vs p h) where
  known_of : (u : UniqueId) (r : Bytes) → shown_in p.book.phase p.book.entries u ≡ some r →
      Knows vs h.completed p.book.entries p.endpoint p.board p.line.message × (find u p.book.entries ≡ some r)
  known_of u r is = knows_shown vs p.book.phase h.answer h.accepted h.completed p.book.entries p.endpoint p.board p.line.message x.1 u r is

  pub shows-present : PresentOrMarked p
  shows-present place source r here on is =
      let y = known_of source.id r is in
      let named : at vs place ≡ some source.id = sym (ap (λ ws. at ws place) x.0.0.same) ∙ at-ids p.board place source here in
      go (y.0.0.now place source.id r named on y.1)
    where
      go : Now p.board place source.id r ⊎ (Marked p.endpoint.prior place ⊎ Marked p.endpoint.since place) →
          (r ≡ source.reading) ⊎ (Marked p.endpoint.prior place ⊎ Marked p.endpoint.since place)
      go (inl now) = inl (ap (λ (s : Occurrence). s.reading) (same_Some (occurrence source.id r) source (sym now ∙ here)))
      go (inr marks) = inr marks

  pub shows_what_was : WasSo p h
  shows_what_was u r is = let y = known_of u r is in y.0.0.had u r y.1
