-- Two pairs that differ in generations alone go on alike. Assumes nothing.
use Rattle.std.proofs.Common.{◌≡◌, ℕ, ◌+◌, ◌*◌, ◌%◌, ◌<◌, min, Bool, true, false, cond, not, ◌&&◌, eqb, ltb, leb, ◌⊎◌, List, [], ◌∷◌, length, Some as some, None as none, Ok, Err, Option, sym, refl, ap, ◌∙◌, subst, inl, inr, true≢false, arith}
use mathlib.Core.Bool.{false≢true}
use Rattle.std.proofs.lemmas.Bool.Decides.{eqb_tells, Decides-ltb}
use Rattle.event.specs.declared.id.UniqueId.{UniqueId}
use Rattle.event.specs.declared.refusal.Refusal.{Refusal}
use Rattle.event.specs.declared.refusal.Refusal.TheVariants.{TickBufferShort, NoSuchPlace, UnlawfulReading, MessageBufferShort, NoMessage, SameGeneration, NoneAwaited, UnlawfulAnswer}
use Rattle.event.specs.Bytes.{Bytes, within}
use Rattle.event.specs.Identifiers.{has, any}
use Rattle.event.specs.Outcomes.{Outcome, done, refusal, refusal_over}
use Rattle.event.specs.Refusals.{first_no}
use Rattle.event.specs.Sources.{Occurrence, lawful_reading, ids}
use Rattle.board.specs.Boards.{Sources, at, after_set}
use Rattle.list.specs.Lists.{Told, these, overflow, told, over}
use Rattle.marks.specs.Lawful.{LawfulMarks}
use Rattle.marks.specs.Marking.{Marking, unmarked, occurrences}
use Rattle.wire.specs.declared.types.Kind.{Kind}
use Rattle.wire.specs.declared.types.Kind.TheVariants.{Sync as sync, Ack as ack}
use Rattle.wire.specs.Messages.{Event, event_message, read_event, Answer, read_answer}
use Rattle.wire.specs.Requests.{Request, Sync, Ack, request_of, request_message}
use Rattle.carrier.specs.Carriers.{Message, message_to, Line, linked, takes, lies}
use Rattle.protocol.specs.declared.types.State.{State}
use Rattle.protocol.specs.declared.types.State.TheVariants.{Off, Armed, Sending, Failed}
use Rattle.protocol.specs.declared.types.Phase.{Phase}
use Rattle.protocol.specs.declared.types.Phase.TheVariants.{Blind, Settled, Holding, Waiting}
use Rattle.protocol.specs.Endpoint.{
  Endpoint,
  in_state,
  mark,
  changed,
  change,
  change_outcome,
  fail,
  stay,
  begun,
  transmission,
  message_of,
  send,
  start,
  again,
  any_listed,
  timed,
  reset,
  Turn,
  turn,
  enabling,
  reported,
  reply,
  acknowledge,
  accept,
  handle,
  refusal_of,
  requested,
}
use Rattle.protocol.specs.Book.{
  merge,
  Book,
  BookTurn,
  book_turn,
  book_of,
  blind,
  awaits,
  sync_questions,
  ack_questions,
  writes,
  answer_told,
  answer_read,
  answered,
  remembers,
  learn,
  hears,
  heard,
  found,
  finds,
  pick_up_questions,
}
use Rattle.protocol.specs.Pair.{
  Pair,
  pair_of,
  Step,
  Call,
  changes,
  ticks,
  link_goes_up,
  link_goes_down,
  loses,
  writes_sync,
  writes_ack,
  requests,
  answers,
  gives_up,
  picks_up,
  fetches,
  shows,
  resets,
  acted,
  noted,
  carried,
  rested,
  step,
  run,
}
use Rattle.protocol.specs.Masking.{masked_outcome, compared_of, compared}
use Rattle.board.proofs.Rereads.{ids-after}
use Rattle.promises.proofs.Lists.{never}
use Rattle.promises.proofs.Invariant.{Laws}
use Rattle.promises.proofs.ChangeKeeps.{marks-lawful}
use Rattle.promises.proofs.Masked.{same_length, same_masked}

-- GENERATIONS

-- two generations, δ apart modulo 32
abbrev pub Apart : ℕ → ℕ → ℕ → Type 0
Apart δ a b = ((a + δ) % 32 ≡ b % 32) × (a < 32) × (b < 32)

same_test : (δ a a' b b' : ℕ) → Apart δ a a' → Apart δ b b' → eqb a b ≡ eqb a' b'
same_test δ a a' b b' x y = go (eqb_tells a b) (eqb_tells a' b')
  where
    go : ((eqb a b ≡ true) × (a ≡ b)) ⊎ ((eqb a b ≡ false) × (a ≡ b → ⊥)) → ((eqb a' b' ≡ true) × (a' ≡ b')) ⊎ ((eqb a' b' ≡ false) × (a' ≡ b' → ⊥)) → eqb a b ≡ eqb a' b'
    go (inl p) (inl q) = p.0 ∙ sym q.0
    go (inl p) (inr q) = absurd (q.1 (let h = p.1 in omega arith))
    go (inr p) (inl q) = absurd (p.1 (let h = q.1 in omega arith))
    go (inr p) (inr q) = p.0 ∙ sym q.0

next_apart : (δ a b : ℕ) → Apart δ a b → Apart δ ((a + 1) % 32) ((b + 1) % 32)
next_apart δ a b x = omega arith

-- TWINS

-- of one message, but for the generation
pub record Same (us : List UniqueId) (δ : ℕ) (m m' : Message) : Type 0 where
  pub destination : m.destination ≡ m'.destination
  pub retries : ℕ
  pub few : retries < 8
  pub marks : Marking
  pub lawful : LawfulMarks us marks
  pub first : ℕ
  pub second : ℕ
  pub bytes : m.bytes ≡ event_message (transmission first retries) (told (occurrences us marks))
  pub bytes' : m'.bytes ≡ event_message (transmission second retries) (told (occurrences us marks))
  pub apart : Apart δ first second

abbrev pub SameMessage : (us : List UniqueId) → ℕ → Option Message → Option Message → Type 0
SameMessage us δ none none = Unit {0}
SameMessage us δ none (some m) = ⊥
SameMessage us δ (some m) none = ⊥
SameMessage us δ (some m) (some m') = Same us δ m m'

-- remembered generations
abbrev pub SameRemembered : ℕ → Option ℕ → Option ℕ → Type 0
SameRemembered δ none none = Unit {0}
SameRemembered δ none (some b) = ⊥
SameRemembered δ (some a) none = ⊥
SameRemembered δ (some a) (some b) = Apart δ a b

-- in Off the destination is not in use
abbrev pub SameDestination : State → ℕ → ℕ → Type 0
SameDestination Off a b = Unit {0}
SameDestination (Armed age) a b = a ≡ b
SameDestination (Sending attempt waited) a b = a ≡ b
SameDestination Failed a b = a ≡ b

abbrev pub other : ℕ → ℕ → Endpoint → Endpoint
other g d e = record { state = e.state; enabled = e.enabled; delay = e.delay; retry = e.retry; prior = e.prior; since = e.since; generation = g; destination = d; failure = e.failure }

-- two turns of endpoints
pub record TwinTurn (us : List UniqueId) (δ : ℕ) (view : Outcome → Outcome) (t t' : Turn) : Type 0 where
  pub endpoint : t'.endpoint ≡ other t'.endpoint.generation t'.endpoint.destination t.endpoint
  pub link : t'.line.link ≡ t.line.link
  pub outcome : view t.outcome ≡ view t'.outcome
  pub generation : Apart δ t.endpoint.generation t'.endpoint.generation
  pub destination : SameDestination t.endpoint.state t.endpoint.destination t'.endpoint.destination
  pub message : SameMessage us δ t.line.message t'.line.message
  pub lawful : LawfulMarks us t.endpoint.prior

cond_twin : (us : List UniqueId) (δ : ℕ) (view : Outcome → Outcome) (test test' : Bool) (s t s' t' : Turn) → test ≡ test' → TwinTurn us δ view s s' → TwinTurn us δ view t t' →
    TwinTurn us δ view (cond test s t) (cond test' s' t')
cond_twin us δ view true true s t s' t' e x y = x
cond_twin us δ view true false s t s' t' e x y = absurd (true≢false e)
cond_twin us δ view false true s t s' t' e x y = absurd (false≢true e)
cond_twin us δ view false false s t s' t' e x y = y

same_put : (us : List UniqueId) (δ : ℕ) (taken taken' : Bool) (line line' : Line) (m m' : Message) → taken ≡ taken' → SameMessage us δ line.message line'.message → Same us δ m m' →
    SameMessage us δ (cond taken (linked line.link (some m)) line).message (cond taken' (linked line'.link (some m')) line').message
same_put us δ true true line line' m m' e x y = y
same_put us δ true false line line' m m' e x y = absurd (true≢false e)
same_put us δ false true line line' m m' e x y = absurd (false≢true e)
same_put us δ false false line line' m m' e x y = x

-- a put leaves the link
put_link : (taken : Bool) (line : Line) (m : Message) → (cond taken (linked line.link (some m)) line).link ≡ line.link
put_link true line m = refl
put_link false line m = refl

-- what is handed back, as it is
abbrev pub plain : Outcome → Outcome
plain o = o

-- what event messages of two generations have in common
same_taken : (link : Bool) (t t' : ℕ) (T : Told) → (link && within 1 4224 (length (event_message t T))) ≡ (link && within 1 4224 (length (event_message t' T)))
same_taken link t t' T = ap (λ (k : ℕ). link && within 1 4224 k) (same_length t t' T)

same_done : (g g' n : ℕ) (T : Told) → n < 8 → masked_outcome (done (event_message (transmission g n) T)) ≡ masked_outcome (done (event_message (transmission g' n) T))
same_done g g' n T few = let a = same_length (transmission g n) (transmission g' n) T in let b = same_masked g g' n T few in λ i. record { result = Ok (a i); written = b i }

module _ (us : List UniqueId) (δ : ℕ) (g d : ℕ) (link : Bool) (l l' : Option Message) (same : SameMessage us δ l l') where
  abbrev c : Line
  c = linked link l

  abbrev c' : Line
  c' = linked link l'

  -- TICKS

  sends : (e : Endpoint) (g' retries : ℕ) (attempt waited : ℕ) → retries < 8 → e.destination ≡ d → Apart δ e.generation g' → LawfulMarks us e.prior →
      TwinTurn us δ masked_outcome (send us retries c (in_state (Sending attempt waited) e)) (send us retries c' (other g' d (in_state (Sending attempt waited) e)))
  sends e g' retries attempt waited few to gens ok =
      let T = told (occurrences us e.prior) in
      let m = message_to e.destination (message_of us retries e) in
      let m' = message_to d (message_of us retries (other g' d e)) in
      let taken = takes c (message_of us retries e) in
      let taken' = takes c' (message_of us retries (other g' d e)) in
      record {
        endpoint = refl;
        link = put_link taken' c' m' ∙ sym (put_link taken c m);
        outcome = same_done e.generation g' retries T few;
        generation = gens;
        destination = to;
        message = same_put us δ taken taken' c c' m m' (same_taken link (transmission e.generation retries) (transmission g' retries) T) same
            (record { destination = to; retries = retries; few = few; marks = e.prior; lawful = ok; first = e.generation; second = g'; bytes = refl; bytes' = refl; apart = gens });
        lawful = ok;
      }

  fails : (e : Endpoint) (g' : ℕ) (bytes bytes' : Bytes) → masked_outcome (done bytes) ≡ masked_outcome (done bytes') → e.destination ≡ d → Apart δ e.generation g' → LawfulMarks us e.prior →
      TwinTurn us δ masked_outcome (fail bytes c e) (fail bytes' c' (other g' d e))
  fails e g' bytes bytes' is to gens ok = record { endpoint = refl; link = refl; outcome = is; generation = gens; destination = to; message = tt; lawful = ok }

  -- the same endpoint, in one state or another
  holds : (view : Outcome → Outcome) (e : Endpoint) (r : Outcome) → SameDestination e.state e.destination d → Apart δ e.generation g → LawfulMarks us e.prior →
      TwinTurn us δ view (turn e c r) (turn (other g d e) c' r)
  holds view e r to gens ok = record { endpoint = refl; link = refl; outcome = refl; generation = gens; destination = to; message = same; lawful = ok }

  timed_twin : (s : State) (e : Endpoint) → SameDestination s e.destination d → Apart δ e.generation g → LawfulMarks us e.prior →
      TwinTurn us δ masked_outcome (timed us s c (in_state s e)) (timed us s c' (other g d (in_state s e)))
  timed_twin Off e to gens ok = holds masked_outcome (in_state Off e) (done []) to gens ok
  timed_twin (Armed age) e to gens ok =
      let i = in_state (Armed age) e in
      let j = other g d (in_state (Armed age) e) in
      let older = min (age + 1) (10 * e.delay) in
      let n = (g + 1) % 32 in
      let T = told (occurrences us e.prior) in
      cond_twin us δ masked_outcome (eqb older (10 * e.delay) && any_listed (occurrences us e.prior)) _
      (start us c i) (stay c (in_state (Armed older) i)) (start us c' j) (stay c' (in_state (Armed older) j)) refl
      (cond_twin us δ masked_outcome (not (takes c (message_of us 0 (begun i))) && eqb e.retry 0) (not (takes c' (message_of us 0 (begun j))) && eqb e.retry 0)
      (fail (message_of us 0 (begun i)) c (begun i)) (send us 0 c (begun i)) (fail (message_of us 0 (begun j)) c' (begun j)) (send us 0 c' (begun j))
      (ap (λ v. not v && eqb e.retry 0) (same_taken link (transmission ((e.generation + 1) % 32) 0) (transmission n 0) T))
      (fails (begun i) n (message_of us 0 (begun i)) (message_of us 0 (begun j)) (same_done ((e.generation + 1) % 32) n 0 T (omega arith)) to (next_apart δ e.generation g gens) ok)
      (sends (begun i) n 0 1 0 (omega arith) to (next_apart δ e.generation g gens) ok))
      (holds masked_outcome (in_state (Armed older) i) (done []) to gens ok)
  timed_twin (Sending attempt waited) e to gens ok =
      let i = in_state (Sending attempt waited) e in
      let j = other g d (in_state (Sending attempt waited) e) in
      let waits = in_state (Sending attempt (waited + 1)) i in
      let waits' = in_state (Sending attempt (waited + 1)) j in
      cond_twin us δ masked_outcome (eqb e.retry 0) _ (stay c i) (cond (ltb (waited + 1) e.retry) (stay c waits) (again us attempt c i))
      (stay c' j) (cond (ltb (waited + 1) e.retry) (stay c' waits') (again us attempt c' j)) refl
      (holds masked_outcome i (done []) to gens ok)
      (cond_twin us δ masked_outcome (ltb (waited + 1) e.retry) _ (stay c waits) (again us attempt c i) (stay c' waits') (again us attempt c' j) refl
      (holds masked_outcome waits (done []) to gens ok)
      (under_eight (ltb attempt 8) refl))
    where
      under_eight : (test : Bool) → ltb attempt 8 ≡ test →
          TwinTurn us δ masked_outcome (cond test (send us attempt c (in_state (Sending (attempt + 1) 0) (in_state (Sending attempt waited) e))) (fail [] c (in_state (Sending attempt waited) e)))
          (cond test (send us attempt c' (in_state (Sending (attempt + 1) 0) (other g d (in_state (Sending attempt waited) e)))) (fail [] c' (other g d (in_state (Sending attempt waited) e))))
      under_eight true is = sends (in_state (Sending (attempt + 1) 0) (in_state (Sending attempt waited) e)) g attempt (attempt + 1) 0 ((Decides-ltb attempt 8).0 is) to gens ok
      under_eight false is = fails (in_state (Sending attempt waited) e) g [] [] refl to gens ok
  timed_twin Failed e to gens ok = holds masked_outcome (in_state Failed e) (done []) to gens ok

  -- CHANGES

  module _ (b : Sources) (is : ids b ≡ us) (u : UniqueId) (p : ℕ) (r : Bytes) (here : at us p ≡ some u) (allowed : lawful_reading u.identifier r ≡ true) where
    mark_twin : (s : State) (e : Endpoint) → SameDestination s e.destination d → Apart δ e.generation g → LawfulMarks us e.prior →
        TwinTurn us δ plain (turn (mark s p r (in_state s e)) c (done [])) (turn (mark s p r (other g d (in_state s e))) c' (done []))
    mark_twin Off e to gens ok = holds plain (in_state Off e) (done []) to gens ok
    mark_twin (Armed age) e to gens ok =
        record { endpoint = refl; link = refl; outcome = refl; generation = gens; destination = to; message = same; lawful = marks-lawful us b is u p r here allowed e.prior ok }
    mark_twin (Sending attempt waited) e to gens ok = record { endpoint = refl; link = refl; outcome = refl; generation = gens; destination = to; message = same; lawful = ok }
    mark_twin Failed e to gens ok = record { endpoint = refl; link = refl; outcome = refl; generation = gens; destination = to; message = same; lawful = ok }

    changed_twin : (on : Bool) (e : Endpoint) → SameDestination e.state e.destination d → Apart δ e.generation g → LawfulMarks us e.prior →
        TwinTurn us δ plain (turn (cond on (mark e.state p r e) e) c (done [])) (turn (cond on (mark e.state p r (other g d e)) (other g d e)) c' (done []))
    changed_twin true e to gens ok = mark_twin e.state e to gens ok
    changed_twin false e to gens ok = holds plain e (done []) to gens ok

  -- REQUESTS

  sync-destination : (any : Bool) (sender a : ℕ) → SameDestination (cond any (Armed 0) Off) (cond any sender a) (cond any sender d)
  sync-destination true sender a = refl
  sync-destination false sender a = tt

  acks_twin : (sender : ℕ) (s : State) (e : Endpoint) (r : Outcome) → SameDestination s e.destination d → Apart δ e.generation g → LawfulMarks us e.prior →
      TwinTurn us δ plain (acknowledge sender s c (in_state s e) r) (acknowledge sender s c' (other g d (in_state s e)) r)
  unfolding unmarked
  acks_twin sender Off e r to gens ok = record { endpoint = refl; link = refl; outcome = refl; generation = gens; destination = tt; message = same; lawful = ok }
  acks_twin sender (Armed age) e r to gens ok =
      record { endpoint = refl; link = refl; outcome = refl; generation = gens; destination = ap (λ a. cond (any e.enabled) sender a) to; message = same; lawful = ok }
  acks_twin sender (Sending attempt waited) e r to gens ok =
      record { endpoint = refl; link = refl; outcome = refl; generation = gens; destination = ap (λ a. cond (any e.enabled) sender a) to; message = tt; lawful = λ q u s a x. never s x }
  acks_twin sender Failed e r to gens ok =
      record { endpoint = refl; link = refl; outcome = refl; generation = gens; destination = ap (λ a. cond (any e.enabled) sender a) to; message = tt; lawful = λ q u s a x. never s x }

  accepts_twin : (board : Sources) (sender : ℕ) (q : Request) (e : Endpoint) (r : Outcome) → SameDestination e.state e.destination d → Apart δ e.generation g → LawfulMarks us e.prior →
      TwinTurn us δ plain (accept sender q board c e r) (accept sender q board c' (other g d e) r)
  unfolding unmarked
  accepts_twin board sender (Sync slot items delay retry) e r to gens ok = record {
    endpoint = refl;
    link = refl;
    outcome = refl;
    generation = gens;
    destination = sync-destination (any (enabling (ids board) items e.enabled)) sender e.destination;
    message = tt;
    lawful = λ q u s a x. never s x;
  }
  accepts_twin board sender (Ack slot) e r to gens ok = acks_twin sender e.state e r to gens ok

-- two messages, masked, are the same
pub message-done : (us : List UniqueId) (δ : ℕ) (m m' : Message) → Same us δ m m' → masked_outcome (done m.bytes) ≡ masked_outcome (done m'.bytes)
message-done us δ m m' x =
    ap (λ (bytes : Bytes). masked_outcome (done bytes)) x.bytes ∙ same_done x.first x.second x.retries (told (occurrences us x.marks)) x.few
    ∙ sym (ap (λ (bytes : Bytes). masked_outcome (done bytes)) x.bytes')

-- THE BOOK

pub record TwinBook (δ : ℕ) (view : Outcome → Outcome) (t t' : BookTurn) : Type 0 where
  pub phase : t'.book.phase ≡ t.book.phase
  pub entries : t'.book.entries ≡ t.book.entries
  pub remembered : SameRemembered δ t.book.remembered t'.book.remembered
  pub outcome : view t.outcome ≡ view t'.outcome

cond-book : (δ : ℕ) (view : Outcome → Outcome) (test : Bool) (k l k' l' : Book) (o o' : Outcome) → TwinBook δ view (book_turn k o) (book_turn k' o') → TwinBook δ view (book_turn l o) (book_turn l' o') →
    TwinBook δ view (book_turn (cond test k l) o) (book_turn (cond test k' l') o')
cond-book δ view true k l k' l' o o' x y = x
cond-book δ view false k l k' l' o o' x y = y

cond-turn : (δ : ℕ) (view : Outcome → Outcome) (test test' : Bool) (k l k' l' : BookTurn) → test ≡ test' → TwinBook δ view k k' → TwinBook δ view l l' → TwinBook δ view (cond test k l) (cond test' k' l')
cond-turn δ view true true k l k' l' is x y = x
cond-turn δ view true false k l k' l' is x y = absurd (true≢false is)
cond-turn δ view false true k l k' l' is x y = absurd (false≢true is)
cond-turn δ view false false k l k' l' is x y = y

blinds : (δ : ℕ) (view : Outcome → Outcome) (o o' : Outcome) → view o ≡ view o' → TwinBook δ view (book_turn blind o) (book_turn blind o')
blinds δ view o o' is = record { phase = refl; entries = refl; remembered = tt; outcome = is }

remembers_same : (δ : ℕ) (r r' : Option ℕ) (i j : ℕ) → SameRemembered δ r r' → Apart δ i j → remembers r i ≡ remembers r' j
remembers_same δ none none i j x y = refl
remembers_same δ none (some b) i j x y = absurd x
remembers_same δ (some a) none i j x y = absurd x
remembers_same δ (some a) (some b) i j x y = same_test δ a b i j x y

module _ (us : List UniqueId) (laws : Laws us) (δ : ℕ) (es : List Occurrence) (r r' : Option ℕ) (same : SameRemembered δ r r') where
  abbrev k : Phase → Book
  k s = book_of s es r

  abbrev k' : Phase → Book
  k' s = book_of s es r'

  keep : (view : Outcome → Outcome) (s : Phase) (o o' : Outcome) → view o ≡ view o' → TwinBook δ view (book_turn (k s) o) (book_turn (k' s) o')
  keep view s o o' is = record { phase = refl; entries = refl; remembered = same; outcome = is }

  give_twin : (test : Bool) (s : Phase) →
      TwinBook δ plain (cond test (book_turn blind (done [])) (book_turn (k s) (refusal NoneAwaited))) (cond test (book_turn blind (done [])) (book_turn (k' s) (refusal NoneAwaited)))
  give_twin test s = cond-turn δ plain test test _ _ _ _ refl (blinds δ plain (done []) (done []) refl) (keep plain s (refusal NoneAwaited) (refusal NoneAwaited) refl)

  answered_twin : (kind : Kind) (t : Told) (s : Phase) → TwinBook δ plain (book_turn (answer_told kind t (k s)) (done [])) (book_turn (answer_told kind t (k' s)) (done []))
  answered_twin sync overflow s = blinds δ plain (done []) (done []) refl
  answered_twin ack overflow s = blinds δ plain (done []) (done []) refl
  answered_twin sync (these os) s = record { phase = refl; entries = refl; remembered = tt; outcome = refl }
  answered_twin ack (these os) s =
      cond-book δ plain (leb (length (merge es os)) 64) (book_of Settled (merge es os) r) blind (book_of Settled (merge es os) r') blind (done []) (done [])
      (record { phase = refl; entries = refl; remembered = same; outcome = refl }) (blinds δ plain (done []) (done []) refl)

  read_twin : (kind : Kind) (o : Option Answer) (s : Phase) → TwinBook δ plain (answer_read kind o (k s)) (answer_read kind o (k' s))
  read_twin kind none s = blinds δ plain (refusal UnlawfulAnswer) (refusal UnlawfulAnswer) refl
  read_twin kind (some a) s = answered_twin kind a.told s

  take_twin : (s : Phase) (kind : Kind) (bytes : Bytes) → TwinBook δ plain (answered s kind bytes (k s)) (answered s kind bytes (k' s))
  take_twin s kind bytes = cond-turn δ plain (awaits kind s) (awaits kind s) _ _ _ _ refl (read_twin kind (read_answer bytes) s) (keep plain s (refusal NoneAwaited) (refusal NoneAwaited) refl)

  abbrev event_as : (generation retries : ℕ) → Told → Event
  event_as g n t = record { generation = g; retries = n; told = t }

  learn_twin : (i j : ℕ) (t : Told) (o o' : Outcome) → masked_outcome o ≡ masked_outcome o' → Apart δ i j →
      TwinBook δ masked_outcome (book_turn (learn (k Settled) i t) o) (book_turn (learn (k' Settled) j t) o')
  learn_twin i j overflow o o' is gens = blinds δ masked_outcome o o' is
  learn_twin i j (these os) o o' is gens = cond-book δ masked_outcome (leb (length (merge es os)) 64) (book_of Holding (merge es os) (some i)) blind
      (book_of Holding (merge es os) (some j)) blind o o'
      (record { phase = refl; entries = refl; remembered = gens; outcome = is }) (blinds δ masked_outcome o o' is)

  hears_twin : (s : Phase) (i j n : ℕ) (t : Told) (o o' : Outcome) → masked_outcome o ≡ masked_outcome o' → Apart δ i j →
      TwinBook δ masked_outcome (book_turn (hears s (k s) (event_as i n t)) o) (book_turn (hears s (k' s) (event_as j n t)) o')
  hears_twin Blind i j n t o o' is gens = blinds δ masked_outcome o o' is
  hears_twin Settled i j n t o o' is gens = learn_twin i j t o o' is gens
  hears_twin Holding i j n t o o' is gens = blinds δ masked_outcome o o' is
  hears_twin (Waiting kind) i j n t o o' is gens = blinds δ masked_outcome o o' is

  heard_twin : (s : Phase) (bytes bytes' : Bytes) (i j n : ℕ) (t : Told) → masked_outcome (done bytes) ≡ masked_outcome (done bytes') → Apart δ i j →
      TwinBook δ masked_outcome (heard s bytes (some (event_as i n t)) (k s)) (heard s bytes' (some (event_as j n t)) (k' s))
  heard_twin s bytes bytes' i j n t is gens =
      let over : masked_outcome (refusal_over bytes SameGeneration) ≡ masked_outcome (refusal_over bytes' SameGeneration) = ap (λ (o : Outcome). record { result = Err SameGeneration; written = o.written }) is in
      cond-turn δ masked_outcome (remembers r i) (remembers r' j) _ _ _ _ (remembers_same δ r r' i j same gens)
      (keep masked_outcome s (refusal_over bytes SameGeneration) (refusal_over bytes' SameGeneration) over)
      (hears_twin s i j n t (done bytes) (done bytes') is gens)

  found_twin : (s : Phase) (l l' : Option Message) → SameMessage us δ l l' → TwinBook δ masked_outcome (found s l (k s)) (found s l' (k' s))
  found_twin s none none y = keep masked_outcome s (refusal NoMessage) (refusal NoMessage) refl
  found_twin s none (some m) y = absurd y
  found_twin s (some m) none y = absurd y
  found_twin s (some m) (some m') y =
      let T = told (occurrences us y.marks) in
      let a : read_event m.bytes ≡ some (event_as y.first y.retries T) = ap read_event y.bytes ∙ laws.events y.first y.retries y.marks y.few y.lawful in
      let b : read_event m'.bytes ≡ some (event_as y.second y.retries T) = ap read_event y.bytes' ∙ laws.events y.second y.retries y.marks y.few y.lawful in
      subst (λ o. TwinBook δ masked_outcome (heard s m.bytes o (k s)) (heard s m'.bytes (read_event m'.bytes) (k' s))) (sym a)
      (subst (λ o. TwinBook δ masked_outcome (heard s m.bytes (some (event_as y.first y.retries T)) (k s)) (heard s m'.bytes o (k' s))) (sym b)
      (heard_twin s m.bytes m'.bytes y.first y.second y.retries T (message-done us δ m m' y) y.apart))

  pick_twin : (o : Option Refusal) (s : Phase) (l l' : Option Message) → SameMessage us δ l l' → TwinBook δ masked_outcome (finds o s l (k s)) (finds o s l' (k' s))
  pick_twin none s l l' x = found_twin s l l' x
  pick_twin (some r) s l l' x = keep masked_outcome s (refusal r) (refusal r) refl

fetched_twin : (us : List UniqueId) (δ : ℕ) (l l' : Option Message) → SameMessage us δ l l' → masked_outcome (lies l) ≡ masked_outcome (lies l')
fetched_twin us δ none none x = refl
fetched_twin us δ none (some m) x = absurd x
fetched_twin us δ (some m) none x = absurd x
fetched_twin us δ (some m) (some m') x = message-done us δ m m' x

fetch_twin : (us : List UniqueId) (δ : ℕ) (test : Bool) (l l' : Option Message) → SameMessage us δ l l' →
    masked_outcome (cond test (lies l) (refusal MessageBufferShort)) ≡ masked_outcome (cond test (lies l') (refusal MessageBufferShort))
fetch_twin us δ true l l' x = fetched_twin us δ l l' x
fetch_twin us δ false l l' x = refl

-- PAIRS

pub record Twin (us : List UniqueId) (δ : ℕ) (p q : Pair) : Type 0 where
  pub same : ids p.board ≡ us
  pub endpoint : q.endpoint ≡ other q.endpoint.generation q.endpoint.destination p.endpoint
  pub link : q.line.link ≡ p.line.link
  pub board : q.board ≡ p.board
  pub phase : q.book.phase ≡ p.book.phase
  pub entries : q.book.entries ≡ p.book.entries
  pub generation : Apart δ p.endpoint.generation q.endpoint.generation
  pub destination : SameDestination p.endpoint.state p.endpoint.destination q.endpoint.destination
  pub message : SameMessage us δ p.line.message q.line.message
  pub remembered : SameRemembered δ p.book.remembered q.book.remembered
  pub lawful : LawfulMarks us p.endpoint.prior

-- two steps hand back the same, as it is viewed, and leave twins
abbrev BothBy : (us : List UniqueId) → ℕ → (Outcome → Outcome) → Step → Step → Type 0
BothBy us δ view s s' = (view s.outcome ≡ view s'.outcome) × Twin us δ s.pair s'.pair

-- p, but for what may differ
abbrev twin_of : Pair → Pair → Pair
twin_of p q = pair_of
    (other q.endpoint.generation q.endpoint.destination p.endpoint)
    (linked p.line.link q.line.message)
    p.board
    (book_of p.book.phase p.book.entries q.book.remembered)

twin_is : (us : List UniqueId) (δ : ℕ) (p q : Pair) → Twin us δ p q → q ≡ twin_of p q
twin_is us δ p q x = λ i. pair_of
    (x.endpoint i)
    (linked (x.link i) q.line.message)
    (x.board i)
    (book_of (x.phase i) (x.entries i) q.book.remembered)

-- of a pair with this board
module _ (δ : ℕ) (p q : Pair) (laws : Laws (ids p.board)) (x : Twin (ids p.board) δ p q) where
  abbrev us : List UniqueId
  us = ids p.board

  abbrev e : Endpoint
  e = p.endpoint

  abbrev g : ℕ
  g = q.endpoint.generation

  abbrev d : ℕ
  d = q.endpoint.destination

  abbrev own : Book
  own = p.book

  abbrev own' : Book
  own' = book_of p.book.phase p.book.entries q.book.remembered

  abbrev line' : Line
  line' = linked p.line.link q.line.message

  acted_twin : (view : Outcome → Outcome) (b : Sources) → ids b ≡ us → (t t' : Turn) → TwinTurn us δ view t t' →
      BothBy us δ view (record { pair = pair_of t.endpoint t.line b own; outcome = t.outcome }) (record { pair = pair_of t'.endpoint t'.line b own'; outcome = t'.outcome })
  acted_twin view b is t t' y = (
    y.outcome,
    record {
      same = is;
      endpoint = y.endpoint;
      link = y.link;
      board = refl;
      phase = refl;
      entries = refl;
      generation = y.generation;
      destination = y.destination;
      message = y.message;
      remembered = x.remembered;
      lawful = y.lawful;
    },
  )

  noted_twin : (view : Outcome → Outcome) (t t' : BookTurn) → TwinBook δ view t t' → BothBy us δ view (noted t p) (noted t' (twin_of p q))
  noted_twin view t t' y = (
    y.outcome,
    record {
      same = refl;
      endpoint = refl;
      link = refl;
      board = refl;
      phase = y.phase;
      entries = y.entries;
      generation = x.generation;
      destination = x.destination;
      message = x.message;
      remembered = y.remembered;
      lawful = x.lawful;
    },
  )

  -- the endpoint stays, and the carrier goes on alike
  idle_twin : (view : Outcome → Outcome) (link : Bool) (l l' : Option Message) → SameMessage us δ l l' → BothBy us δ view (carried (linked link l) p) (carried (linked link l') (twin_of p q))
  idle_twin view link l l' same =
      acted_twin view p.board refl (turn e (linked link l) (done [])) (turn (other g d e) (linked link l') (done []))
      (holds us δ g d link l l' same view e (done []) x.destination x.generation x.lawful)

  -- nothing changes; what is handed back looks the same
  rest_twin : (view : Outcome → Outcome) (o o' : Outcome) → view o ≡ view o' → BothBy us δ view (rested o p) (rested o' (twin_of p q))
  rest_twin view o o' is = (is, (idle_twin view p.line.link p.line.message q.line.message x.message).1)

  -- the endpoint's turns on the two carriers, by a change of this source
  changing : (o : Option UniqueId) (place : ℕ) (r : Bytes) → at us place ≡ o →
      TwinTurn us δ plain (turn (change o place r e) p.line (change_outcome o r)) (turn (change o place r (other g d e)) line' (change_outcome o r))
  changing none place r here =
      holds us δ g d p.line.link p.line.message q.line.message x.message plain e (refusal NoSuchPlace) x.destination x.generation x.lawful
  changing (some u) place r here = go (lawful_reading u.identifier r) refl
    where
      go : (test : Bool) → lawful_reading u.identifier r ≡ test →
          TwinTurn us δ plain (turn (cond test (changed u place r e) e) p.line (cond test (done []) (refusal UnlawfulReading)))
          (turn (cond test (changed u place r (other g d e)) (other g d e)) line' (cond test (done []) (refusal UnlawfulReading)))
      go true allowed = changed_twin us δ g d p.line.link p.line.message q.line.message x.message p.board refl u place r here allowed
          (has e.enabled u.identifier) e x.destination x.generation x.lawful
      go false allowed = holds us δ g d p.line.link p.line.message q.line.message x.message plain e (refusal UnlawfulReading) x.destination x.generation x.lawful

  written_twin : (o : Option Refusal) (kind : Kind) (bytes : Bytes) → BothBy us δ plain (noted (writes o kind bytes own) p) (noted (writes o kind bytes own') (twin_of p q))
  written_twin none kind bytes = noted_twin plain (writes none kind bytes own) (writes none kind bytes own') (record { phase = refl; entries = refl; remembered = x.remembered; outcome = refl })
  written_twin (some r) kind bytes = rest_twin plain (refusal r) (refusal r) refl

  handled_twin : (sender : ℕ) (request : Request) (test : Bool) (said : Outcome) →
      TwinTurn us δ plain (cond test (turn e p.line said) (accept sender request p.board p.line e said))
      (cond test (turn (other g d e) line' said) (accept sender request p.board line' (other g d e) said))
  handled_twin sender request test said =
      cond_twin us δ plain test test _ _ _ _ refl
      (holds us δ g d p.line.link p.line.message q.line.message x.message plain e said x.destination x.generation x.lawful)
      (accepts_twin us δ g d p.line.link p.line.message q.line.message x.message p.board sender request e said x.destination x.generation x.lawful)

  -- what is reported does not rest on the generation or the destination
  handle_twin : (sender : ℕ) (request : Request) → TwinTurn us δ plain (handle sender request p.board p.line e) (handle sender request p.board line' (other g d e))
  handle_twin sender (Sync slot items delay retry) =
      handled_twin sender (Sync slot items delay retry) (over (reported (Sync slot items delay retry) p.board e)) (done (reply (Sync slot items delay retry) p.board e))
  handle_twin sender (Ack slot) = handled_twin sender (Ack slot) (over (reported (Ack slot) p.board e)) (done (reply (Ack slot) p.board e))

  requested_twin : (o : Option Refusal) (sender : ℕ) (bytes : Bytes) →
      BothBy us δ plain (acted (requested o sender bytes p.board p.line e) p) (acted (requested o sender bytes p.board line' (other g d e)) (twin_of p q))
  requested_twin none sender bytes =
      acted_twin plain p.board refl (handle sender (request_of bytes) p.board p.line e) (handle sender (request_of bytes) p.board line' (other g d e)) (handle_twin sender (request_of bytes))
  requested_twin (some r) sender bytes = rest_twin plain (refusal r) (refusal r) refl

  step_twin : (call : Call) → BothBy us δ (compared_of call) (step p call) (step (twin_of p q) call)
  unfolding unmarked
  step_twin (changes place r) =
      acted_twin plain (after_set p.board place r) (ids-after p.board place r)
      (turn (change (at us place) place r e) p.line (change_outcome (at us place) r)) (turn (change (at us place) place r (other g d e)) line' (change_outcome (at us place) r))
      (changing (at us place) place r refl)
  step_twin (ticks room) =
      acted_twin masked_outcome p.board refl _ _
      (cond_twin us δ masked_outcome (leb 4111 room) _ (timed us e.state p.line e) (turn e p.line (refusal TickBufferShort))
      (timed us e.state line' (other g d e)) (turn (other g d e) line' (refusal TickBufferShort)) refl
      (timed_twin us δ g d p.line.link p.line.message q.line.message x.message e.state e x.destination x.generation x.lawful)
      (holds us δ g d p.line.link p.line.message q.line.message x.message masked_outcome e (refusal TickBufferShort) x.destination x.generation x.lawful))
  step_twin link_goes_up = idle_twin plain true p.line.message q.line.message x.message
  step_twin link_goes_down = idle_twin plain false none none tt
  step_twin loses = idle_twin plain p.line.link none none tt
  step_twin (writes_sync items delay retry room) = written_twin (first_no (sync_questions p.book.phase room items)) sync (request_message delay retry items)
  step_twin (writes_ack room) = written_twin (first_no (ack_questions p.book.phase room)) ack (request_message 0 0 [])
  step_twin (requests sender bytes room) = requested_twin (refusal_of room bytes) sender bytes
  step_twin (answers kind bytes) = noted_twin plain _ _ (take_twin us laws δ p.book.entries p.book.remembered q.book.remembered x.remembered p.book.phase kind bytes)
  step_twin (gives_up kind) =
      noted_twin plain _ _ (give_twin us laws δ p.book.entries p.book.remembered q.book.remembered x.remembered (awaits kind p.book.phase) p.book.phase)
  step_twin (picks_up room) = noted_twin masked_outcome _ _
      (pick_twin us laws δ p.book.entries p.book.remembered q.book.remembered x.remembered (first_no (pick_up_questions p.book.phase room)) p.book.phase p.line.message q.line.message x.message)
  step_twin (fetches room) = rest_twin masked_outcome _ _ (fetch_twin us δ (leb 4224 room) p.line.message q.line.message x.message)
  step_twin (shows u room) = rest_twin plain _ _ refl
  step_twin resets =
      let t = reset p.line e in
      let t' = reset line' (other g d e) in
      acted_twin plain p.board refl t t'
      (record { endpoint = refl; link = refl; outcome = refl; generation = x.generation; destination = tt; message = tt; lawful = λ q u s a y. never s y })

  step_both : (call : Call) → BothBy us δ (compared_of call) (step p call) (step q call)
  step_both call = subst (λ z. BothBy us δ (compared_of call) (step p call) (step z call)) (sym (twin_is us δ p q x)) (step_twin call)

pub run-both : (vs : List UniqueId) → Laws vs → (δ : ℕ) (p q : Pair) (calls : List Call) → Twin vs δ p q → (compared p calls ≡ compared q calls) × Twin vs δ (run p calls) (run q calls)
run-both vs laws δ p q [] x = (refl, x)
run-both vs laws δ p q (call ∷ calls) x =
    let is : ids p.board ≡ vs = x.same in
    let y = step_both δ p q (subst Laws (sym is) laws) (subst (λ ws. Twin ws δ p q) (sym is) x) call in
    let z = run-both vs laws δ (step p call).pair (step q call).pair calls (subst (λ ws. Twin ws δ (step p call).pair (step q call).pair) is y.1) in
    ((λ i. y.0 i ∷ z.0 i), z.1)
