-- What a refusal leaves. Assumes nothing.
use Rattle.std.proofs.Common.{◌≡◌, ℕ, Bool, true, false, cond, not, ◌&&◌, eqb, leb, List, [], ◌∷◌, length, Some as some, None as none, Ok, Err, Option, Result, sym, refl, ap, ◌∙◌, subst}
use Rattle.std.proofs.lemmas.Option.{same_Some}
use Rattle.std.proofs.lemmas.Bool.{and_parts, not-true}
use Rattle.event.specs.declared.id.UniqueId.{UniqueId}
use Rattle.event.specs.declared.refusal.Refusal.{Refusal}
use Rattle.event.specs.declared.refusal.Refusal.TheVariants.{
  AnswerBufferShort,
  TickBufferShort,
  NoSuchPlace,
  UnlawfulReading,
  MessageBufferShort,
  NoMessage,
  UnlawfulMessage,
  SameGeneration,
  NoneAwaited,
  UnlawfulAnswer,
  UnknownSource,
}
use Rattle.event.specs.Bytes.{Bytes, within}
use Rattle.event.specs.Outcomes.{Outcome, done, refusal, refusal_over}
use Rattle.event.specs.Refusals.{number, Question, first_no}
use Rattle.event.specs.Sources.{lawful_reading, ids}
use Rattle.board.specs.Boards.{at, after_set}
use Rattle.wire.specs.declared.types.Kind.{Kind}
use Rattle.wire.specs.declared.types.Kind.TheVariants.{Sync as sync, Ack as ack}
use Rattle.wire.specs.Messages.{Event, read_event, Answer, read_answer}
use Rattle.wire.specs.Requests.{request_questions, request_refusal, request_message, request_of}
use Rattle.carrier.specs.Carriers.{Message, lies}
use Rattle.protocol.specs.declared.types.Phase.{Phase}
use Rattle.protocol.specs.Endpoint.{change, changed, change_outcome, timed, tick, Turn, turn, refusal_of, requested}
use Rattle.protocol.specs.Book.{blind, BookTurn, book_turn, awaits, sync_questions, ack_questions, writes, answer_read, remembers, hears, heard, found, finds, pick_up_questions, show_questions, reads, shown}
use Rattle.protocol.specs.Pair.{Pair, pair_of, Step, changes, ticks, link_goes_up, link_goes_down, loses, writes_sync, writes_ack, requests, answers, gives_up, picks_up, fetches, shows, resets, acted, noted, rested}
use Rattle.protocol.specs.Refused.{message_bytes, Leaves, RefusalsLeave}
use Rattle.promises.proofs.Boards.{set_unlawful, set_past}
use Rattle.promises.proofs.Lists.{never}
use Rattle.promises.proofs.Steps.{handle_says}
use Rattle.promises.proofs.Ticks.{timed_way}

-- RESULTS

succeeded : {B : Type 0} (n : ℕ) (r : Refusal) → Ok n ≡ Err r → B
succeeded n r e = absurd (cc)

same_refusal : (r' r : Refusal) → ◌≡◌ {A = Result ℕ Refusal} (Err r') (Err r) → r' ≡ r
same_refusal r' r e = cc

-- REFUSALS THAT LEAVE ALL

abbrev quiet : Refusal → Bool
quiet r = not (eqb (number r) 28) && not (within 25 26 (number r))

abbrev all_quiet : List Question → Bool
all_quiet [] = true
all_quiet (q ∷ qs) = quiet q.otherwise && all_quiet qs

first_quiet : (qs : List Question) → all_quiet qs ≡ true → (r : Refusal) → first_no qs ≡ some r → quiet r ≡ true
first_quiet [] ok r e = never r e
first_quiet (q ∷ qs) ok r e = go q.holds e (first_quiet qs (and_parts (quiet q.otherwise) (all_quiet qs) ok).1 r)
  where
    go : (v : Bool) → cond v (first_no qs) (some q.otherwise) ≡ some r → (first_no qs ≡ some r → quiet r ≡ true) → quiet r ≡ true
    go true e rest = rest e
    go false e rest = ap quiet (sym (same_Some q.otherwise r e)) ∙ (and_parts (quiet q.otherwise) (all_quiet qs) ok).0

-- a step that leaves the pair and is refused with r'
leaves : (p : Pair) (s : Step) (r' r : Refusal) → s.pair ≡ p → s.outcome ≡ refusal r' → quiet r' ≡ true → s.outcome.result ≡ Err r → Leaves p s r
leaves p s r' r same o ok e =
    let parts = and_parts (not (eqb (number r') 28)) (not (within 25 26 (number r'))) ok in
    subst (Leaves p s) (same_refusal r' r (sym (ap (λ (x : Outcome). x.result) o) ∙ e))
    (record {
      pair = same ∙ sym (ap (λ v. pair_of p.endpoint p.line p.board (cond v blind p.book)) (not-true (eqb (number r') 28) parts.0));
      buffer = ap (λ (x : Outcome). x.written) o ∙ sym (ap (λ v. cond v (message_bytes p.line.message) []) (not-true (within 25 26 (number r')) parts.1));
    })

rests : (p : Pair) (r' r : Refusal) → quiet r' ≡ true → ◌≡◌ {A = Result ℕ Refusal} (Err r') (Err r) → Leaves p (rested (refusal r') p) r
rests p r' r ok e = leaves p (rested (refusal r') p) r' r refl refl ok e

-- EVERY CALL

module _ (p : Pair) where
  change-leaves : (o : Option UniqueId) (place : ℕ) (x : Bytes) → at (ids p.board) place ≡ o → (r : Refusal) → (change_outcome o x).result ≡ Err r →
      Leaves p (record { pair = pair_of (change o place x p.endpoint) p.line (after_set p.board place x) p.book; outcome = change_outcome o x }) r
  change-leaves none place x here r e =
      leaves p _ NoSuchPlace r (ap (λ b. pair_of p.endpoint p.line b p.book) (set_past p.board place x here)) refl refl e
  change-leaves (some u) place x here r e = go (lawful_reading u.identifier x) refl e
    where
      go : (v : Bool) → lawful_reading u.identifier x ≡ v → (cond v (done []) (refusal UnlawfulReading)).result ≡ Err r →
          Leaves p (record { pair = pair_of (cond v (changed u place x p.endpoint) p.endpoint) p.line (after_set p.board place x) p.book; outcome = cond v (done []) (refusal UnlawfulReading) }) r
      go true is e = succeeded 0 r e
      go false is e = leaves p _ UnlawfulReading r (ap (λ b. pair_of p.endpoint p.line b p.book) (set_unlawful p.board place u x here is)) refl refl e

  tick-leaves : (room : ℕ) (r : Refusal) → (tick (ids p.board) room p.line p.endpoint).outcome.result ≡ Err r → Leaves p (acted (tick (ids p.board) room p.line p.endpoint) p) r
  tick-leaves room r e = go (leb 4111 room) e
    where
      t : Bool → Turn
      t v = cond v (timed (ids p.board) p.endpoint.state p.line p.endpoint) (turn p.endpoint p.line (refusal TickBufferShort))

      taken : (t true).outcome.result ≡ Err r → ⊥
      taken = timed_way (λ t. t.outcome.result ≡ Err r → ⊥) (ids p.board) p.line p.endpoint.state p.endpoint (λ e. succeeded _ r e)
          (record { stays = λ s e. succeeded _ r e; begins = λ e. succeeded _ r e; unbegun = λ e. succeeded _ r e; sends = λ n s e. succeeded _ r e; fails = λ e. succeeded _ r e })

      go : (v : Bool) → (t v).outcome.result ≡ Err r → Leaves p (acted (t v) p) r
      go true e = absurd (taken e)
      go false e = rests p TickBufferShort r refl e

  written-leaves : (o : Option Refusal) (kind : Kind) (bytes : Bytes) → ((x : Refusal) → o ≡ some x → quiet x ≡ true) → (r : Refusal) →
      (writes o kind bytes p.book).outcome.result ≡ Err r → Leaves p (noted (writes o kind bytes p.book) p) r
  written-leaves none kind bytes ok r e = succeeded (length bytes) r e
  written-leaves (some x) kind bytes ok r e = rests p x r (ok x refl) e

  requested-leaves : (o : Option Refusal) (sender : ℕ) (bytes : Bytes) → ((x : Refusal) → o ≡ some x → quiet x ≡ true) → (r : Refusal) →
      (requested o sender bytes p.board p.line p.endpoint).outcome.result ≡ Err r → Leaves p (acted (requested o sender bytes p.board p.line p.endpoint) p) r
  requested-leaves none sender bytes ok r e =
      succeeded _ r (sym (ap (λ (x : Outcome). x.result) (handle_says sender (request_of bytes) p.board p.line p.endpoint)) ∙ e)
  requested-leaves (some x) sender bytes ok r e = rests p x r (ok x refl) e

  read-leaves : (kind : Kind) (o : Option Answer) (r : Refusal) → (answer_read kind o p.book).outcome.result ≡ Err r → Leaves p (noted (answer_read kind o p.book) p) r
  read-leaves kind none r e = subst (Leaves p (noted (answer_read kind none p.book) p)) (same_refusal UnlawfulAnswer r e) (record { pair = refl; buffer = refl })
  read-leaves kind (some a) r e = succeeded 0 r e

  answer-leaves : (v : Bool) (kind : Kind) (o : Option Answer) (r : Refusal) → let t = cond v (answer_read kind o p.book) (book_turn p.book (refusal NoneAwaited)) in
      t.outcome.result ≡ Err r → Leaves p (noted t p) r
  answer-leaves true kind o r e = read-leaves kind o r e
  answer-leaves false kind o r e = rests p NoneAwaited r refl e

  give_leaves : (v : Bool) (r : Refusal) → let t = cond v (book_turn blind (done [])) (book_turn p.book (refusal NoneAwaited)) in
      t.outcome.result ≡ Err r → Leaves p (noted t p) r
  give_leaves true r e = succeeded 0 r e
  give_leaves false r e = rests p NoneAwaited r refl e

  -- refused with the fetched message in the buffer
  over-leaves : (m : Message) → p.line.message ≡ some m → (r' r : Refusal) → eqb (number r') 28 ≡ false → within 25 26 (number r') ≡ true → ◌≡◌ {A = Result ℕ Refusal} (Err r') (Err r) →
      Leaves p (noted (book_turn p.book (refusal_over m.bytes r')) p) r
  over-leaves m is r' r a b e = subst (Leaves p (noted (book_turn p.book (refusal_over m.bytes r')) p)) (same_refusal r' r e) (record {
    pair = sym (ap (λ v. pair_of p.endpoint p.line p.board (cond v blind p.book)) a);
    buffer = sym (ap message_bytes is) ∙ sym (ap (λ v. cond v (message_bytes p.line.message) []) b);
  })

  heard-leaves : (phase : Phase) (m : Message) → p.line.message ≡ some m → (o : Option Event) (r : Refusal) →
      (heard phase m.bytes o p.book).outcome.result ≡ Err r → Leaves p (noted (heard phase m.bytes o p.book) p) r
  heard-leaves phase m is none r e = over-leaves m is UnlawfulMessage r refl refl e
  heard-leaves phase m is (some v) r e = go (remembers p.book.remembered v.generation) e
    where
      t : Bool → BookTurn
      t b = cond b (book_turn p.book (refusal_over m.bytes SameGeneration)) (book_turn (hears phase p.book v) (done m.bytes))

      go : (b : Bool) → (t b).outcome.result ≡ Err r → Leaves p (noted (t b) p) r
      go true e = over-leaves m is SameGeneration r refl refl e
      go false e = succeeded (length m.bytes) r e

  found-leaves : (phase : Phase) (l : Option Message) → p.line.message ≡ l → (r : Refusal) → (found phase l p.book).outcome.result ≡ Err r → Leaves p (noted (found phase l p.book) p) r
  found-leaves phase none is r e = rests p NoMessage r refl e
  found-leaves phase (some m) is r e = heard-leaves phase m is (read_event m.bytes) r e

  pick_leaves : (o : Option Refusal) (phase : Phase) → ((x : Refusal) → o ≡ some x → quiet x ≡ true) → (r : Refusal) →
      (finds o phase p.line.message p.book).outcome.result ≡ Err r → Leaves p (noted (finds o phase p.line.message p.book) p) r
  pick_leaves none phase ok r e = found-leaves phase p.line.message refl r e
  pick_leaves (some x) phase ok r e = rests p x r (ok x refl) e

  fetch-leaves : (v : Bool) (l : Option Message) (r : Refusal) → let o = cond v (lies l) (refusal MessageBufferShort) in o.result ≡ Err r → Leaves p (rested o p) r
  fetch-leaves true none r e = rests p NoMessage r refl e
  fetch-leaves true (some m) r e = succeeded (length m.bytes) r e
  fetch-leaves false l r e = rests p MessageBufferShort r refl e

  show-leaves : (o : Option Refusal) (x : Option Bytes) → ((x : Refusal) → o ≡ some x → quiet x ≡ true) → (r : Refusal) → (reads o x).result ≡ Err r → Leaves p (rested (reads o x) p) r
  show-leaves none none ok r e = rests p UnknownSource r refl e
  show-leaves none (some y) ok r e = succeeded (length y) r e
  show-leaves (some z) x ok r e = rests p z r (ok z refl) e

request_quiet : (room : ℕ) (bytes : Bytes) (r : Refusal) → refusal_of room bytes ≡ some r → quiet r ≡ true
unfolding request_refusal
request_quiet room bytes r e = go (leb 4115 room) e
  where
    go : (v : Bool) → cond v (first_no (request_questions bytes)) (some AnswerBufferShort) ≡ some r → quiet r ≡ true
    go true e = first_quiet (request_questions bytes) refl r e
    go false e = ap quiet (sym (same_Some AnswerBufferShort r e))

pub refusals-leave : RefusalsLeave
refusals-leave p (changes place x) r e = change-leaves p (at (ids p.board) place) place x refl r e
refusals-leave p (ticks room) r e = tick-leaves p room r e
refusals-leave p link_goes_up r e = succeeded 0 r e
refusals-leave p link_goes_down r e = succeeded 0 r e
refusals-leave p loses r e = succeeded 0 r e
refusals-leave p (writes_sync items delay retry room) r e =
    written-leaves p (first_no (sync_questions p.book.phase room items)) sync (request_message delay retry items) (first_quiet (sync_questions p.book.phase room items) refl) r e
refusals-leave p (writes_ack room) r e =
    written-leaves p (first_no (ack_questions p.book.phase room)) ack (request_message 0 0 []) (first_quiet (ack_questions p.book.phase room) refl) r e
refusals-leave p (requests sender bytes room) r e = requested-leaves p (refusal_of room bytes) sender bytes (request_quiet room bytes) r e
refusals-leave p (answers kind bytes) r e = answer-leaves p (awaits kind p.book.phase) kind (read_answer bytes) r e
refusals-leave p (gives_up kind) r e = give_leaves p (awaits kind p.book.phase) r e
refusals-leave p (picks_up room) r e =
    pick_leaves p (first_no (pick_up_questions p.book.phase room)) p.book.phase (first_quiet (pick_up_questions p.book.phase room) refl) r e
refusals-leave p (fetches room) r e = fetch-leaves p (leb 4224 room) p.line.message r e
refusals-leave p (shows id room) r e =
    show-leaves p (first_no (show_questions p.book.phase room)) (shown p.book id) (first_quiet (show_questions p.book.phase room) refl) r e
refusals-leave p resets r e = succeeded 0 r e
