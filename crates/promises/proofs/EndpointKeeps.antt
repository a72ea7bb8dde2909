-- The endpoint's own actions keep what the book has learned. Assumes nothing.
use Rattle.std.proofs.Common.{◌≡◌, ℕ, ◌+◌, ◌*◌, ◌%◌, ◌<◌, min, Bool, true, false, cond, not, ◌&&◌, eqb, ltb, leb, List, [], ◌∷◌, Some as some, Option, sym, refl, ap, ◌∙◌, inr, arith}
use Rattle.std.proofs.lemmas.Option.{same_Some}
use mathlib.Core.Bool.{false≢true}
use Rattle.std.proofs.lemmas.Bool.Decides.{Decides-ltb}
use Rattle.event.specs.declared.id.UniqueId.{UniqueId}
use Rattle.event.specs.declared.refusal.Refusal.TheVariants.{TickBufferShort}
use Rattle.event.specs.Identifiers.{Words, nothing}
use Rattle.event.specs.Outcomes.{refusal}
use Rattle.event.specs.Sources.{Occurrence, ids}
use Rattle.board.specs.Boards.{Sources}
use Rattle.marks.specs.Marking.{Marking, unmarked, occurrences}
use Rattle.carrier.specs.Carriers.{Message, message_to, Line, linked, takes}
use Rattle.protocol.specs.declared.types.State.{State}
use Rattle.protocol.specs.declared.types.State.TheVariants.{Off, Armed, Sending, Failed}
use Rattle.protocol.specs.Endpoint.{Endpoint, in_state, fail, stay, begun, message_of, send, start, again, any_listed, timed, tick, reset, Turn, turn}
use Rattle.promises.proofs.Lists.{never}
use Rattle.promises.proofs.Words.{none_in}
use Rattle.promises.proofs.Ticks.{either}
use Rattle.promises.proofs.Invariant.{LawfulReadings, Right, Shows, OwnOne, Own, Held, Sound}

-- what an action keeps that leaves e', b' and l'
pub record Kept (us : List UniqueId) (e : Endpoint) (b : Sources) (l : Option Message) (e' : Endpoint) (b' : Sources) (l' : Option Message) : Type 0 where
  pub sound : Sound us e' b'
  pub shows : (h : List Sources) (es : List Occurrence) → Shows us h es e.enabled e.prior e.since b → Shows us (b' ∷ h) es e'.enabled e'.prior e'.since b'
  pub own : Own us e l → Own us e' l'
  pub held : (es : List Occurrence) → Held us es e → Held us es e'

-- no marks are right
pub nothing-marked : (us : List UniqueId) (enabled : Words) (b : Sources) → ids b ≡ us → LawfulReadings b → Right us enabled unmarked unmarked b
unfolding unmarked
nothing-marked us enabled b same ok = record {
  same = same;
  board = ok;
  prior-lawful = λ p u r a x. never r x;
  since-lawful = λ p u r a x. never r x;
  since_now = λ q u r a x y. never r y;
  prior_now = λ q u r a x y z. never r y;
}

-- one more board, the same marks
pub shows_more : (us : List UniqueId) (h : List Sources) (es : List Occurrence) (enabled : Words) (prior since : Marking) (b b' : Sources) →
    Shows us h es enabled prior since b → Shows us (b' ∷ h) es enabled prior since b
shows_more us h es enabled prior since b b' s = record {
  now = s.now;
  had = λ u r f. (let x = s.had u r f in (x.0, inr x.1));
  prior_had = λ q u r a e. inr (s.prior_had q u r a e);
  since_had = λ q u r a e. inr (s.since_had q u r a e);
}

-- TICKS

-- an attempt of the own message: it lies now, or what lay there lies on
put_own : (us : List UniqueId) (taken : Bool) (line : Line) (d n : ℕ) (e : Endpoint) (attempt waited : ℕ) → n < 8 →
    ((m : Message) → line.message ≡ some m → OwnOne us (Sending attempt waited) e m) →
    (m : Message) → (cond taken (linked line.link (some (message_to d (message_of us n e)))) line).message ≡ some m → OwnOne us (Sending attempt waited) e m
put_own us true line d n e attempt waited few keeps m is = (n, few, ap (λ (x : Message). x.bytes) (sym (same_Some _ m is)))
put_own us false line d n e attempt waited few keeps m is = keeps m is

next : (g : ℕ) → (g + 1) % 32 < 32
next g = omega arith

module _ (us : List UniqueId) (b : Sources) (c : Line) where
  -- what a turn keeps
  abbrev Keeps : Endpoint → Turn → Type 0
  Keeps e t = Kept us e b c.message t.endpoint b t.line.message

  -- the endpoint and the board stay, and nothing or what lay there lies
  pub stays : (e : Endpoint) (l l' : Option Message) → Sound us e b → (Own us e l → Own us e l') → Kept us e b l e b l'
  stays e l l' ok own = record { sound = ok; shows = λ h es x. shows_more us h es _ _ _ b b x; own = own; held = λ es x. x }

  timed_keeps : (s : State) (e : Endpoint) → let i = in_state s e in Sound us i b → Keeps i (timed us s c i)
  timed_keeps Off e ok = stays (in_state Off e) c.message c.message ok (λ o. o)
  timed_keeps (Armed age) e ok = either (Keeps i) (eqb (min (age + 1) (10 * e.delay)) (10 * e.delay) && any_listed (occurrences us e.prior))
      (start us c i) (stay c (in_state (Armed (min (age + 1) (10 * e.delay))) i)) first older
    where
      i : Endpoint
      i = in_state (Armed age) e

      failed : Keeps i (fail (message_of us 0 (begun i)) c (begun i))
      failed = record { sound = (ok.0, tt, next e.generation); shows = λ h es x. shows_more us h es _ _ _ b b x; own = λ o m is. never m is; held = λ es x. (tt, x.1) }

      begins : Keeps i (send us 0 c (begun i))
      begins = record {
        sound = (ok.0, tt, next e.generation);
        shows = λ h es x. shows_more us h es _ _ _ b b x;
        own = λ o. put_own us (takes c (message_of us 0 (begun i))) c e.destination 0 (begun (in_state (Armed age) e)) 1 0 (omega arith) (λ m is. absurd (o m is));
        held = λ es x. (tt, x.1);
      }

      first : Keeps i (start us c i)
      first = either (Keeps i) (not (takes c (message_of us 0 (begun i))) && eqb e.retry 0) (fail (message_of us 0 (begun i)) c (begun i)) (send us 0 c (begun i)) failed begins

      older : Keeps i (stay c (in_state (Armed (min (age + 1) (10 * e.delay))) i))
      older = record { sound = ok; shows = λ h es x. shows_more us h es _ _ _ b b x; own = λ o. o; held = λ es x. x }
  timed_keeps (Sending attempt waited) e ok =
      either (Keeps i) (eqb e.retry 0) (stay c i) rest (stays i c.message c.message ok (λ o. o))
      (either (Keeps i) (ltb (waited + 1) e.retry) (stay c (in_state (Sending attempt (waited + 1)) i)) (again us attempt c i)
      waits (under_eight (ltb attempt 8) refl))
    where
      i : Endpoint
      i = in_state (Sending attempt waited) e

      rest : Turn
      rest = cond (ltb (waited + 1) e.retry) (stay c (in_state (Sending attempt (waited + 1)) i)) (again us attempt c i)

      waits : Keeps i (stay c (in_state (Sending attempt (waited + 1)) i))
      waits = record { sound = ok; shows = λ h es x. shows_more us h es _ _ _ b b x; own = λ o. o; held = λ es x. x }

      failed : Keeps i (fail [] c i)
      failed = record { sound = ok; shows = λ h es x. shows_more us h es _ _ _ b b x; own = λ o m is. never m is; held = λ es x. x }

      resent : attempt < 8 → Keeps i (send us attempt c (in_state (Sending (attempt + 1) 0) i))
      resent few = record {
        sound = ok;
        shows = λ h es x. shows_more us h es _ _ _ b b x;
        own = λ o. put_own us (takes c (message_of us attempt i)) c e.destination attempt (in_state (Sending (attempt + 1) 0) (in_state (Sending attempt waited) e)) (attempt + 1) 0 few o;
        held = λ es x. x;
      }

      under_eight : (test : Bool) → ltb attempt 8 ≡ test → let t = cond test (send us attempt c (in_state (Sending (attempt + 1) 0) i)) (fail [] c i) in
          Kept us i b c.message t.endpoint b t.line.message
      under_eight true is = resent ((Decides-ltb attempt 8).0 is)
      under_eight false is = failed
  timed_keeps Failed e ok = stays (in_state Failed e) c.message c.message ok (λ o. o)

  pub tick_keeps : (room : ℕ) (e : Endpoint) → Sound us e b → Keeps e (tick us room c e)
  tick_keeps room e ok =
      either (Keeps e) (leb 4111 room) (timed us e.state c e) (turn e c (refusal TickBufferShort)) (timed_keeps e.state e ok) (stays e c.message c.message ok (λ o. o))

  pub reset_keeps : (e : Endpoint) → Sound us e b → Keeps e (reset c e)
  unfolding unmarked
  reset_keeps e ok = record {
    sound = (
      nothing-marked us nothing b ok.0.same ok.0.board,
      (none_in nothing refl, λ q. refl, λ q. refl),
      ok.2,
    );
    shows = λ h es x. record {
      now = λ q u r a on. absurd (false≢true (sym (none_in nothing refl u.identifier) ∙ on));
      had = (shows_more us h es _ _ _ b b x).had;
      prior_had = λ q u r a y. never r y;
      since_had = λ q u r a y. never r y;
    };
    own = λ o m is. never m is;
    held = λ es x. (tt, λ q u r a y. never r y);
  }
