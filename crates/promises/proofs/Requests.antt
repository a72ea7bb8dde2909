-- An accepted request: what its answer will teach the book. Assumes nothing.
use Rattle.std.proofs.Common.{◌≡◌, ℕ, Bool, true, false, cond, ◌⊎◌, List, [], ◌∷◌, Some as some, None as none, Option, sym, refl, ap, ◌∙◌, subst, inl, inr, true≢false}
use Rattle.std.proofs.lemmas.Option.{same_Some}
use mathlib.Core.Bool.{false≢true}
use Rattle.event.specs.declared.id.UniqueId.{UniqueId}
use Rattle.event.specs.Bytes.{Bytes, byte}
use Rattle.event.specs.Identifiers.{Words, has, any}
use Rattle.event.specs.Outcomes.{Outcome}
use Rattle.event.specs.Sources.{Occurrence, occurrence, ids}
use Rattle.board.specs.Boards.{Sources, at}
use Rattle.list.specs.Lists.{Told, these, overflow, told, over}
use Rattle.marks.specs.Lawful.{LawfulMarks}
use Rattle.marks.specs.Marking.{Marking, unmarked, occurrences}
use Rattle.wire.specs.declared.types.Kind.{Kind}
use Rattle.wire.specs.declared.types.Kind.TheVariants.{Sync as sync, Ack as ack}
use Rattle.wire.specs.Messages.{answer_message, Answer, slot_of}
use Rattle.wire.specs.Requests.{request_as, items_in, item_count, items_part}
use Rattle.carrier.specs.Carriers.{Line}
use Rattle.protocol.specs.declared.types.State.{State}
use Rattle.protocol.specs.declared.types.State.TheVariants.{Off, Armed, Sending, Failed}
use Rattle.protocol.specs.declared.types.Phase.TheVariants.{Waiting}
use Rattle.protocol.specs.Book.{find, merge}
use Rattle.protocol.specs.Endpoint.{Endpoint, in_state, turn, present_of, present, reportable, enabling, reported, reply, synced, acknowledge, accept}
use Rattle.protocol.specs.History.{begins}
use Rattle.protocol.specs.Promise.{Marked, Had}
use Rattle.board.proofs.Rereads.{at-ids}
use Rattle.promises.proofs.Lists.{never, At, find_source, merge_source, merge-at}
use Rattle.promises.proofs.Words.{none_in}
use Rattle.promises.proofs.EndpointKeeps.{nothing-marked}
use Rattle.promises.proofs.Invariant.{LawfulReadings, Laws, Now, Right, Quiet, Shows, Held, Knows, Sound, Says, Learned}

-- THE PRESENT READINGS

-- an enabled source is listed with the reading that the board has
present-is : (us : List UniqueId) (b : Sources) → ids b ≡ us → (enabled : Words) (q : ℕ) (u : UniqueId) (r : Bytes) → at us q ≡ some u → present enabled b q ≡ some r → Now b q u r
unfolding present
present-is us b same enabled q u r a e = go (at b q) refl e
  where
    here : (s : Occurrence) → at b q ≡ some s → s.id ≡ u
    here s is = same_Some s.id u (sym (at-ids b q s is) ∙ ap (λ vs. at vs q) same ∙ a)

    go : (o : Option Occurrence) → at b q ≡ o → present_of enabled o ≡ some r → Now b q u r
    go none is e = never r e
    go (some s) is e = on (has enabled s.id.identifier) e
      where
        on : (v : Bool) → cond v (some s.reading) none ≡ some r → Now b q u r
        on true x =
            let i = here s is in
            let j = same_Some s.reading r x in
            is ∙ (λ t. some (occurrence (i t) (j t)))
        on false x = never r x

is_overflow : Told → Bool
is_overflow (these os) = false
is_overflow overflow = true

these_of : Told → List Occurrence
these_of (these os) = os
these_of overflow = []

pub reportable-lawful : (us : List UniqueId) (s : State) (m : Marking) → LawfulMarks us m → LawfulMarks us (reportable s m)
unfolding unmarked
reportable-lawful us Off m ok q u r a x = never r x
reportable-lawful us (Armed age) m ok q u r a x = never r x
reportable-lawful us (Sending attempt waited) m ok q u r a x = ok q u r a x
reportable-lawful us Failed m ok q u r a x = ok q u r a x

pub present-lawful : (us : List UniqueId) (b : Sources) → ids b ≡ us → (enabled : Words) → LawfulReadings b → LawfulMarks us (present enabled b)
present-lawful us b same enabled ok q u r a x = ok q (occurrence u r) (present-is us b same enabled q u r a x)

module _ (us : List UniqueId) (laws : Laws us) where
  -- an answer that is read without overflow is the list that was written
  read_back : (slot : Bool) (m : Marking) → LawfulMarks us m → (os : List Occurrence) → Says (answer_message slot (told (occurrences us m))) os →
      (over (occurrences us m) ≡ false) × (occurrences us m ≡ os)
  unfolding is_overflow these_of
  read_back slot m ok os e = go (over (occurrences us m)) refl (ap (λ (a : Answer). a.told) (same_Some _ _ (sym (laws.answers slot m ok) ∙ e.1)))
    where
      go : (test : Bool) → over (occurrences us m) ≡ test → told (occurrences us m) ≡ these os → (over (occurrences us m) ≡ false) × (occurrences us m ≡ os)
      go true is x = absurd (true≢false (ap is_overflow (sym (ap {B = Told} (λ v. cond v overflow (these (occurrences us m))) is) ∙ x)))
      go false is x = (is, ap these_of (sym (ap {B = Told} (λ v. cond v overflow (these (occurrences us m))) is) ∙ x))

  -- A SYNC

  sync-shows : (enabled : Words) (b : Sources) → ids b ≡ us → Shows us (b ∷ []) (occurrences us (present enabled b)) enabled unmarked unmarked b
  unfolding unmarked
  sync-shows enabled b same = record {
    now = λ q u r a on f. inl (let x = find_source us (present enabled b) u r f in
        present-is us b same enabled q u r a (ap (present enabled b) (laws.distinct q x.0 u a x.1) ∙ x.2));
    had = λ u r f. (let x = find_source us (present enabled b) u r f in (x.0, inl (present-is us b same enabled x.0 u r x.1 x.2)));
    prior_had = λ q u r a x. never r x;
    since_had = λ q u r a x. never r x;
  }

  sync_quiet : (enabled : Words) (on : Bool) → any enabled ≡ on → Quiet (cond on (Armed 0) Off) enabled unmarked unmarked
  unfolding unmarked
  sync_quiet enabled true e = λ q. refl
  sync_quiet enabled false e = (none_in enabled e, λ q. refl, λ q. refl)

  -- AN ACKNOWLEDGEMENT

  module _ (d : List Sources) (es : List Occurrence) (enabled : Words) (prior since : Marking) (b : Sources) where
    ack-shows : Right us enabled prior since b → Shows us d es enabled prior since b →
        ((q : ℕ) (u : UniqueId) (r : Bytes) → at us q ≡ some u → prior q ≡ some r → find u es ≡ some r) →
        Shows us (b ∷ d) (merge es (occurrences us since)) enabled unmarked unmarked b
    unfolding unmarked
    ack-shows ok x held = record {
      now = λ q u r a on f. inl (now q u r a on (merge-at us laws.distinct since es u q a r f));
      had = λ u r f. had u r (merge_source us since es u r f);
      prior_had = λ q u r a x. never r x;
      since_had = λ q u r a x. never r x;
    }
      where
        old : (q : ℕ) (u : UniqueId) (r : Bytes) → at us q ≡ some u → has enabled u.identifier ≡ true → since q ≡ none → find u es ≡ some r →
            Now b q u r ⊎ (Marked prior q ⊎ Marked since q) → Now b q u r
        old q u r a on clear f (inl y) = y
        old q u r a on clear f (inr (inl y)) =
            ok.prior_now q u y.0 a on y.1 clear ∙ ap {B = Option Occurrence} (λ s. some (occurrence u s)) (same_Some y.0 r (sym (held q u y.0 a y.1) ∙ f))
        old q u r a on clear f (inr (inr y)) = never y.0 (sym clear ∙ y.1)

        now : (q : ℕ) (u : UniqueId) (r : Bytes) → at us q ≡ some u → has enabled u.identifier ≡ true →
            (since q ≡ some r) ⊎ ((since q ≡ none) × (find u es ≡ some r)) → Now b q u r
        now q u r a on (inl y) = ok.since_now q u r a on y
        now q u r a on (inr y) = old q u r a on y.0 y.1 (x.now q u r a on y.1)

        had : (u : UniqueId) (r : Bytes) → At us since u r ⊎ (find u es ≡ some r) → (q : ℕ) × Had (b ∷ d) q (occurrence u r)
        had u r (inl y) = (y.0, inr (x.since_had y.0 u r y.1 y.2))
        had u r (inr y) = let z = x.had u r y in (z.0, inr z.1)

    -- in Off: nothing is enabled
    off_shows : Quiet Off enabled prior since → Shows us d es enabled prior since b → Shows us (b ∷ d) (merge es (occurrences us unmarked)) enabled prior since b
    unfolding unmarked
    off_shows quiet x = record {
      now = λ q u r a on f. absurd (false≢true (sym (quiet.0 u.identifier) ∙ on));
      had = λ u r f. had u r (merge_source us unmarked es u r f);
      prior_had = λ q u r a y. inr (x.prior_had q u r a y);
      since_had = λ q u r a y. inr (x.since_had q u r a y);
    }
      where
        had : (u : UniqueId) (r : Bytes) → At us unmarked u r ⊎ (find u es ≡ some r) → (q : ℕ) × Had (b ∷ d) q (occurrence u r)
        had u r (inl y) = never r y.2
        had u r (inr y) = let z = x.had u r y in (z.0, inr z.1)

  acks : (sender : ℕ) (s : State) (c : Line) (e : Endpoint) (b : Sources) (d : List Sources) (es : List Occurrence) (said : Outcome) →
      let i = in_state s e in
      let t = acknowledge sender s c i said in
      Sound us i b → Knows us d es i b c.message × Held us es i →
      Sound us t.endpoint b × Knows us (b ∷ d) (merge es (occurrences us (reportable s e.since))) t.endpoint b t.line.message
  unfolding unmarked
  acks sender Off c e b d es said ok x = (ok, (off_shows d es e.enabled e.prior e.since b ok.1 x.0.0, x.0.1))
  acks sender (Armed age) c e b d es said ok x = absurd x.1.0
  acks sender (Sending attempt waited) c e b d es said ok x =
      ((nothing-marked us e.enabled b ok.0.same ok.0.board, λ q. refl, ok.2), (ack-shows d es e.enabled e.prior e.since b ok.0 x.0.0 x.1.1, λ m is. never m is))
  acks sender Failed c e b d es said ok x =
      ((nothing-marked us e.enabled b ok.0.same ok.0.board, λ q. refl, ok.2), (ack-shows d es e.enabled e.prior e.since b ok.0 x.0.0 x.1.1, λ m is. never m is))

-- a request is accepted by an endpoint of this board; `test` says whether its answer overflows
pub accepts : (b : Sources) → let us = ids b in Laws us → (sender : ℕ) (kind : Kind) (bytes : Bytes) (c : Line) (e : Endpoint) (h d : List Sources) (es : List Occurrence) (said : Outcome)
    (test : Bool) → let q = request_as kind bytes in over (reported q b e) ≡ test →
    let t = cond test (turn e c said) (accept sender q b c e said) in
    Sound us e b → Learned us (Waiting kind) none h d es e b c.message →
    Sound us t.endpoint b × Learned us (Waiting kind) (some (reply q b e)) (b ∷ begins kind h) (b ∷ d) es t.endpoint b t.line.message
accepts b laws sender sync bytes c e h d es said true is ok x =
    let enabled = enabling (ids b) (items_in (item_count bytes) (items_part bytes)) e.enabled in
    (ok, λ os f. absurd (true≢false (sym is ∙ (read_back (ids b) laws (slot_of bytes) (present enabled b) (present-lawful (ids b) b refl enabled ok.0.board) os f).0)))
accepts b laws sender sync bytes c e h d es said false is ok x =
    let enabled = enabling (ids b) (items_in (item_count bytes) (items_part bytes)) e.enabled in (
      (nothing-marked (ids b) enabled b refl ok.0.board, sync_quiet (ids b) laws enabled (any enabled) refl, ok.2),
      λ os f. subst (λ ws. Knows (ids b) (b ∷ []) ws (synced sender enabled (byte bytes 10) (byte bytes 9) e) b none)
          (read_back (ids b) laws (slot_of bytes) (present enabled b) (present-lawful (ids b) b refl enabled ok.0.board) os f).1
          (sync-shows (ids b) laws enabled b refl, λ m is. never m is),
    )
accepts b laws sender ack bytes c e h d es said true is ok x =
    (ok, λ os f. absurd (true≢false (sym is ∙ (read_back (ids b) laws (slot_of bytes) (reportable e.state e.since) (reportable-lawful (ids b) e.state e.since ok.0.since-lawful) os f).0)))
accepts b laws sender ack bytes c e h d es said false is ok x =
    let t = acknowledge sender e.state c e said in
    let y = acks (ids b) laws sender e.state c e b d es said ok x in (
      y.0,
      λ os f. subst (λ ws. Knows (ids b) (b ∷ d) (merge es ws) t.endpoint b t.line.message)
          (read_back (ids b) laws (slot_of bytes) (reportable e.state e.since) (reportable-lawful (ids b) e.state e.since ok.0.since-lawful) os f).1 y.1,
    )
