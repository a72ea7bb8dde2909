-- A change of a source keeps what the book has learned. Assumes nothing.
use Rattle.std.proofs.Common.{◌≡◌, ℕ, Bool, true, false, cond, eqb, ◌⊎◌, List, ◌∷◌, Some as some, None as none, Option, sym, refl, ap, ◌∙◌, subst, inl, inr, true≢false}
use Rattle.std.proofs.lemmas.Option.{same_Some}
use Rattle.std.proofs.lemmas.Bool.Decides.{eqb_tells}
use Rattle.event.specs.declared.id.UniqueId.{UniqueId}
use Rattle.event.specs.Bytes.{Bytes}
use Rattle.event.specs.Identifiers.{Words, has}
use Rattle.event.specs.Sources.{Occurrence, occurrence, lawful_reading, ids}
use Rattle.board.specs.Boards.{Sources, at, reread}
use Rattle.marks.specs.Lawful.{LawfulMarks}
use Rattle.marks.specs.Marking.{Marking, update}
use Rattle.carrier.specs.Carriers.{Message}
use Rattle.protocol.specs.declared.types.State.{State}
use Rattle.protocol.specs.declared.types.State.TheVariants.{Off, Armed, Sending, Failed}
use Rattle.protocol.specs.Endpoint.{Endpoint, in_state, mark, changed}
use Rattle.protocol.specs.Promise.{Marked, Had}
use Rattle.board.proofs.Rereads.{ids-reread, at_reread_other}
use Rattle.promises.proofs.Boards.{reread_hit}
use Rattle.promises.proofs.Lists.{never}
use Rattle.promises.proofs.Invariant.{LawfulReadings, Now, Right, Unmarked, Shows, Sound}
use Rattle.promises.proofs.EndpointKeeps.{Kept, shows_more}

pub hit : {A : Type 0} (f : ℕ → A) (p : ℕ) (v : A) (q : ℕ) → eqb q p ≡ true → update f p v q ≡ v
unfolding update
hit f p v q h = rw h refl

pub miss : {A : Type 0} (f : ℕ → A) (p : ℕ) (v : A) (q : ℕ) → eqb q p ≡ false → update f p v q ≡ f q
unfolding update
miss f p v q h = rw h refl

abbrev Tells : ℕ → ℕ → Type 0
Tells q p = ((eqb q p ≡ true) × (q ≡ p)) ⊎ ((eqb q p ≡ false) × (q ≡ p → ⊥))

module _ (us : List UniqueId) (b : Sources) (same : ids b ≡ us) (u : UniqueId) (p : ℕ) (r : Bytes) (here : at us p ≡ some u) (allowed : lawful_reading u.identifier r ≡ true) where
  -- the board after the change
  abbrev b' : Sources
  b' = reread b p r

  same_source : (q : ℕ) (v : UniqueId) → q ≡ p → at us q ≡ some v → v ≡ u
  same_source q v is a = same_Some v u (sym a ∙ ap (at us) is ∙ here)

  set_here : (q : ℕ) → q ≡ p → Now b' q u r
  set_here q is = ap (at (reread b p r)) is ∙ reread_hit b p u r (ap (λ vs. at vs p) same ∙ here)

  now_hit : (q : ℕ) (v : UniqueId) → q ≡ p → at us q ≡ some v → Now b' q v r
  now_hit q v is a = set_here q is ∙ ap {B = Option Occurrence} (λ x. some (occurrence x r)) (sym (same_source q v is a))

  elsewhere : (q : ℕ) → (q ≡ p → ⊥) → at b q ≡ at b' q
  elsewhere q ne = sym (at_reread_other b p q r ne)

  still : (q : ℕ) (v : UniqueId) (s : Bytes) → (q ≡ p → ⊥) → Now b q v s → Now b' q v s
  still q v s ne x = sym (elsewhere q ne) ∙ x

  same_ids : ids b' ≡ us
  same_ids = ids-reread b p r ∙ same

  pub board-lawful : LawfulReadings b → LawfulReadings b'
  board-lawful ok q s a = go (eqb_tells q p)
    where
      go : Tells q p → lawful_reading s.id.identifier s.reading ≡ true
      go (inl h) = subst (λ (x : Occurrence). lawful_reading x.id.identifier x.reading ≡ true) (same_Some (occurrence u r) s (sym (set_here q h.1) ∙ a)) allowed
      go (inr h) = ok q s (elsewhere q h.1 ∙ a)

  pub marks-lawful : (m : Marking) → LawfulMarks us m → LawfulMarks us (update m p (some r))
  marks-lawful m ok q v s a x = go (eqb_tells q p)
    where
      go : Tells q p → lawful_reading v.identifier s ≡ true
      go (inl h) =
          ap (lawful_reading v.identifier) (same_Some s r (sym x ∙ hit m p (some r) q h.0))
          ∙ ap (λ (x : UniqueId). lawful_reading x.identifier r) (same_source q v h.1 a)
          ∙ allowed
      go (inr h) = ok q v s a (sym (miss m p (some r) q h.0) ∙ x)

  marks_had : (m : Marking) (h : List Sources) → ((q : ℕ) (v : UniqueId) (s : Bytes) → at us q ≡ some v → m q ≡ some s → Had h q (occurrence v s)) →
      (q : ℕ) (v : UniqueId) (s : Bytes) → at us q ≡ some v → update m p (some r) q ≡ some s → Had (b' ∷ h) q (occurrence v s)
  marks_had m h old q v s a x = go (eqb_tells q p)
    where
      go : Tells q p → Had (b' ∷ h) q (occurrence v s)
      go (inl k) =
          inl
          (now_hit q v k.1 a ∙ ap {B = Option Occurrence} (λ y. some (occurrence v y)) (same_Some r s (sym (hit m p (some r) q k.0) ∙ x)))
      go (inr k) = inr (old q v s a (sym (miss m p (some r) q k.0) ∙ x))

  module _ (enabled : Words) (off : has enabled u.identifier ≡ false) where
    -- an enabled source is another one
    another : (q : ℕ) (v : UniqueId) → at us q ≡ some v → has enabled v.identifier ≡ true → q ≡ p → ⊥
    another q v a on is = true≢false (sym on ∙ ap (λ (x : UniqueId). has enabled x.identifier) (same_source q v is a) ∙ off)

  unseen : (l : Option Message) (e : Endpoint) → has e.enabled u.identifier ≡ false → Sound us e b → Kept us e b l e b' l
  unseen l e off ok = record {
    sound = (
      record {
        same = same_ids;
        board = board-lawful ok.0.board;
        prior-lawful = ok.0.prior-lawful;
        since-lawful = ok.0.since-lawful;
        since_now = λ q v s a on x. still q v s (another e.enabled off q v a on) (ok.0.since_now q v s a on x);
        prior_now = λ q v s a on x y. still q v s (another e.enabled off q v a on) (ok.0.prior_now q v s a on x y);
      },
      ok.1,
      ok.2,
    );
    shows = λ h es x. record {
      now = λ q v s a on f. now q v s (another e.enabled off q v a on) (x.now q v s a on f);
      had = (shows_more us h es _ _ _ b b' x).had;
      prior_had = λ q v s a y. inr (x.prior_had q v s a y);
      since_had = λ q v s a y. inr (x.since_had q v s a y);
    };
    own = λ o. o;
    held = λ es x. x;
  }
    where
      now : (q : ℕ) (v : UniqueId) (s : Bytes) → (q ≡ p → ⊥) → Now b q v s ⊎ (Marked e.prior q ⊎ Marked e.since q) →
          Now b' q v s ⊎ (Marked e.prior q ⊎ Marked e.since q)
      now q v s ne (inl x) = inl (still q v s ne x)
      now q v s ne (inr x) = inr x

  module _ (enabled : Words) (prior since : Marking) where
    -- the mark's reading is the board's
    marked_now : (m : Marking) (q : ℕ) (v : UniqueId) (s : Bytes) → at us q ≡ some v → update m p (some r) q ≡ some s → eqb q p ≡ true → q ≡ p → Now b' q v s
    marked_now m q v s a x t is =
        now_hit q v is a ∙ ap {B = Option Occurrence} (λ y. some (occurrence v y)) (same_Some r s (sym (hit m p (some r) q t) ∙ x))

    -- a mark in prior
    right_prior : Right us enabled prior since b → Unmarked since → Right us enabled (update prior p (some r)) since b'
    right_prior ok clear = record {
      same = same_ids;
      board = board-lawful ok.board;
      prior-lawful = marks-lawful prior ok.prior-lawful;
      since-lawful = ok.since-lawful;
      since_now = λ q v s a on x. never s (sym (clear q) ∙ x);
      prior_now = λ q v s a on x y. go q v s a on x y (eqb_tells q p);
    }
      where
        go : (q : ℕ) (v : UniqueId) (s : Bytes) → at us q ≡ some v → has enabled v.identifier ≡ true → update prior p (some r) q ≡ some s → since q ≡ none → Tells q p → Now b' q v s
        go q v s a on x y (inl h) = marked_now prior q v s a x h.0 h.1
        go q v s a on x y (inr h) = still q v s h.1 (ok.prior_now q v s a on (sym (miss prior p (some r) q h.0) ∙ x) y)

    shows-prior : (h : List Sources) (es : List Occurrence) → Shows us h es enabled prior since b → Shows us (b' ∷ h) es enabled (update prior p (some r)) since b'
    shows-prior h es x = record {
      now = λ q v s a on f. go q v s (x.now q v s a on f) (eqb_tells q p);
      had = (shows_more us h es enabled prior since b b' x).had;
      prior_had = marks_had prior h x.prior_had;
      since_had = λ q v s a y. inr (x.since_had q v s a y);
    }
      where
        go : (q : ℕ) (v : UniqueId) (s : Bytes) → Now b q v s ⊎ (Marked prior q ⊎ Marked since q) → Tells q p →
            Now b' q v s ⊎ (Marked (update prior p (some r)) q ⊎ Marked since q)
        go q v s y (inl t) = inr (inl (r, hit prior p (some r) q t.0))
        go q v s (inl y) (inr t) = inl (still q v s t.1 y)
        go q v s (inr (inl y)) (inr t) = inr (inl (y.0, miss prior p (some r) q t.0 ∙ y.1))
        go q v s (inr (inr y)) (inr t) = inr (inr y)

    -- a mark in since
    right_since : Right us enabled prior since b → Right us enabled prior (update since p (some r)) b'
    right_since ok = record {
      same = same_ids;
      board = board-lawful ok.board;
      prior-lawful = ok.prior-lawful;
      since-lawful = marks-lawful since ok.since-lawful;
      since_now = λ q v s a on x. newer q v s a on x (eqb_tells q p);
      prior_now = λ q v s a on x y. older q v s a on x y (eqb_tells q p);
    }
      where
        newer : (q : ℕ) (v : UniqueId) (s : Bytes) → at us q ≡ some v → has enabled v.identifier ≡ true → update since p (some r) q ≡ some s → Tells q p → Now b' q v s
        newer q v s a on x (inl h) = marked_now since q v s a x h.0 h.1
        newer q v s a on x (inr h) = still q v s h.1 (ok.since_now q v s a on (sym (miss since p (some r) q h.0) ∙ x))

        older : (q : ℕ) (v : UniqueId) (s : Bytes) → at us q ≡ some v → has enabled v.identifier ≡ true → prior q ≡ some s → update since p (some r) q ≡ none → Tells q p → Now b' q v s
        older q v s a on x y (inl h) = never r (sym y ∙ hit since p (some r) q h.0)
        older q v s a on x y (inr h) = still q v s h.1 (ok.prior_now q v s a on x (sym (miss since p (some r) q h.0) ∙ y))

    shows-since : (h : List Sources) (es : List Occurrence) → Shows us h es enabled prior since b → Shows us (b' ∷ h) es enabled prior (update since p (some r)) b'
    shows-since h es x = record {
      now = λ q v s a on f. go q v s (x.now q v s a on f) (eqb_tells q p);
      had = (shows_more us h es enabled prior since b b' x).had;
      prior_had = λ q v s a y. inr (x.prior_had q v s a y);
      since_had = marks_had since h x.since_had;
    }
      where
        go : (q : ℕ) (v : UniqueId) (s : Bytes) → Now b q v s ⊎ (Marked prior q ⊎ Marked since q) → Tells q p →
            Now b' q v s ⊎ (Marked prior q ⊎ Marked (update since p (some r)) q)
        go q v s y (inl t) = inr (inr (r, hit since p (some r) q t.0))
        go q v s (inl y) (inr t) = inl (still q v s t.1 y)
        go q v s (inr (inl y)) (inr t) = inr (inl y)
        go q v s (inr (inr y)) (inr t) = inr (inr (y.0, miss since p (some r) q t.0 ∙ y.1))

  mark_keeps : (l : Option Message) (s : State) (e : Endpoint) → let i = in_state s e in Sound us i b → Kept us i b l (mark s p r i) b' l
  mark_keeps l Off e ok = unseen l (in_state Off e) (ok.1.0 u.identifier) ok
  mark_keeps l (Armed age) e ok = record {
    sound = (right_prior e.enabled e.prior e.since ok.0 ok.1, ok.1, ok.2);
    shows = shows-prior e.enabled e.prior e.since;
    own = λ o. o;
    held = λ es x. absurd x.0;
  }
  mark_keeps l (Sending attempt waited) e ok = record {
    sound = (right_since e.enabled e.prior e.since ok.0, tt, ok.2);
    shows = shows-since e.enabled e.prior e.since;
    own = λ o. o;
    held = λ es x. x;
  }
  mark_keeps l Failed e ok = record {
    sound = (right_since e.enabled e.prior e.since ok.0, tt, ok.2);
    shows = shows-since e.enabled e.prior e.since;
    own = λ o. o;
    held = λ es x. x;
  }

  pub change_keeps : (l : Option Message) (e : Endpoint) → Sound us e b → Kept us e b l (changed u p r e) (reread b p r) l
  change_keeps l e ok = go (has e.enabled u.identifier) refl
    where
      go : (on : Bool) → has e.enabled u.identifier ≡ on → Kept us e b l (cond on (mark e.state p r e) e) (reread b p r) l
      go true is = mark_keeps l e.state e ok
      go false is = unseen l e is ok
