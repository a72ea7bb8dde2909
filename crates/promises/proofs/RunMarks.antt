-- The marks after every run are those of the latest changes. Assumes nothing.
use Rattle.std.proofs.Common.{◌≡◌, ℕ, Bool, true, false, cond, not, ◌&&◌, eqb, ◌⊎◌, List, [], ◌∷◌, ◌++◌, Some as some, None as none, Option, sym, refl, ap, ◌∙◌, subst, inl, inr}
use Rattle.std.proofs.lemmas.Option.{same_Some}
use mathlib.Core.Bool.{false≢true}
use Rattle.std.proofs.lemmas.Bool.{eqb-true, and_parts}
use Rattle.event.specs.declared.id.UniqueId.{UniqueId}
use Rattle.event.specs.declared.refusal.Refusal.{Refusal}
use Rattle.event.specs.Bytes.{Bytes}
use Rattle.event.specs.Identifiers.{has}
use Rattle.event.specs.Outcomes.{Outcome, done}
use Rattle.event.specs.Sources.{lawful_reading, ids}
use Rattle.board.specs.Boards.{Sources, at}
use Rattle.list.specs.Lists.{over}
use Rattle.marks.specs.Marking.{Marking, unmarked, update}
use Rattle.wire.specs.Requests.{Request, Sync, Ack, request_of}
use Rattle.carrier.specs.Carriers.{Line}
use Rattle.protocol.specs.declared.types.State.{State}
use Rattle.protocol.specs.declared.types.State.TheVariants.{Off, Armed, Sending, Failed}
use Rattle.protocol.specs.Endpoint.{Endpoint, in_state, flagged, begun, mark, change, tick, turn, reported, reply, acknowledge, accept, refusal_of, requested}
use Rattle.protocol.specs.Pair.{
  Pair,
  new_pair,
  Call,
  changes,
  ticks,
  link_goes_up,
  link_goes_down,
  loses,
  writes_sync,
  writes_ack,
  requests,
  answers,
  gives_up,
  picks_up,
  fetches,
  shows,
  resets,
  step,
  run,
}
use Rattle.protocol.specs.Runs.{is_armed, has_sent, starts_over_by, starts_over_if, starts_over, counts, changes_at, Unchanged, Latest, MarksLatest}
use Rattle.promises.proofs.Lists.{never}
use Rattle.promises.proofs.Ticks.{tick_way}

-- ONE OF THE TWO LISTS OF MARKS

-- prior or since
abbrev part : Bool → Endpoint → Marking
part true e = e.prior
part false e = e.since

-- the states in which changes are marked there
abbrev during : Bool → State → Bool
during true s = is_armed s
during false s = has_sent s

-- the reading that a change gives
abbrev given_by : Call → Option Bytes
given_by (changes q r) = some r
given_by (ticks room) = none
given_by link_goes_up = none
given_by link_goes_down = none
given_by loses = none
given_by (writes_sync items delay retry room) = none
given_by (writes_ack room) = none
given_by (requests sender bytes room) = none
given_by (answers kind bytes) = none
given_by (gives_up kind) = none
given_by (picks_up room) = none
given_by (fetches room) = none
given_by (shows id room) = none
given_by resets = none

-- TICKS LEAVE THE MARKS

same_part : (which : Bool) (e e' : Endpoint) → e'.prior ≡ e.prior → e'.since ≡ e.since → part which e' ≡ part which e
same_part true e e' x y = x
same_part false e e' x y = y

tick_part : (which : Bool) (us : List UniqueId) (room : ℕ) (c : Line) (e : Endpoint) → part which (tick us room c e).endpoint ≡ part which e
tick_part which us room c e = tick_way (λ t. part which t.endpoint ≡ part which e) us room c e refl refl (record {
  stays = λ s. same_part which e (in_state s e) refl refl;
  begins = same_part which e (begun e) refl refl;
  unbegun = same_part which e (flagged true (in_state Failed (begun e))) refl refl;
  sends = λ retries s. same_part which e (in_state s e) refl refl;
  fails = same_part which e (flagged true (in_state Failed e)) refl refl;
})

-- CHANGES

-- what a change makes of the mark at a place
abbrev marks_to : Bool → Option Bytes → Option Bytes → Option Bytes
marks_to test new old = cond test new old

marked_there : (v : Bool) (x y : Option Bytes) → cond v x y ≡ marks_to (v && true) x y
marked_there true x y = refl
marked_there false x y = refl

not_there : (v : Bool) (x y : Option Bytes) → y ≡ marks_to (v && false) x y
not_there true x y = refl
not_there false x y = refl

mark_part : (which : Bool) (place q : ℕ) (r : Bytes) (s : State) (e : Endpoint) → part which (mark s q r e) place ≡ marks_to (eqb place q && during which s) (some r) (part which e place)
unfolding update
mark_part true place q r Off e = not_there (eqb place q) (some r) (e.prior place)
mark_part false place q r Off e = not_there (eqb place q) (some r) (e.since place)
mark_part true place q r (Armed age) e = marked_there (eqb place q) (some r) (e.prior place)
mark_part false place q r (Armed age) e = not_there (eqb place q) (some r) (e.since place)
mark_part true place q r (Sending attempt waited) e = not_there (eqb place q) (some r) (e.prior place)
mark_part false place q r (Sending attempt waited) e = marked_there (eqb place q) (some r) (e.since place)
mark_part true place q r Failed e = not_there (eqb place q) (some r) (e.prior place)
mark_part false place q r Failed e = marked_there (eqb place q) (some r) (e.since place)

change_part : (which : Bool) (place q : ℕ) (r : Bytes) (o : Option UniqueId) (e : Endpoint) →
    part which (change o q r e) place ≡ marks_to ((counts o r e && eqb place q) && during which e.state) (some r) (part which e place)
change_part which place q r none e = refl
change_part which place q r (some u) e = go (lawful_reading u.identifier r) (has e.enabled u.identifier)
  where
    go : (lawful on : Bool) → part which (cond lawful (cond on (mark e.state q r e) e) e) place ≡ marks_to (((lawful && on) && eqb place q) && during which e.state) (some r) (part which e place)
    go true true = mark_part which place q r e.state e
    go true false = refl
    go false on = refl

-- REQUESTS

accept_part : (which : Bool) (sender : ℕ) (q : Request) (b : Sources) (c : Line) (e : Endpoint) (o : Outcome) (place : ℕ) →
    part which (accept sender q b c e o).endpoint place ≡ cond (starts_over_by q e.state) none (part which e place)
unfolding unmarked
accept_part true sender (Sync slot items delay retry) b c e o place = refl
accept_part false sender (Sync slot items delay retry) b c e o place = refl
accept_part which sender (Ack slot) b c e o place = go which e.state
  where
    go : (which : Bool) (s : State) → part which (acknowledge sender s c e o).endpoint place ≡ cond (has_sent s) none (part which e place)
    go true Off = refl
    go false Off = refl
    go true (Armed age) = refl
    go false (Armed age) = refl
    go true (Sending attempt waited) = refl
    go false (Sending attempt waited) = refl
    go true Failed = refl
    go false Failed = refl

request_part : (which : Bool) (o : Option Refusal) (sender : ℕ) (bytes : Bytes) (p : Pair) (place : ℕ) →
    part which (requested o sender bytes p.board p.line p.endpoint).endpoint place ≡ cond (starts_over_if o (request_of bytes) p) none (part which p.endpoint place)
request_part which (some r) sender bytes p place = refl
request_part which none sender bytes p place = go (over (reported (request_of bytes) p.board p.endpoint)) (done (reply (request_of bytes) p.board p.endpoint))
  where
    go : (test : Bool) (o : Outcome) → part which (cond test (turn p.endpoint p.line o) (accept sender (request_of bytes) p.board p.line p.endpoint o)).endpoint place
        ≡ cond (not test && starts_over_by (request_of bytes) p.endpoint.state) none (part which p.endpoint place)
    go true o = refl
    go false o = accept_part which sender (request_of bytes) p.board p.line p.endpoint o place

-- EVERY CALL

-- the mark at a place after a call
abbrev after : Bool → ℕ → Call → Pair → Option Bytes
after which place c p = cond (starts_over c p) none (marks_to (changes_at place c p && during which p.endpoint.state) (given_by c) (part which p.endpoint place))

step_part : (which : Bool) (place : ℕ) (p : Pair) (c : Call) → part which (step p c).pair.endpoint place ≡ after which place c p
unfolding unmarked
step_part which place p (changes q r) = change_part which place q r (at (ids p.board) q) p.endpoint
step_part which place p (ticks room) = ap (λ (m : Marking). m place) (tick_part which (ids p.board) room p.line p.endpoint)
step_part which place p link_goes_up = refl
step_part which place p link_goes_down = refl
step_part which place p loses = refl
step_part which place p (writes_sync items delay retry room) = refl
step_part which place p (writes_ack room) = refl
step_part which place p (requests sender bytes room) = request_part which (refusal_of room bytes) sender bytes p place
step_part which place p (answers kind bytes) = refl
step_part which place p (gives_up kind) = refl
step_part which place p (picks_up room) = refl
step_part which place p (fetches room) = refl
step_part which place p (shows id room) = refl
step_part true place p resets = refl
step_part false place p resets = refl

-- a call that changes the source at the place is a change there
is-change : (place : ℕ) (p : Pair) (c : Call) (r : Bytes) → changes_at place c p ≡ true → given_by c ≡ some r → c ≡ changes place r
is-change place p (changes q s) r x e =
    let same : place ≡ q = eqb-true place q (and_parts (counts (at (ids p.board) q) s p.endpoint) (eqb place q) x).1 in
    let is : s ≡ r = same_Some s r e in
    λ i. changes (sym same i) (is i)
is-change place p (ticks room) r x e = absurd (false≢true x)
is-change place p link_goes_up r x e = absurd (false≢true x)
is-change place p link_goes_down r x e = absurd (false≢true x)
is-change place p loses r x e = absurd (false≢true x)
is-change place p (writes_sync items delay retry room) r x e = absurd (false≢true x)
is-change place p (writes_ack room) r x e = absurd (false≢true x)
is-change place p (requests sender bytes room) r x e = absurd (false≢true x)
is-change place p (answers kind bytes) r x e = absurd (false≢true x)
is-change place p (gives_up kind) r x e = absurd (false≢true x)
is-change place p (picks_up room) r x e = absurd (false≢true x)
is-change place p (fetches room) r x e = absurd (false≢true x)
is-change place p (shows id room) r x e = absurd (false≢true x)
is-change place p resets r x e = absurd (false≢true x)

-- WHOLE RUNS

pub run-append : (p : Pair) (xs ys : List Call) → run p (xs ++ ys) ≡ run (run p xs) ys
run-append p [] ys = refl
run-append p (x ∷ xs) ys = run-append (step p x).pair xs ys

module _ (which : Bool) (place : ℕ) (r : Bytes) where
  -- a mark was made in these calls, or stood there before them and stands still
  Made : Pair → List Call → Type 0
  Made p calls = Latest (during which) place r p calls ⊎ ((part which p.endpoint place ≡ some r) × Unchanged (during which) place p calls)

  made : (p : Pair) (calls : List Call) → part which (run p calls).endpoint place ≡ some r → Made p calls
  unfolding Made
  made p [] e = inr (e, tt)
  made p (c ∷ cs) e = go (made (step p c).pair cs e)
    where
      here : (over test : Bool) → starts_over c p ≡ over → (changes_at place c p && during which p.endpoint.state) ≡ test →
          cond over none (marks_to test (given_by c) (part which p.endpoint place)) ≡ some r → Unchanged (during which) place (step p c).pair cs →
          Latest (during which) place r p (c ∷ cs) ⊎ ((part which p.endpoint place ≡ some r) × Unchanged (during which) place p (c ∷ cs))
      here true test so is e u = never r e
      here false false so is e u = inr (e, (so, is, u))
      here false true so is e u =
          let both = and_parts (changes_at place c p) (during which p.endpoint.state) is in
          let same : c ≡ changes place r = is-change place p c r both.0 e in
          inl (record {
            before = [];
            after = cs;
            split = λ i. same i ∷ cs;
            changed = subst (λ d. changes_at place d p ≡ true) same both.0;
            state = both.1;
            last = subst (λ d. Unchanged (during which) place (step p d).pair cs) same u;
          })

      go : Latest (during which) place r (step p c).pair cs ⊎ ((part which (step p c).pair.endpoint place ≡ some r) × Unchanged (during which) place (step p c).pair cs) →
          Latest (during which) place r p (c ∷ cs) ⊎ ((part which p.endpoint place ≡ some r) × Unchanged (during which) place p (c ∷ cs))
      go (inl x) = inl (record {
        before = c ∷ x.before;
        after = x.after;
        split = ap (λ ds. c ∷ ds) x.split;
        changed = x.changed;
        state = x.state;
        last = x.last;
      })
      go (inr x) = here (starts_over c p) (changes_at place c p && during which p.endpoint.state) refl refl (sym (step_part which place p c) ∙ x.0) x.1

  -- a mark stands as long as nothing changes it
  stands : (p : Pair) (calls : List Call) → part which p.endpoint place ≡ some r → Unchanged (during which) place p calls → part which (run p calls).endpoint place ≡ some r
  stands p [] e u = e
  stands p (c ∷ cs) e u =
      let kept : after which place c p ≡ part which p.endpoint place =
      ap (λ v. cond v none (marks_to (changes_at place c p && during which p.endpoint.state) (given_by c) (part which p.endpoint place))) u.0
      ∙ ap (λ v. marks_to v (given_by c) (part which p.endpoint place)) u.1 in
      stands (step p c).pair cs (step_part which place p c ∙ kept ∙ e) u.2

  latest_stands : (p : Pair) (calls : List Call) → Latest (during which) place r p calls → part which (run p calls).endpoint place ≡ some r
  latest_stands p calls x =
      let q = run p x.before in
      let q' = (step q (changes place r)).pair in
      let made-here : after which place (changes place r) q ≡ some r =
      ap (λ v. marks_to v (some r) (part which q.endpoint place))
      (ap (λ v. v && during which q.endpoint.state) x.changed ∙ x.state) in
      ap (λ cs. part which (run p cs).endpoint place) x.split
      ∙ ap (λ (z : Pair). part which z.endpoint place) (run-append p x.before (changes place r ∷ x.after))
      ∙ stands q' x.after (step_part which place q (changes place r) ∙ made-here) x.last

unmarked-at-first : (which : Bool) (board : Sources) (line : Line) (place : ℕ) → part which (new_pair board line).endpoint place ≡ none
unfolding unmarked
unmarked-at-first true board line place = refl
unmarked-at-first false board line place = refl

only_latest : (which : Bool) (board : Sources) (line : Line) (calls : List Call) (place : ℕ) (r : Bytes) → part which (run (new_pair board line) calls).endpoint place ≡ some r →
    Latest (during which) place r (new_pair board line) calls
unfolding Made
only_latest which board line calls place r e = go (made which place r (new_pair board line) calls e)
  where
    go : Latest (during which) place r (new_pair board line) calls ⊎ ((part which (new_pair board line).endpoint place ≡ some r) × Unchanged (during which) place (new_pair board line) calls) →
        Latest (during which) place r (new_pair board line) calls
    go (inl x) = x
    go (inr x) = never r (sym (unmarked-at-first which board line place) ∙ x.0)

pub prior_latest : MarksLatest is_armed (λ e. e.prior)
prior_latest = record {
  only = λ board line calls place r e. only_latest true board line calls place r e;
  each = λ board line calls place r x. latest_stands true place r (new_pair board line) calls x;
}

pub since_latest : MarksLatest has_sent (λ e. e.since)
since_latest = record {
  only = λ board line calls place r e. only_latest false board line calls place r e;
  each = λ board line calls place r x. latest_stands false place r (new_pair board line) calls x;
}
