-- When attempts come, and their generations, in every run. Assumes nothing.
use Rattle.std.proofs.Common.{◌≡◌, ℕ, ◌+◌, ◌*◌, ◌/◌, ◌%◌, ◌<◌, ◌≤◌, min, Bool, true, false, cond, not, ◌&&◌, eqb, ltb, leb, ◌⊎◌, List, [], ◌∷◌, Some as some, None as none, Option, sym, refl, ap, ◌∙◌, subst, inl, inr, true≢false, add-mul, arith}
use mathlib.Core.Bool.{false≢true}
use native.Mathlib.Nat.{min-eq_left, min-eq_right}
use Rattle.std.proofs.lemmas.Nat.{mul-add-lt, div-mul-add, mod-mul-add}
use Rattle.std.proofs.lemmas.Bool.{lt-ltb, le-ltb, le-leb, lt-leb, eq-eqb, ne_eqb, cases_lt, and_left, and_right, and_from}
use Rattle.event.specs.declared.id.UniqueId.{UniqueId}
use Rattle.event.specs.declared.refusal.Refusal.{Refusal}
use Rattle.event.specs.declared.refusal.Refusal.TheVariants.{TickBufferShort}
use Rattle.event.specs.Bytes.{Bytes}
use Rattle.event.specs.Identifiers.{has, any}
use Rattle.event.specs.Outcomes.{Outcome, done, refusal}
use Rattle.event.specs.Sources.{lawful_reading, ids}
use Rattle.board.specs.Boards.{Sources, at}
use Rattle.list.specs.Lists.{told, over}
use Rattle.marks.specs.Marking.{occurrences}
use Rattle.wire.specs.Messages.{event_message}
use Rattle.wire.specs.Requests.{Request, Sync, Ack, request_of}
use Rattle.carrier.specs.Carriers.{Line}
use Rattle.protocol.specs.declared.types.State.{State}
use Rattle.protocol.specs.declared.types.State.TheVariants.{Off, Armed, Sending, Failed}
use Rattle.protocol.specs.Endpoint.{
  Endpoint,
  in_state,
  mark,
  change,
  fail,
  stay,
  begun,
  transmission,
  message_of,
  send,
  start,
  again,
  any_listed,
  timed,
  tick,
  Turn,
  turn,
  reported,
  reply,
  enabling,
  acknowledge,
  accept,
  refusal_of,
  requested,
}
use Rattle.protocol.specs.Pair.{
  Pair,
  new_pair,
  Call,
  changes,
  ticks,
  link_goes_up,
  link_goes_down,
  loses,
  writes_sync,
  writes_ack,
  requests,
  answers,
  gives_up,
  picks_up,
  fetches,
  shows,
  resets,
  step,
  run,
}
use Rattle.protocol.specs.Runs.{is_armed, has_sent, starts_over_by, starts_over_if, starts_over, GoesOn, is_tick, ticks_in, timeline, FirstAttempt, Retries, messages_in, Generations}
use Rattle.board.proofs.Rereads.{ids-after}
use Rattle.promises.proofs.Ticks.{either, tick-at}

-- STATES

not_both : (s : State) → has_sent s ≡ true → is_armed s ≡ true → ⊥
not_both Off x y = false≢true x
not_both (Armed age) x y = false≢true x
not_both (Sending attempt waited) x y = false≢true y
not_both Failed x y = false≢true y

-- WHAT A CALL LEAVES THAT NEITHER TICKS NOR STARTS OVER

pub record Stills (e e' : Endpoint) : Type 0 where
  pub state : e'.state ≡ e.state
  pub delay : e'.delay ≡ e.delay
  pub retry : e'.retry ≡ e.retry
  pub generation : e'.generation ≡ e.generation
  pub prior : has_sent e.state ≡ true → e'.prior ≡ e.prior

unmoved : (e : Endpoint) → Stills e e
unmoved e = record { state = refl; delay = refl; retry = refl; generation = refl; prior = λ x. refl }

mark_stills : (place : ℕ) (r : Bytes) (s : State) (e : Endpoint) → e.state ≡ s → Stills e (mark s place r e)
mark_stills place r Off e is = unmoved e
mark_stills place r (Armed age) e is =
    record { state = refl; delay = refl; retry = refl; generation = refl; prior = λ x. absurd (false≢true (sym (ap has_sent is) ∙ x)) }
mark_stills place r (Sending attempt waited) e is = record { state = refl; delay = refl; retry = refl; generation = refl; prior = λ x. refl }
mark_stills place r Failed e is = record { state = refl; delay = refl; retry = refl; generation = refl; prior = λ x. refl }

change_stills : (o : Option UniqueId) (place : ℕ) (r : Bytes) (e : Endpoint) → Stills e (change o place r e)
change_stills none place r e = unmoved e
change_stills (some u) place r e = go (lawful_reading u.identifier r) (has e.enabled u.identifier)
  where
    go : (lawful on : Bool) → Stills e (cond lawful (cond on (mark e.state place r e) e) e)
    go true true = mark_stills place r e.state e refl
    go true false = unmoved e
    go false on = unmoved e

ack_stills : (sender : ℕ) (c : Line) (e : Endpoint) (o : Outcome) (s : State) → e.state ≡ s → has_sent s ≡ false → Stills e (acknowledge sender s c e o).endpoint
ack_stills sender c e o Off is x = record { state = sym is; delay = refl; retry = refl; generation = refl; prior = λ x. refl }
ack_stills sender c e o (Armed age) is x = record { state = sym is; delay = refl; retry = refl; generation = refl; prior = λ x. refl }
ack_stills sender c e o (Sending attempt waited) is x = absurd (true≢false x)
ack_stills sender c e o Failed is x = absurd (true≢false x)

accept_stills : (sender : ℕ) (q : Request) (b : Sources) (c : Line) (e : Endpoint) (o : Outcome) → starts_over_by q e.state ≡ false → Stills e (accept sender q b c e o).endpoint
accept_stills sender (Sync slot items delay retry) b c e o x = absurd (true≢false x)
accept_stills sender (Ack slot) b c e o x = ack_stills sender c e o e.state refl x

request_stills : (p : Pair) (o : Option Refusal) (sender : ℕ) (bytes : Bytes) → starts_over_if o (request_of bytes) p ≡ false →
    Stills p.endpoint (requested o sender bytes p.board p.line p.endpoint).endpoint
request_stills p (some r) sender bytes x = unmoved p.endpoint
request_stills p none sender bytes x = go (over (reported (request_of bytes) p.board p.endpoint)) (done (reply (request_of bytes) p.board p.endpoint)) x
  where
    go : (v : Bool) (o : Outcome) → (not v && starts_over_by (request_of bytes) p.endpoint.state) ≡ false →
        Stills p.endpoint (cond v (turn p.endpoint p.line o) (accept sender (request_of bytes) p.board p.line p.endpoint o)).endpoint
    go true o x = unmoved p.endpoint
    go false o x = accept_stills sender (request_of bytes) p.board p.line p.endpoint o x

-- a call that does not start over is a tick, or leaves that
abbrev pub Goes : Pair → Call → Type 0
Goes p c = ((is_tick c ≡ false) × Stills p.endpoint (step p c).pair.endpoint) ⊎ ((room : ℕ) × (c ≡ ticks room) × (leb 4111 room ≡ true))

pub goes : (p : Pair) (c : Call) → starts_over c p ≡ false → Goes p c
goes p (ticks room) x = go (leb 4111 room) refl
  where
    go : (v : Bool) → leb 4111 room ≡ v → Goes p (ticks room)
    go true is = inr (room, refl, is)
    go false is =
        let t = timed (ids p.board) p.endpoint.state p.line p.endpoint in
        inl
        (is, subst (λ v. Stills p.endpoint (cond v t (turn p.endpoint p.line (refusal TickBufferShort))).endpoint) (sym is) (unmoved p.endpoint))
goes p (changes place r) x = inl (refl, change_stills (at (ids p.board) place) place r p.endpoint)
goes p link_goes_up x = inl (refl, unmoved p.endpoint)
goes p link_goes_down x = inl (refl, unmoved p.endpoint)
goes p loses x = inl (refl, unmoved p.endpoint)
goes p (writes_sync items delay retry room) x = inl (refl, unmoved p.endpoint)
goes p (writes_ack room) x = inl (refl, unmoved p.endpoint)
goes p (requests sender bytes room) x = inl (refl, request_stills p (refusal_of room bytes) sender bytes x)
goes p (answers kind bytes) x = inl (refl, unmoved p.endpoint)
goes p (gives_up kind) x = inl (refl, unmoved p.endpoint)
goes p (picks_up room) x = inl (refl, unmoved p.endpoint)
goes p (fetches room) x = inl (refl, unmoved p.endpoint)
goes p (shows id room) x = inl (refl, unmoved p.endpoint)
goes p resets x = absurd (true≢false x)

-- no call changes the unique IDs
ids_step : (p : Pair) (c : Call) → ids (step p c).pair.board ≡ ids p.board
ids_step p (changes place r) = ids-after p.board place r
ids_step p (ticks room) = refl
ids_step p link_goes_up = refl
ids_step p link_goes_down = refl
ids_step p loses = refl
ids_step p (writes_sync items delay retry room) = refl
ids_step p (writes_ack room) = refl
ids_step p (requests sender bytes room) = refl
ids_step p (answers kind bytes) = refl
ids_step p (gives_up kind) = refl
ids_step p (picks_up room) = refl
ids_step p (fetches room) = refl
ids_step p (shows id room) = refl
ids_step p resets = refl

-- the ticks of a list
no_tick : (c : Call) (cs : List Call) → is_tick c ≡ false → ticks_in (c ∷ cs) ≡ ticks_in cs
no_tick c cs none_is = ap (λ v. cond v 1 0 + ticks_in cs) none_is ∙ (omega arith)

one_tick : (c : Call) (cs : List Call) (room : ℕ) → c ≡ ticks room → leb 4111 room ≡ true → ticks_in (c ∷ cs) ≡ 1 + ticks_in cs
one_tick c cs room is fits = ap (λ v. cond v 1 0 + ticks_in cs) (ap is_tick is ∙ fits)

-- THE FIRST ATTEMPT

-- what is so of a state, not of Armed, and of Sending and Failed
pub record Past (P : State → Type 0) : Type 0 where
  pub armed : (age : ℕ) → P (Armed age) → ⊥
  pub sending : (attempt waited : ℕ) → P (Sending attempt waited)
  pub failed : P Failed

-- no tick ends it
timed_past : (P : State → Type 0) → Past P → (us : List UniqueId) (c : Line) (s : State) (e : Endpoint) → e.state ≡ s → P s → P (timed us s c e).endpoint.state
timed_past P k us c Off e is x = subst P (sym is) x
timed_past P k us c (Armed age) e is x = absurd (k.armed age x)
timed_past P k us c (Sending attempt waited) e is x =
    let Q : Turn → Type 0 = λ t. P t.endpoint.state in
    either Q (eqb e.retry 0) (stay c e) (cond (ltb (waited + 1) e.retry) (stay c (in_state (Sending attempt (waited + 1)) e)) (again us attempt c e)) (subst P (sym is) x)
    (either Q (ltb (waited + 1) e.retry) (stay c (in_state (Sending attempt (waited + 1)) e)) (again us attempt c e) (k.sending attempt (waited + 1))
    (either Q (ltb attempt 8) (send us attempt c (in_state (Sending (attempt + 1) 0) e)) (fail [] c e) (k.sending (attempt + 1) 0) k.failed))
timed_past P k us c Failed e is x = subst P (sym is) x

-- nor does any call that does not start over
pub step_past : (P : State → Type 0) → Past P → (p : Pair) (c : Call) → Goes p c → P p.endpoint.state → P (step p c).pair.endpoint.state
step_past P k p c (inl y) x = subst P (sym y.1.state) x
step_past P k p c (inr y) x =
    let us = ids p.board in
    let e = p.endpoint in
    subst (λ d. P (step p d).pair.endpoint.state) (sym y.1)
    (either (λ t. P t.endpoint.state) (leb 4111 y.0) (timed us e.state p.line e) (turn e p.line (refusal TickBufferShort)) (timed_past P k us p.line e.state e refl x) x)

-- once a message was sent, the endpoint is not Armed until it starts over
sent : Past (λ s. has_sent s ≡ true)
sent = record { armed = λ age. false≢true; sending = λ attempt waited. refl; failed = refl }

sent_stays : (p : Pair) (calls : List Call) → has_sent p.endpoint.state ≡ true → GoesOn p calls → has_sent (run p calls).endpoint.state ≡ true
sent_stays p [] x on = x
sent_stays p (c ∷ cs) x on = sent_stays (step p c).pair cs (step_past (λ s. has_sent s ≡ true) sent p c (goes p c on.0) x) on.1

-- a tick of an Armed endpoint: it has sent, or is one older
tick_armed : (us : List UniqueId) (room : ℕ) (c : Line) (e : Endpoint) (a : ℕ) → e.state ≡ Armed a → leb 4111 room ≡ true → let t = tick us room c e in
    (has_sent t.endpoint.state ≡ true) ⊎ ((t.endpoint.state ≡ Armed (min (a + 1) (10 * e.delay))) × (t.endpoint.delay ≡ e.delay))
tick_armed us room c e a is fits =
    let older = min (a + 1) (10 * e.delay) in
    let G : Turn → Type 0 = λ t. (has_sent t.endpoint.state ≡ true) ⊎ ((t.endpoint.state ≡ Armed (min (a + 1) (10 * e.delay))) × (t.endpoint.delay ≡ e.delay)) in
    subst G (sym (tick-at us room c e (Armed a) fits is))
    (either G (eqb older (10 * e.delay) && any_listed (occurrences us e.prior)) (start us c e) (stay c (in_state (Armed older) e))
    (inl (either (λ t. has_sent t.endpoint.state ≡ true) _ (fail (message_of us 0 (begun e)) c (begun e)) (send us 0 c (begun e)) refl refl))
    (inr (refl, refl)))

min_more : (a n full : ℕ) → min (min (a + 1) full + n) full ≡ min (a + (1 + n)) full
min_more a n full = go (cases_lt full (a + 1))
  where
    go : (full < a + 1) ⊎ (a + 1 ≤ full) → min (min (a + 1) full + n) full ≡ min (a + (1 + n)) full
    go (inl h) =
        ap (λ (k : ℕ). min (k + n) full) (min-eq_right {n = full} {m = a + 1} (omega arith))
        ∙ min-eq_right {n = full} {m = full + n} (omega arith)
        ∙ sym (min-eq_right {n = full} {m = a + (1 + n)} (omega arith))
    go (inr h) =
        let e : a + 1 + n ≡ a + (1 + n) = omega arith in
        ap (λ (k : ℕ). min (k + n) full) (min-eq_left {n = a + 1} {m = full} h) ∙ ap (λ (k : ℕ). min k full) e

-- an endpoint that is still Armed is as old as there were ticks, up to the delay
armed_runs : (full : ℕ) (p : Pair) (calls : List Call) (a : ℕ) → 10 * p.endpoint.delay ≡ full → p.endpoint.state ≡ Armed a → a ≤ full → GoesOn p calls →
    is_armed (run p calls).endpoint.state ≡ true → ((run p calls).endpoint.state ≡ Armed (min (a + ticks_in calls) full)) × (10 * (run p calls).endpoint.delay ≡ full)
armed_runs full p [] a d is small on armed =
    let e : a + 0 ≡ a = omega arith in
    (is ∙ ap Armed (sym (ap (λ (k : ℕ). min k full) e ∙ min-eq_left {n = a} {m = full} small)), d)
armed_runs full p (c ∷ cs) a d is small on armed =
    go (goes p c on.0) (λ b delays state below. armed_runs full (step p c).pair cs b delays state below on.1 armed)
  where
    below : (full < a + 1) ⊎ (a + 1 ≤ full) → min (a + 1) full ≤ full
    below (inl h) = let e = min-eq_right {n = full} {m = a + 1} (omega arith) in omega arith
    below (inr h) = let e = min-eq_left {n = a + 1} {m = full} h in omega arith

    -- what holds from the pair after the call on
    Rest : Type 0
    Rest = (b : ℕ) → 10 * (step p c).pair.endpoint.delay ≡ full → (step p c).pair.endpoint.state ≡ Armed b → b ≤ full →
        ((run p (c ∷ cs)).endpoint.state ≡ Armed (min (b + ticks_in cs) full)) × (10 * (run p (c ∷ cs)).endpoint.delay ≡ full)

    Goal : Type 0
    Goal = ((run p (c ∷ cs)).endpoint.state ≡ Armed (min (a + ticks_in (c ∷ cs)) full)) × (10 * (run p (c ∷ cs)).endpoint.delay ≡ full)

    -- a tick was sent, or made the endpoint older
    Tock : Endpoint → Type 0
    Tock e = (has_sent e.state ≡ true) ⊎ ((e.state ≡ Armed (min (a + 1) (10 * p.endpoint.delay))) × (e.delay ≡ p.endpoint.delay))

    tock : (room : ℕ) → c ≡ ticks room → leb 4111 room ≡ true → Tock (step p c).pair.endpoint → Rest → Goal
    tock room same fits (inl sent) rest = absurd (not_both (run p (c ∷ cs)).endpoint.state (sent_stays (step p c).pair cs sent on.1) armed)
    tock room same fits (inr older) rest =
        let r = rest (min (a + 1) full) (ap (λ (k : ℕ). 10 * k) older.1 ∙ d) (older.0 ∙ ap (λ (k : ℕ). Armed (min (a + 1) k)) d) (below (cases_lt full (a + 1))) in
        (r.0 ∙ ap Armed (min_more a (ticks_in cs) full ∙ ap (λ (k : ℕ). min (a + k) full) (sym (one_tick c cs room same fits))), r.1)

    go : Goes p c → Rest → Goal
    go (inl y) rest =
        let r = rest a (ap (λ (k : ℕ). 10 * k) y.1.delay ∙ d) (y.1.state ∙ is) small in
        (r.0 ∙ ap (λ (k : ℕ). Armed (min (a + k) full)) (sym (no_tick c cs y.0)), r.1)
    go (inr y) rest =
        tock y.0 y.1 y.2 (subst Tock (sym (ap (λ x. (step p x).pair.endpoint) y.1)) (tick_armed (ids p.board) y.0 p.line p.endpoint a is y.2)) rest

-- the delay is over by the tick after n others
age_due : (n full : ℕ) → eqb (min (min (0 + n) full + 1) full) full ≡ leb full (n + 1)
age_due n full = go (cases_lt (n + 1) full)
  where
    zero_n : 0 + n ≡ n
    zero_n = omega arith

    go : (n + 1 < full) ⊎ (full ≤ n + 1) → eqb (min (min (0 + n) full + 1) full) full ≡ leb full (n + 1)
    go (inl h) =
        let age : min (0 + n) full ≡ n = ap (λ (k : ℕ). min k full) zero_n ∙ min-eq_left {n = n} {m = full} (omega arith) in
        let older : min (min (0 + n) full + 1) full ≡ n + 1 = ap (λ (k : ℕ). min (k + 1) full) age ∙ min-eq_left {n = n + 1} {m = full} (omega arith) in
        ap (λ (k : ℕ). eqb k full) older ∙ ne_eqb (n + 1) full (λ e. omega arith) ∙ sym (lt-leb full (n + 1) h)
    go (inr h) =
        let age : full ≤ min (0 + n) full + 1 = reached (cases_lt n full) in
        ap (λ (k : ℕ). eqb k full) (min-eq_right {n = full} {m = min (0 + n) full + 1} age) ∙ eq-eqb full full refl ∙ sym (le-leb full (n + 1) h)
      where
        reached : (n < full) ⊎ (full ≤ n) → full ≤ min (0 + n) full + 1
        reached (inl g) = let e : min (0 + n) full ≡ n = ap (λ (k : ℕ). min k full) zero_n ∙ min-eq_left {n = n} {m = full} (omega arith) in omega arith
        reached (inr g) = let e : min (0 + n) full ≡ full = ap (λ (k : ℕ). min k full) zero_n ∙ min-eq_right {n = full} {m = n} g in omega arith

pub first_attempt : FirstAttempt
first_attempt p calls room is on fits armed =
    let q = run p calls in
    let e = q.endpoint in
    let us = ids q.board in
    let n = ticks_in calls in
    let full = 10 * p.endpoint.delay in
    let r = armed_runs full p calls 0 refl is (omega arith) on armed in
    let any = any_listed (occurrences us e.prior) in
    let age = min (0 + n) full in
    let older = min (age + 1) (10 * e.delay) in
    let due = leb full (n + 1) && any in
    let test : (eqb older (10 * e.delay) && any) ≡ due = ap (λ v. v && any) (ap (λ (k : ℕ). eqb (min (age + 1) k) k) r.1 ∙ age_due n full) in
    let t = start us q.line e in
    let t' = stay q.line (in_state (Armed older) e) in
    let is-tick : tick us room q.line e ≡ cond due t t' = tick-at us room q.line e (Armed age) (le-leb 4111 room fits) r.0 ∙ ap (λ v. cond v t t') test in
    let G : Bool → Turn → Type 0 = λ v t. (t.outcome ≡ done (cond v (message_of us 0 (begun e)) [])) × (has_sent t.endpoint.state ≡ v) in
    subst (G due) (sym is-tick)
    (elim due as (λ v. G v (cond v t t')) [
      | true ↦ (
        either (λ s. s.outcome ≡ done (message_of us 0 (begun e))) _ (fail (message_of us 0 (begun e)) q.line (begun e)) (send us 0 q.line (begun e)) refl refl,
        either (λ s. has_sent s.endpoint.state ≡ true) _ (fail (message_of us 0 (begun e)) q.line (begun e)) (send us 0 q.line (begun e)) refl refl,
      )
      | false ↦ (refl, refl)
    ])

-- THE RETRIES

-- where the endpoint is, n ticks after the first attempt
abbrev On : (r n : ℕ) → State → Type 0
On r n s = ((j : ℕ) × (w : ℕ) × (j < 8) × (w < r) × (n ≡ j * r + w) × (s ≡ Sending (j + 1) w)) ⊎ ((8 * r ≤ n) × (s ≡ Failed))

on_sent : (r n : ℕ) (s : State) → On r n s → has_sent s ≡ true
on_sent r n s (inl x) = ap has_sent x.5
on_sent r n s (inr x) = ap has_sent x.1

on-timeline : (r n : ℕ) (s : State) → On r n s → s ≡ timeline r n
on-timeline r n s (inl x) =
    let j = x.0 in
    let w = x.1 in
    let short : n < 8 * r = (let h = mul-add-lt j r w 8 x.2 x.3 in let e = x.4 in omega arith) in
    let q : n / r ≡ j = ap (λ (k : ℕ). k / r) x.4 ∙ div-mul-add j r w x.3 in
    let m : n % r ≡ w = ap (λ (k : ℕ). k % r) x.4 ∙ mod-mul-add j r w x.3 in
    x.5 ∙ (λ i. Sending (sym q i + 1) (sym m i)) ∙ sym (ap (λ v. cond v (Sending (n / r + 1) (n % r)) Failed) (lt-ltb n (8 * r) short))
on-timeline r n s (inr x) = x.1 ∙ sym (ap (λ v. cond v (Sending (n / r + 1) (n % r)) Failed) (le-ltb n (8 * r) x.0))

-- what the tick that makes them n hands back
abbrev said_at : (r n : ℕ) → List UniqueId → Endpoint → Outcome
said_at r n us e = done (cond (eqb (n % r) 0 && ltb n (8 * r)) (message_of us (n / r) e) [])

silent : (r n : ℕ) (us : List UniqueId) (e : Endpoint) → (eqb (n % r) 0 && ltb n (8 * r)) ≡ false → done [] ≡ said_at r n us e
silent r n us e x = sym (ap (λ v. done (cond v (message_of us (n / r) e) [])) x)

loud : (r k : ℕ) (us : List UniqueId) (e : Endpoint) (n : ℕ) → 0 < r → k < 8 → n ≡ k * r + 0 → done (message_of us k e) ≡ said_at r n us e
loud r k us e n pos few is =
    let q : n / r ≡ k = ap (λ (m : ℕ). m / r) is ∙ div-mul-add k r 0 pos in
    let m : n % r ≡ 0 = ap (λ (m : ℕ). m % r) is ∙ mod-mul-add k r 0 pos in
    let short : n < 8 * r = (let h = mul-add-lt k r 0 8 few pos in omega arith) in
    let test : (eqb (n % r) 0 && ltb n (8 * r)) ≡ true = and_from (eqb (n % r) 0) (ltb n (8 * r)) (eq-eqb (n % r) 0 m) (lt-ltb n (8 * r) short) in
    ap (λ (x : ℕ). done (message_of us x e)) (sym q) ∙ sym (ap (λ v. done (cond v (message_of us (n / r) e) [])) test)

-- the same message
record Carries (us : List UniqueId) (e : Endpoint) (us' : List UniqueId) (e' : Endpoint) : Type 0 where
  sources : us' ≡ us
  prior : e'.prior ≡ e.prior
  generation : e'.generation ≡ e.generation
  retry : e'.retry ≡ e.retry

-- a tick keeps to the timeline
pub record Tocks (r n : ℕ) (us : List UniqueId) (e : Endpoint) (t : Turn) : Type 0 where
  pub on : On r (n + 1) t.endpoint.state
  pub prior : t.endpoint.prior ≡ e.prior
  pub generation : t.endpoint.generation ≡ e.generation
  pub retry : t.endpoint.retry ≡ e.retry
  pub outcome : t.outcome ≡ said_at r (n + 1) us e

-- one after the last attempt
late_tock : (r n : ℕ) (us : List UniqueId) (e : Endpoint) (t : Turn) → 8 * r ≤ n + 1 → t.endpoint.state ≡ Failed → t.endpoint.prior ≡ e.prior → t.endpoint.generation ≡ e.generation →
    t.endpoint.retry ≡ e.retry → t.outcome ≡ done [] → Tocks r n us e t
late_tock r n us e t late failed prior generation retry quiet = record {
  on = inr (late, failed);
  prior = prior;
  generation = generation;
  retry = retry;
  outcome = quiet ∙ silent r (n + 1) us e (and_right (eqb ((n + 1) % r) 0) (ltb (n + 1) (8 * r)) (le-ltb (n + 1) (8 * r) late));
}

tick-on : (us : List UniqueId) (room : ℕ) (c : Line) (e : Endpoint) (r n : ℕ) → leb 4111 room ≡ true → e.retry ≡ r → 0 < r → On r n e.state → Tocks r n us e (tick us room c e)
tick-on us room c e r n fits same pos (inr x) =
    let late : 8 * r ≤ n + 1 = (let h = x.0 in omega arith) in
    subst (Tocks r n us e) (sym (tick-at us room c e Failed fits x.1)) (late_tock r n us e (stay c e) late x.1 refl refl refl refl)
tick-on us room c e r n fits same pos (inl x) =
    subst (Tocks r n us e) (sym (tick-at us room c e (Sending (j + 1) w) fits x.5 ∙ ap (λ v. cond v (stay c e) rest) wakes ∙ ap (λ (k : ℕ). cond (ltb (w + 1) k) waits (again us (j + 1) c e)) same))
    (go (cases_lt (w + 1) r))
  where
    j : ℕ
    j = x.0

    w : ℕ
    w = x.1

    waits : Turn
    waits = stay c (in_state (Sending (j + 1) (w + 1)) e)

    rest : Turn
    rest = cond (ltb (w + 1) e.retry) (stay c (in_state (Sending (j + 1) (w + 1)) e)) (again us (j + 1) c e)

    wakes : eqb e.retry 0 ≡ false
    wakes = ap (λ (k : ℕ). eqb k 0) same ∙ ne_eqb r 0 (λ z. omega arith)

    next : (k : ℕ) → n ≡ j * r + k → n + 1 ≡ j * r + (k + 1)
    next k h = omega arith

    -- after the last tick of an attempt
    ends : r ≡ w + 1 → n + 1 ≡ (j + 1) * r + 0
    ends h =
        let a : (j + 1) * r ≡ j * r + 1 * r = add-mul j 1 r in
        let b = next w x.4 in
        omega arith

    last : r ≡ w + 1 → (j + 1 < 8) ⊎ (8 ≤ j + 1) → Tocks r n us e (again us (j + 1) c e)
    last h (inl few) =
        subst (Tocks r n us e) (sym (ap (λ v. cond v (send us (j + 1) c (in_state (Sending (j + 1 + 1) 0) e)) (fail [] c e)) (lt-ltb (j + 1) 8 few)))
        (record {
          on = inl (j + 1, 0, few, pos, ends h, refl);
          prior = refl;
          generation = refl;
          retry = refl;
          outcome = loud r (j + 1) us e (n + 1) pos few (ends h);
        })
    last h (inr many) =
        let seven : j ≡ 7 = (let k = x.2 in omega arith) in
        let all : n + 1 ≡ 8 * r = (let k = ends h in let s : (j + 1) * r ≡ 8 * r = ap (λ (m : ℕ). (m + 1) * r) seven in omega arith) in
        let late : 8 * r ≤ n + 1 = omega arith in
        subst (Tocks r n us e) (sym (ap (λ v. cond v (send us (j + 1) c (in_state (Sending (j + 1 + 1) 0) e)) (fail [] c e)) (le-ltb (j + 1) 8 many)))
        (late_tock r n us e (fail [] c e) late refl refl refl refl refl)

    go : (w + 1 < r) ⊎ (r ≤ w + 1) → Tocks r n us e (cond (ltb (w + 1) r) waits (again us (j + 1) c e))
    go (inl h) =
        let is = next w x.4 in
        let m : (n + 1) % r ≡ w + 1 = ap (λ (k : ℕ). k % r) is ∙ mod-mul-add j r (w + 1) h in
        let odd : eqb ((n + 1) % r) 0 ≡ false = ap (λ (k : ℕ). eqb k 0) m ∙ ne_eqb (w + 1) 0 (λ z. omega arith) in
        subst (Tocks r n us e) (sym (ap (λ v. cond v waits (again us (j + 1) c e)) (lt-ltb (w + 1) r h)))
        (record {
          on = inl (j, w + 1, x.2, h, is, refl);
          prior = refl;
          generation = refl;
          retry = refl;
          outcome = silent r (n + 1) us e (and_left (eqb ((n + 1) % r) 0) (ltb (n + 1) (8 * r)) odd);
        })
    go (inr h) =
        let full : r ≡ w + 1 = (let k = x.3 in omega arith) in
        subst (Tocks r n us e) (sym (ap (λ v. cond v waits (again us (j + 1) c e)) (le-ltb (w + 1) r h))) (last full (cases_lt (j + 1) 8))

on_runs : (r : ℕ) → 0 < r → (p : Pair) (calls : List Call) (n : ℕ) → p.endpoint.retry ≡ r → On r n p.endpoint.state → GoesOn p calls →
    On r (n + ticks_in calls) (run p calls).endpoint.state × Carries (ids p.board) p.endpoint (ids (run p calls).board) (run p calls).endpoint
on_runs r pos p [] n same x on =
    let e : n ≡ n + 0 = omega arith in
    (subst (λ (k : ℕ). On r k p.endpoint.state) e x, record { sources = refl; prior = refl; generation = refl; retry = refl })
on_runs r pos p (c ∷ cs) n same x on =
    go (goes p c on.0) (λ m again y. on_runs r pos (step p c).pair cs m again y on.1)
  where
    -- what holds from the pair after the call on
    Rest : Type 0
    Rest = (m : ℕ) → (step p c).pair.endpoint.retry ≡ r → On r m (step p c).pair.endpoint.state →
        On r (m + ticks_in cs) (run p (c ∷ cs)).endpoint.state
        × Carries (ids (step p c).pair.board) (step p c).pair.endpoint (ids (run p (c ∷ cs)).board) (run p (c ∷ cs)).endpoint

    Goal : Type 0
    Goal = On r (n + ticks_in (c ∷ cs)) (run p (c ∷ cs)).endpoint.state × Carries (ids p.board) p.endpoint (ids (run p (c ∷ cs)).board) (run p (c ∷ cs)).endpoint

    further : (m : ℕ) → m + ticks_in cs ≡ n + ticks_in (c ∷ cs) → On r m (step p c).pair.endpoint.state → (step p c).pair.endpoint.prior ≡ p.endpoint.prior →
        (step p c).pair.endpoint.generation ≡ p.endpoint.generation → (step p c).pair.endpoint.retry ≡ p.endpoint.retry → Rest → Goal
    further m count y priors generations retries rest =
        let z = rest m (retries ∙ same) y in (
          subst (λ (k : ℕ). On r k (run p (c ∷ cs)).endpoint.state) count z.0,
          record {
            sources = z.1.sources ∙ ids_step p c;
            prior = z.1.prior ∙ priors;
            generation = z.1.generation ∙ generations;
            retry = z.1.retry ∙ retries;
          },
        )

    go : Goes p c → Rest → Goal
    go (inl y) rest =
        further n (sym (ap (λ (k : ℕ). n + k) (no_tick c cs y.0))) (subst (On r n) (sym y.1.state) x) (y.1.prior (on_sent r n p.endpoint.state x)) y.1.generation y.1.retry rest
    go (inr y) rest =
        let z : Tocks r n (ids p.board) p.endpoint (tick (ids p.board) y.0 p.line p.endpoint) = tick-on (ids p.board) y.0 p.line p.endpoint r n y.2 same pos x in
        let is : (step p c).pair.endpoint ≡ (tick (ids p.board) y.0 p.line p.endpoint).endpoint = ap (λ d. (step p d).pair.endpoint) y.1 in
        let count : n + 1 + ticks_in cs ≡ n + ticks_in (c ∷ cs) = (let k = one_tick c cs y.0 y.1 y.2 in omega arith) in
        further (n + 1) count (subst (λ (e : Endpoint). On r (n + 1) e.state) (sym is) z.on) (ap (λ (e : Endpoint). e.prior) is ∙ z.prior)
        (ap (λ (e : Endpoint). e.generation) is ∙ z.generation) (ap (λ (e : Endpoint). e.retry) is ∙ z.retry) rest

pub retries : Retries
retries p calls room is on fits pos =
    let q = run p calls in
    let r = p.endpoint.retry in
    let n = ticks_in calls in
    let zero_n : 0 + ticks_in calls ≡ ticks_in calls = omega arith in
    let start-at : 0 ≡ 0 * p.endpoint.retry + 0 = omega arith in
    let x = on_runs r pos p calls 0 refl (inl (0, 0, omega arith, pos, start-at, is)) on in
    let y : On p.endpoint.retry (ticks_in calls) (run p calls).endpoint.state = subst (λ (k : ℕ). On p.endpoint.retry k (run p calls).endpoint.state) zero_n x.0 in
    let z = tick-on (ids q.board) room q.line q.endpoint r n (le-leb 4111 room fits) x.1.retry pos y in
    let same : (k : ℕ) → message_of (ids q.board) k q.endpoint ≡ message_of (ids p.board) k p.endpoint =
    λ k. λ i. event_message (transmission (x.1.generation i) k) (told (occurrences (x.1.sources i) (x.1.prior i))) in (
      on-timeline r n q.endpoint.state y,
      z.outcome ∙ ap (λ (bytes : Bytes). done (cond (eqb ((n + 1) % r) 0 && ltb (n + 1) (8 * r)) bytes [])) (same ((n + 1) / r)),
    )

-- GENERATIONS

-- one higher if a message was begun, else as it was
abbrev Rises : Endpoint → Endpoint → Type 0
Rises e e' = e'.generation ≡ cond (is_armed e.state && has_sent e'.state) ((e.generation + 1) % 32) e.generation

kept_rises : (e e' : Endpoint) → (is_armed e.state && has_sent e'.state) ≡ false → e'.generation ≡ e.generation → Rises e e'
kept_rises e e' not_so same = same ∙ sym (ap (λ v. cond v ((e.generation + 1) % 32) e.generation) not_so)

begun_rises : (e e' : Endpoint) → is_armed e.state ≡ true → has_sent e'.state ≡ true → e'.generation ≡ (e.generation + 1) % 32 → Rises e e'
begun_rises e e' armed sent up =
    up ∙ sym (ap (λ v. cond v ((e.generation + 1) % 32) e.generation) (and_from (is_armed e.state) (has_sent e'.state) armed sent))

neither : (s : State) → (is_armed s && has_sent s) ≡ false
neither Off = refl
neither (Armed age) = refl
neither (Sending attempt waited) = refl
neither Failed = refl

rests_rises : (e e' : Endpoint) → e'.state ≡ e.state → e'.generation ≡ e.generation → Rises e e'
rests_rises e e' state same = kept_rises e e' (ap (λ s. is_armed e.state && has_sent s) state ∙ neither e.state) same

unsent_rises : (e e' : Endpoint) → has_sent e'.state ≡ false → e'.generation ≡ e.generation → Rises e e'
unsent_rises e e' not_so same = kept_rises e e' (and_right (is_armed e.state) (has_sent e'.state) not_so) same

unarmed_rises : (e e' : Endpoint) → is_armed e.state ≡ false → e'.generation ≡ e.generation → Rises e e'
unarmed_rises e e' not_so same = kept_rises e e' (and_left (is_armed e.state) (has_sent e'.state) not_so) same

timed_rises : (us : List UniqueId) (c : Line) (s : State) (e : Endpoint) → e.state ≡ s → Rises e (timed us s c e).endpoint
timed_rises us c Off e is = rests_rises e e refl refl
timed_rises us c (Armed age) e is =
    let older = min (age + 1) (10 * e.delay) in
    either (λ t. Rises e t.endpoint) _ (start us c e) (stay c (in_state (Armed older) e))
    (either (λ t. Rises e t.endpoint) _ (fail (message_of us 0 (begun e)) c (begun e)) (send us 0 c (begun e))
    (begun_rises e (fail (message_of us 0 (begun e)) c (begun e)).endpoint (ap is_armed is) refl refl) (begun_rises e (begun e) (ap is_armed is) refl refl))
    (unsent_rises e (in_state (Armed older) e) refl refl)
timed_rises us c (Sending attempt waited) e is =
    let not_so = ap is_armed is in
    let waits = in_state (Sending attempt (waited + 1)) e in
    let more = in_state (Sending (attempt + 1) 0) e in
    either (λ t. Rises e t.endpoint) (eqb e.retry 0) (stay c e) (cond (ltb (waited + 1) e.retry) (stay c waits) (again us attempt c e)) (unarmed_rises e e not_so refl)
    (either (λ t. Rises e t.endpoint) (ltb (waited + 1) e.retry) (stay c waits) (again us attempt c e) (unarmed_rises e waits not_so refl)
    (either (λ t. Rises e t.endpoint) (ltb attempt 8) (send us attempt c more) (fail [] c e) (unarmed_rises e more not_so refl) (unarmed_rises e (fail [] c e).endpoint not_so refl)))
timed_rises us c Failed e is = rests_rises e e refl refl

ack_rises : (sender : ℕ) (c : Line) (e : Endpoint) (o : Outcome) (s : State) → Rises e (acknowledge sender s c e o).endpoint
ack_rises sender c e o Off = unsent_rises e (acknowledge sender Off c e o).endpoint refl refl
ack_rises sender c e o (Armed age) = unsent_rises e (acknowledge sender (Armed age) c e o).endpoint refl refl
ack_rises sender c e o (Sending attempt waited) = unsent_rises e (acknowledge sender (Sending attempt waited) c e o).endpoint refl refl
ack_rises sender c e o Failed = unsent_rises e (acknowledge sender Failed c e o).endpoint refl refl

unsent_sync : (on : Bool) → has_sent (cond on (Armed 0) Off) ≡ false
unsent_sync true = refl
unsent_sync false = refl

accept_rises : (sender : ℕ) (q : Request) (b : Sources) (c : Line) (e : Endpoint) (o : Outcome) → Rises e (accept sender q b c e o).endpoint
accept_rises sender (Sync slot items delay retry) b c e o =
    unsent_rises e (accept sender (Sync slot items delay retry) b c e o).endpoint (unsent_sync (any (enabling (ids b) items e.enabled))) refl
accept_rises sender (Ack slot) b c e o = ack_rises sender c e o e.state

request_rises : (p : Pair) (o : Option Refusal) (sender : ℕ) (bytes : Bytes) → Rises p.endpoint (requested o sender bytes p.board p.line p.endpoint).endpoint
request_rises p (some r) sender bytes = rests_rises p.endpoint p.endpoint refl refl
request_rises p none sender bytes =
    let o = done (reply (request_of bytes) p.board p.endpoint) in
    either (λ t. Rises p.endpoint t.endpoint) (over (reported (request_of bytes) p.board p.endpoint)) (turn p.endpoint p.line o)
    (accept sender (request_of bytes) p.board p.line p.endpoint o)
    (rests_rises p.endpoint p.endpoint refl refl) (accept_rises sender (request_of bytes) p.board p.line p.endpoint o)

step_rises : (p : Pair) (c : Call) → Rises p.endpoint (step p c).pair.endpoint
step_rises p (changes place r) = let x = change_stills (at (ids p.board) place) place r p.endpoint in rests_rises p.endpoint (step p (changes place r)).pair.endpoint x.state x.generation
step_rises p (ticks room) =
    either (λ t. Rises p.endpoint t.endpoint) (leb 4111 room) (timed (ids p.board) p.endpoint.state p.line p.endpoint) (turn p.endpoint p.line (refusal TickBufferShort))
    (timed_rises (ids p.board) p.line p.endpoint.state p.endpoint refl) (rests_rises p.endpoint p.endpoint refl refl)
step_rises p link_goes_up = rests_rises p.endpoint p.endpoint refl refl
step_rises p link_goes_down = rests_rises p.endpoint p.endpoint refl refl
step_rises p loses = rests_rises p.endpoint p.endpoint refl refl
step_rises p (writes_sync items delay retry room) = rests_rises p.endpoint p.endpoint refl refl
step_rises p (writes_ack room) = rests_rises p.endpoint p.endpoint refl refl
step_rises p (requests sender bytes room) = request_rises p (refusal_of room bytes) sender bytes
step_rises p (answers kind bytes) = rests_rises p.endpoint p.endpoint refl refl
step_rises p (gives_up kind) = rests_rises p.endpoint p.endpoint refl refl
step_rises p (picks_up room) = rests_rises p.endpoint p.endpoint refl refl
step_rises p (fetches room) = rests_rises p.endpoint p.endpoint refl refl
step_rises p (shows id room) = rests_rises p.endpoint p.endpoint refl refl
step_rises p resets = unsent_rises p.endpoint (step p resets).pair.endpoint refl refl

run_rises : (p : Pair) (calls : List Call) → p.endpoint.generation < 32 → (run p calls).endpoint.generation ≡ (p.endpoint.generation + messages_in p calls) % 32
run_rises p [] small = omega arith
run_rises p (c ∷ cs) small =
    go (is_armed p.endpoint.state && has_sent (step p c).pair.endpoint.state) (step_rises p c) (run_rises (step p c).pair cs)
  where
    go : (v : Bool) → (step p c).pair.endpoint.generation ≡ cond v ((p.endpoint.generation + 1) % 32) p.endpoint.generation →
        ((step p c).pair.endpoint.generation < 32 → (run p (c ∷ cs)).endpoint.generation ≡ ((step p c).pair.endpoint.generation + messages_in (step p c).pair cs) % 32) →
        (run p (c ∷ cs)).endpoint.generation ≡ (p.endpoint.generation + (cond v 1 0 + messages_in (step p c).pair cs)) % 32
    go true is rest = rest (omega arith) ∙ (omega arith)
    go false is rest = rest (omega arith) ∙ (omega arith)

pub generations : Generations
generations board line calls =
    let e : 0 + messages_in (new_pair board line) calls ≡ messages_in (new_pair board line) calls = omega arith in
    run_rises (new_pair board line) calls (omega arith) ∙ ap (λ (k : ℕ). k % 32) e
