-- Laws over whole runs of the endpoint: which sources are marked, when a message is first sent, when it is sent again, and its generation. Assumes nothing.
use Rattle.std.specs.Prelude.{◌≡◌, ℕ, ◌+◌, ◌*◌, ◌/◌, ◌%◌, ◌<◌, ◌≤◌, Bool, true, false, cond, not, ◌&&◌, ◌⊎◌, List, [], ◌∷◌, ◌++◌, Some, None, Option, ◌==◌, nat_le, nat_lt}
use Rattle.event.specs.declared.id.UniqueId.{UniqueId}
use Rattle.event.specs.declared.refusal.Refusal.{Refusal}
use Rattle.event.specs.Bytes.{Bytes}
use Rattle.event.specs.Delays.{seconds_in_ticks, tenths_in_ticks}
use Rattle.event.specs.Identifiers.{has}
use Rattle.event.specs.Outcomes.{done}
use Rattle.event.specs.Sources.{lawful_reading, ids}
use Rattle.board.specs.Boards.{Sources, at}
use Rattle.list.specs.Lists.{over}
use Rattle.marks.specs.Marking.{Marking, unmarked, occurrences}
use Rattle.wire.specs.Requests.{Request, Sync, Ack, request_of}
use Rattle.carrier.specs.Carriers.{Line}
use Rattle.protocol.specs.declared.types.State.{State}
use Rattle.protocol.specs.declared.types.State.TheVariants.{Off, Armed, Sending, Failed}
use Rattle.protocol.specs.Endpoint.{Endpoint, begun, message_of, any_listed, reported, refusal_of}
use Rattle.protocol.specs.Pair.{
  Pair,
  new_pair,
  Call,
  changes,
  ticks,
  link_goes_up,
  link_goes_down,
  loses,
  writes_sync,
  writes_ack,
  requests,
  answers,
  gives_up,
  picks_up,
  fetches,
  shows,
  resets,
  step,
  run,
}

-- WHAT A CALL IS TO THE ENDPOINT

-- is it Armed?
abbrev pub is_armed : State → Bool
is_armed Off = false
is_armed (Armed age) = true
is_armed (Sending attempt waited) = false
is_armed Failed = false

-- has it sent a message that is not acknowledged: is it Sending or Failed?
abbrev pub has_sent : State → Bool
has_sent Off = false
has_sent (Armed age) = false
has_sent (Sending attempt waited) = true
has_sent Failed = true

-- a sync starts the endpoint over in every state, an ack when a message was sent
abbrev pub starts_over_by : Request → State → Bool
starts_over_by (Sync slot items delay retry) s = true
starts_over_by (Ack slot) s = has_sent s

-- a request that is accepted starts the endpoint over unless its answer overflows
abbrev pub starts_over_if : Option Refusal → Request → Pair → Bool
starts_over_if None q p = not (over (reported q p.board p.endpoint)) && starts_over_by q p.endpoint.state
starts_over_if (Some r) q p = false

-- does the call start the endpoint over: is it armed anew or switched off, by a sync, an ack of a message, or a reset?
abbrev pub starts_over : Call → Pair → Bool
starts_over (requests sender bytes room) p = starts_over_if (refusal_of room bytes) (request_of bytes) p
starts_over resets p = true
starts_over (changes place r) p = false
starts_over (ticks room) p = false
starts_over link_goes_up p = false
starts_over link_goes_down p = false
starts_over loses p = false
starts_over (writes_sync items delay retry room) p = false
starts_over (writes_ack room) p = false
starts_over (answers kind bytes) p = false
starts_over (gives_up kind) p = false
starts_over (picks_up room) p = false
starts_over (fetches room) p = false
starts_over (shows id room) p = false

-- through these calls the endpoint does not start over
abbrev pub GoesOn : Pair → List Call → Type 0
GoesOn p [] = Unit {0}
GoesOn p (c ∷ cs) = (starts_over c p ≡ false) × GoesOn (step p c).pair cs

-- is the call a tick? One without room for a message is refused, and is none
abbrev pub is_tick : Call → Bool
is_tick (ticks room) = nat_le 4111 room
is_tick (changes place r) = false
is_tick link_goes_up = false
is_tick link_goes_down = false
is_tick loses = false
is_tick (writes_sync items delay retry room) = false
is_tick (writes_ack room) = false
is_tick (requests sender bytes room) = false
is_tick (answers kind bytes) = false
is_tick (gives_up kind) = false
is_tick (picks_up room) = false
is_tick (fetches room) = false
is_tick (shows id room) = false
is_tick resets = false

-- how many ticks there were
abbrev pub ticks_in : List Call → ℕ
ticks_in [] = 0
ticks_in (c ∷ cs) = cond (is_tick c) 1 0 + ticks_in cs

-- STARTING OVER

-- starting over empties the marks and the carrier, and leaves the endpoint Armed with age 0, or Off; in no other way does it become Armed
pub record StartingOver : Type 0 where
  pub leaves : (p : Pair) (c : Call) → starts_over c p ≡ true → let q = (step p c).pair in
      ((q.endpoint.state ≡ Armed 0) ⊎ (q.endpoint.state ≡ Off))
      × (q.endpoint.prior ≡ unmarked) × (q.endpoint.since ≡ unmarked) × (q.line.message ≡ None)
  pub only : (p : Pair) (c : Call) → is_armed p.endpoint.state ≡ false → is_armed (step p c).pair.endpoint.state ≡ true → starts_over c p ≡ true

-- MARKS

-- is the reading lawful for this source, and its event enabled?
abbrev pub counts : Option UniqueId → Bytes → Endpoint → Bool
counts None r e = false
counts (Some id) r e = lawful_reading id.identifier r && has e.enabled id.identifier

-- does the call change the source at the place, while its event is enabled?
abbrev pub changes_at : (place : ℕ) → Call → Pair → Bool
changes_at place (changes q r) p = counts (at (ids p.board) q) r p.endpoint && place == q
changes_at place (ticks room) p = false
changes_at place link_goes_up p = false
changes_at place link_goes_down p = false
changes_at place loses p = false
changes_at place (writes_sync items delay retry room) p = false
changes_at place (writes_ack room) p = false
changes_at place (requests sender bytes room) p = false
changes_at place (answers kind bytes) p = false
changes_at place (gives_up kind) p = false
changes_at place (picks_up room) p = false
changes_at place (fetches room) p = false
changes_at place (shows id room) p = false
changes_at place resets p = false

-- through these calls the endpoint does not start over, and the source at the place does not change in such a state
abbrev pub Unchanged : (during : State → Bool) → (place : ℕ) → Pair → List Call → Type 0
Unchanged during place p [] = Unit {0}
Unchanged during place p (c ∷ cs) = (starts_over c p ≡ false) × ((changes_at place c p && during p.endpoint.state) ≡ false) × Unchanged during place (step p c).pair cs

-- of the changes of the source at the place, while its event was enabled, in such a state and since the endpoint last started over, the latest gave it this reading
pub record Latest (during : State → Bool) (place : ℕ) (r : Bytes) (p : Pair) (calls : List Call) : Type 0 where
  pub before : List Call
  pub after : List Call
  pub split : calls ≡ before ++ (changes place r ∷ after)
  pub changed : changes_at place (changes place r) (run p before) ≡ true
  pub state : during (run p before).endpoint.state ≡ true
  pub last : Unchanged during place (step (run p before) (changes place r)).pair after

-- exactly those sources are marked that were changed so, each with the reading of its latest such change
pub record MarksLatest (during : State → Bool) (marks : Endpoint → Marking) : Type 0 where
  pub only : (board : Sources) (line : Line) (calls : List Call) (place : ℕ) (r : Bytes) → let new = new_pair board line in
      marks (run new calls).endpoint place ≡ Some r → Latest during place r new calls
  pub each : (board : Sources) (line : Line) (calls : List Call) (place : ℕ) (r : Bytes) → let new = new_pair board line in
      Latest during place r new calls → marks (run new calls).endpoint place ≡ Some r

-- THE FIRST ATTEMPT

-- n ticks after it was armed, and still Armed, the endpoint makes its first attempt at the next tick exactly if this is not before
-- ten times the delay and a source is marked
abbrev pub FirstAttempt : Type 0
FirstAttempt = (p : Pair) (calls : List Call) (room : ℕ) → p.endpoint.state ≡ Armed 0 → GoesOn p calls → 4111 ≤ room →
    let q = run p calls in let sources = ids q.board in is_armed q.endpoint.state ≡ true →
    let due = nat_le (seconds_in_ticks p.endpoint.delay) (ticks_in calls + 1) && any_listed (occurrences sources q.endpoint.prior) in
    ((step q (ticks room)).outcome ≡ done (cond due (message_of sources 0 (begun q.endpoint)) []))
    × (has_sent (step q (ticks room)).pair.endpoint.state ≡ due)

-- THE RETRIES

-- n ticks after the first attempt, with a retry delay of r ticks, n / r + 1 attempts were made, the latest of them n % r ticks ago;
-- 8 * r ticks after it they have failed
abbrev pub timeline : (r n : ℕ) → State
timeline r n = cond (nat_lt n (8 * r)) (Sending (n / r + 1) (n % r)) Failed

-- unless the endpoint starts over, it keeps to this, and the attempt at r, 2 * r, up to 7 * r ticks is the same message with this retry count
abbrev pub Retries : Type 0
Retries = (p : Pair) (calls : List Call) (room : ℕ) → p.endpoint.state ≡ Sending 1 0 → GoesOn p calls → 4111 ≤ room →
    let r = tenths_in_ticks p.endpoint.retry in 0 < r →
    let q = run p calls in let next = ticks_in calls + 1 in
    (q.endpoint.state ≡ timeline r (ticks_in calls))
    × ((step q (ticks room)).outcome ≡ done (cond (next % r == 0 && nat_lt next (8 * r)) (message_of (ids p.board) (next / r) p.endpoint) []))

-- GENERATIONS

-- how many messages were begun
abbrev pub messages_in : Pair → List Call → ℕ
messages_in p [] = 0
messages_in p (c ∷ cs) = cond (is_armed p.endpoint.state && has_sent (step p c).pair.endpoint.state) 1 0 + messages_in (step p c).pair cs

-- the first message of a new endpoint has generation 1, and each one's is one higher than the last one's, modulo 32
abbrev pub Generations : Type 0
Generations = (board : Sources) (line : Line) (calls : List Call) → let new = new_pair board line in
    (run new calls).endpoint.generation ≡ messages_in new calls % 32

-- THE LAWS

-- what every run of the endpoint obeys
pub record LawsOfRuns : Type 0 where
  pub starting_over : StartingOver
  -- prior marks what was changed since arming and before sending began
  pub prior : MarksLatest is_armed (λ e. e.prior)
  -- since marks what was changed since sending began
  pub since : MarksLatest has_sent (λ e. e.since)
  pub first_attempt : FirstAttempt
  pub retries : Retries
  pub generations : Generations
