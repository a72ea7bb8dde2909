-- The endpoint is armed by starting over, and in no other way. Assumes nothing.
use Rattle.std.proofs.Common.{◌≡◌, ℕ, Bool, true, false, cond, not, ◌&&◌, ◌⊎◌, Some as some, None as none, Option, sym, refl, ◌∙◌, inl, inr, true≢false}
use mathlib.Core.Bool.{false≢true}
use Rattle.event.specs.declared.refusal.Refusal.{Refusal}
use Rattle.event.specs.Bytes.{Bytes}
use Rattle.event.specs.Identifiers.{any}
use Rattle.event.specs.Outcomes.{Outcome, done}
use Rattle.event.specs.Sources.{ids}
use Rattle.board.specs.Boards.{Sources}
use Rattle.list.specs.Lists.{over}
use Rattle.marks.specs.Marking.{unmarked}
use Rattle.wire.specs.Requests.{Request, Sync, Ack, request_of}
use Rattle.carrier.specs.Carriers.{Line}
use Rattle.protocol.specs.declared.types.State.{State}
use Rattle.protocol.specs.declared.types.State.TheVariants.{Off, Armed, Sending, Failed}
use Rattle.protocol.specs.Endpoint.{Endpoint, Turn, turn, reported, reply, enabling, acknowledge, accept, refusal_of, requested}
use Rattle.protocol.specs.Pair.{
  Pair,
  Call,
  changes,
  ticks,
  link_goes_up,
  link_goes_down,
  loses,
  writes_sync,
  writes_ack,
  requests,
  answers,
  gives_up,
  picks_up,
  fetches,
  shows,
  resets,
  step,
}
use Rattle.protocol.specs.Runs.{is_armed, has_sent, starts_over_by, starts_over_if, starts_over, StartingOver}
use Rattle.promises.proofs.RunTimes.{goes, Past, step_past}

-- what starting over leaves
abbrev Empty : Turn → Type 0
Empty t = ((t.endpoint.state ≡ Armed 0) ⊎ (t.endpoint.state ≡ Off)) × (t.endpoint.prior ≡ unmarked) × (t.endpoint.since ≡ unmarked) × (t.line.message ≡ none)

either_state : (on : Bool) → (cond on (Armed 0) Off ≡ Armed 0) ⊎ (cond on (Armed 0) Off ≡ Off)
either_state true = inl refl
either_state false = inr refl

ack_empty : (sender : ℕ) (c : Line) (e : Endpoint) (o : Outcome) (s : State) → has_sent s ≡ true → Empty (acknowledge sender s c e o)
ack_empty sender c e o Off x = absurd (false≢true x)
ack_empty sender c e o (Armed age) x = absurd (false≢true x)
ack_empty sender c e o (Sending attempt waited) x = (inl refl, refl, refl, refl)
ack_empty sender c e o Failed x = (inl refl, refl, refl, refl)

accept_empty : (sender : ℕ) (q : Request) (b : Sources) (c : Line) (e : Endpoint) (o : Outcome) → starts_over_by q e.state ≡ true → Empty (accept sender q b c e o)
accept_empty sender (Sync slot items delay retry) b c e o x = (either_state (any (enabling (ids b) items e.enabled)), refl, refl, refl)
accept_empty sender (Ack slot) b c e o x = ack_empty sender c e o e.state x

request_empty : (p : Pair) (o : Option Refusal) (sender : ℕ) (bytes : Bytes) → starts_over_if o (request_of bytes) p ≡ true → Empty (requested o sender bytes p.board p.line p.endpoint)
request_empty p (some r) sender bytes x = absurd (false≢true x)
request_empty p none sender bytes x = go (over (reported (request_of bytes) p.board p.endpoint)) (done (reply (request_of bytes) p.board p.endpoint)) x
  where
    go : (v : Bool) (o : Outcome) → (not v && starts_over_by (request_of bytes) p.endpoint.state) ≡ true →
        Empty (cond v (turn p.endpoint p.line o) (accept sender (request_of bytes) p.board p.line p.endpoint o))
    go true o x = absurd (false≢true x)
    go false o x = accept_empty sender (request_of bytes) p.board p.line p.endpoint o x

leaves_empty : (p : Pair) (c : Call) → starts_over c p ≡ true → let q = (step p c).pair in
    ((q.endpoint.state ≡ Armed 0) ⊎ (q.endpoint.state ≡ Off)) × (q.endpoint.prior ≡ unmarked) × (q.endpoint.since ≡ unmarked) × (q.line.message ≡ none)
leaves_empty p (requests sender bytes room) x = request_empty p (refusal_of room bytes) sender bytes x
leaves_empty p resets x = (inr refl, refl, refl, refl)
leaves_empty p (changes place r) x = absurd (false≢true x)
leaves_empty p (ticks room) x = absurd (false≢true x)
leaves_empty p link_goes_up x = absurd (false≢true x)
leaves_empty p link_goes_down x = absurd (false≢true x)
leaves_empty p loses x = absurd (false≢true x)
leaves_empty p (writes_sync items delay retry room) x = absurd (false≢true x)
leaves_empty p (writes_ack room) x = absurd (false≢true x)
leaves_empty p (answers kind bytes) x = absurd (false≢true x)
leaves_empty p (gives_up kind) x = absurd (false≢true x)
leaves_empty p (picks_up room) x = absurd (false≢true x)
leaves_empty p (fetches room) x = absurd (false≢true x)
leaves_empty p (shows id room) x = absurd (false≢true x)

-- nothing else arms
unarmed : Past (λ s. is_armed s ≡ false)
unarmed = record { armed = λ age. true≢false; sending = λ attempt waited. refl; failed = refl }

only_so : (p : Pair) (c : Call) → is_armed p.endpoint.state ≡ false → is_armed (step p c).pair.endpoint.state ≡ true → starts_over c p ≡ true
only_so p c before after = go (starts_over c p) refl
  where
    go : (v : Bool) → starts_over c p ≡ v → v ≡ true
    go true is = refl
    go false is = absurd (true≢false (sym after ∙ step_past (λ s. is_armed s ≡ false) unarmed p c (goes p c is) before))

pub starting_over : StartingOver
starting_over = record { leaves = leaves_empty; only = only_so }
