-- What a tick may do, whatever the state. Assumes nothing.
use Rattle.std.proofs.Common.{◌≡◌, ℕ, ◌+◌, min, Bool, true, false, cond, not, ◌&&◌, eqb, ltb, leb, List, [], ap, ◌∙◌}
use Rattle.event.specs.declared.id.UniqueId.{UniqueId}
use Rattle.event.specs.declared.refusal.Refusal.TheVariants.{TickBufferShort}
use Rattle.event.specs.Delays.{seconds_in_ticks, tenths_in_ticks}
use Rattle.event.specs.Outcomes.{refusal}
use Rattle.marks.specs.Marking.{occurrences}
use Rattle.carrier.specs.Carriers.{Line, takes}
use Rattle.protocol.specs.declared.types.State.{State}
use Rattle.protocol.specs.declared.types.State.TheVariants.{Off, Armed, Sending, Failed}
use Rattle.protocol.specs.Endpoint.{Endpoint, in_state, fail, stay, begun, message_of, send, start, again, any_listed, timed, tick, Turn, turn}

-- what holds of both ways holds of the one that is taken
pub either : (P : Turn → Type 0) (test : Bool) (s t : Turn) → P s → P t → P (cond test s t)
either P true s t x y = x
either P false s t x y = y

-- what holds of all that a tick may do, holds of what it does
pub record Ways (P : Turn → Type 0) (us : List UniqueId) (c : Line) (e : Endpoint) : Type 0 where
  -- another state, or the same
  pub stays : (s : State) → P (stay c (in_state s e))
  -- the first attempt
  pub begins : P (send us 0 c (begun e))
  -- its failure
  pub unbegun : P (fail (message_of us 0 (begun e)) c (begun e))
  -- a further attempt
  pub sends : (retries : ℕ) (s : State) → P (send us retries c (in_state s e))
  -- failure after the last
  pub fails : P (fail [] c e)

pub timed_way : (P : Turn → Type 0) (us : List UniqueId) (c : Line) (s : State) (e : Endpoint) → P (stay c e) → Ways P us c e → P (timed us s c e)
timed_way P us c Off e rest w = rest
timed_way P us c (Armed age) e rest w =
    let older = min (age + 1) (seconds_in_ticks e.delay) in
    either P (eqb older (seconds_in_ticks e.delay) && any_listed (occurrences us e.prior)) (start us c e) (stay c (in_state (Armed older) e))
    (either P (not (takes c (message_of us 0 (begun e))) && eqb (tenths_in_ticks e.retry) 0) (fail (message_of us 0 (begun e)) c (begun e)) (send us 0 c (begun e)) w.unbegun w.begins)
    (w.stays (Armed older))
timed_way P us c (Sending attempt waited) e rest w =
    let waits = Sending attempt (waited + 1) in
    let more = Sending (attempt + 1) 0 in
    either P (eqb (tenths_in_ticks e.retry) 0) (stay c e) (cond (ltb (waited + 1) (tenths_in_ticks e.retry)) (stay c (in_state waits e)) (again us attempt c e)) rest
    (either P (ltb (waited + 1) (tenths_in_ticks e.retry)) (stay c (in_state waits e)) (again us attempt c e) (w.stays waits)
    (either P (ltb attempt 8) (send us attempt c (in_state more e)) (fail [] c e) (w.sends attempt more) w.fails))
timed_way P us c Failed e rest w = rest

pub tick_way : (P : Turn → Type 0) (us : List UniqueId) (room : ℕ) (c : Line) (e : Endpoint) → P (stay c e) → P (turn e c (refusal TickBufferShort)) → Ways P us c e → P (tick us room c e)
tick_way P us room c e rest refused w =
    either P (leb 4111 room) (timed us e.state c e) (turn e c (refusal TickBufferShort)) (timed_way P us c e.state e rest w) refused

-- a tick with room, in this state
pub tick-at : (us : List UniqueId) (room : ℕ) (c : Line) (e : Endpoint) (s : State) → leb 4111 room ≡ true → e.state ≡ s → tick us room c e ≡ timed us s c e
tick-at us room c e s fits is =
    ap (λ v. cond v (timed us e.state c e) (turn e c (refusal TickBufferShort))) fits ∙ ap (λ x. timed us x c e) is
