-- The endpoint's state, event by event. Assumes nothing.
use Rattle.std.specs.Prelude.{ℕ, ◌+◌, min, Bool, cond, ◌&&◌, ◌==◌, nat_lt}
use Rattle.protocol.specs.declared.types.State.{State}
use Rattle.protocol.specs.declared.types.State.TheVariants.{Off, Armed, Sending, Failed}
use Rattle.endpoint.specs.declared.types.Event.{Event}
use Rattle.endpoint.specs.declared.types.Event.TheVariants.{Tick, Reset}
use Rattle.endpoint.specs.declared.types.Move.{Move}
use Rattle.endpoint.specs.declared.types.Move.TheVariants.{Rest, Start, Again, Fail}

-- the state after a tick
abbrev pub ticked : State → (full retry : ℕ) → (marked : Bool) → State
ticked Off full retry marked = Off
ticked (Armed age) full retry marked = cond (min (age + 1) full == full && marked) (Sending 1 0) (Armed (min (age + 1) full))
ticked (Sending attempt waited) full retry marked =
    cond (retry == 0) (Sending attempt waited)
    (cond (nat_lt (waited + 1) retry) (Sending attempt (waited + 1))
    (cond (nat_lt attempt 8) (Sending (attempt + 1) 0) Failed))
ticked Failed full retry marked = Failed

-- the state after an event
abbrev pub stepped : State → Event → State
stepped s (Tick full retry marked) = ticked s full retry marked
stepped s Reset = Off

-- what a tick leaves to be done
abbrev pub due : State → (full retry : ℕ) → (marked : Bool) → Move
due Off full retry marked = Rest
due (Armed age) full retry marked = cond (min (age + 1) full == full && marked) Start Rest
due (Sending attempt waited) full retry marked =
    cond (retry == 0) Rest
    (cond (nat_lt (waited + 1) retry) Rest
    (cond (nat_lt attempt 8) (Again attempt) Fail))
due Failed full retry marked = Rest

-- what an event leaves to be done
abbrev pub moved : State → Event → Move
moved s (Tick full retry marked) = due s full retry marked
moved s Reset = Rest
