-- An attempt to send a message. Assumes nothing.
use Rattle.std.specs.Prelude.{ℕ, cond, not, ◌&&◌, ◌==◌, List}
use Rattle.event.specs.declared.id.UniqueId.{UniqueId}
use Rattle.event.specs.Delays.{tenths_in_ticks}
use Rattle.carrier.specs.Carriers.{Line, takes}
use Rattle.protocol.specs.Endpoint.{Endpoint, Turn, message_of, send, fail}

-- an attempt with a retry count; failure if its put is not taken and none would follow
abbrev pub attempted : List UniqueId → (retries : ℕ) → Line → Endpoint → Turn
attempted sources retries line e =
    cond (not (takes line (message_of sources retries e)) && tenths_in_ticks e.retry == 0)
    (fail (message_of sources retries e) line e)
    (send sources retries line e)
