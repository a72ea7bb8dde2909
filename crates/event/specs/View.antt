-- What the values of the code stand for. Assumes nothing.
use Rattle.std.specs.Prelude.{take, Some, None, Option}
use Rattle.event.specs.Bytes.{Bytes}
use Rattle.event.specs.Sources.{Occurrence}
use Rattle.event.specs.declared.reading.Reading.{Reading}
use Rattle.event.specs.declared.occurrence.Occurrence.{Occurrence as Told}

-- the bytes of a reading
abbrev pub held : Reading → Bytes
held r = take r.len r.bytes

-- the bytes of a reading, if there is one
abbrev pub held_if : Option Reading → Option Bytes
held_if None = None
held_if (Some r) = Some (held r)

-- an occurrence, with its reading as bytes
abbrev pub occurrence_of : Told → Occurrence
occurrence_of o = record { id = o.id; reading = held o.reading }
