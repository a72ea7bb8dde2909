-- What the values of the book's code stand for. Assumes nothing.
use Rattle.std.specs.Prelude.{ℕ, Some, None, Ok, Err, Option, Result}
use Rattle.event.specs.declared.refusal.Refusal.{Refusal}
use Rattle.event.specs.declared.occurrence.Occurrence.{Occurrence as Told}
use Rattle.event.specs.Sources.{Occurrence}
use Rattle.event.specs.View.{occurrence_of}
use Rattle.wire.specs.declared.types.Kind.{Kind}
use Rattle.book.specs.declared.parts.Receipt.{Receipt}

-- a count of bytes and a receipt, which is told by its kind; or a refusal
abbrev pub handed : Result (ℕ × Receipt) Refusal → Result (ℕ × Kind) Refusal
handed (Ok w) = Ok (w.0, w.1.kind)
handed (Err r) = Err r

-- an occurrence, if there is one
abbrev pub occurrence_if : Option Told → Option Occurrence
occurrence_if None = None
occurrence_if (Some o) = Some (occurrence_of o)
