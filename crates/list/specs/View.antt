-- What the values of the reader stand for. Assumes nothing.
use Rattle.std.specs.Prelude.{◌≡◌, List, [], ◌∷◌, Some, None, Option, Ok, Err, Result}
use Rattle.event.specs.Sources.{Occurrence}
use Rattle.event.specs.View.{occurrence_of}
use Rattle.event.specs.declared.occurrence.Occurrence.{Occurrence as Event}
use Rattle.list.specs.Lists.{Told, these, overflow, fronts, Listing, listing}
use Rattle.list.specs.declared.types.Occurrences.{Occurrences}
use Rattle.list.specs.declared.types.Overflow.{Overflow}
use Rattle.list.specs.declared.types.ListRead.{ListRead}

-- the occurrences that are left
abbrev pub left : Occurrences → List Occurrence
left l = fronts l.number l.rest.now

-- what a list tells
abbrev pub told_by : Result Occurrences Overflow → Told
told_by (Ok l) = these (left l)
told_by (Err e) = overflow

-- a list as it is read
abbrev pub listing_of : ListRead → Listing
listing_of l = listing l.transmission (told_by l.list)

-- a list as it is read, if the bytes are one
abbrev pub listing_if : Option ListRead → Option Listing
listing_if None = None
listing_if (Some l) = Some (listing_of l)

-- a call for the next occurrence hands out the first that is left, and leaves the others; or nothing is left
abbrev pub Yields : Occurrences → Option Event → Occurrences → Type 0
Yields l None after = (left l ≡ []) × (left after ≡ [])
Yields l (Some o) after = left l ≡ occurrence_of o ∷ left after
