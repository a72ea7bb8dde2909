-- What a board means: an ordered list of sources, each with its present reading. Assumes nothing.
use Rattle.std.specs.Prelude.{ℕ, zero, suc, Bool, true, false, cond, not, ◌&&◌, List, [], ◌∷◌, length, Some, None, Option}
use Rattle.keys.specs.Keys.{twice}
use Rattle.event.specs.declared.id.UniqueId.{UniqueId}
use Rattle.event.specs.Bytes.{Bytes, within}
use Rattle.event.specs.Sources.{Occurrence, occurrence, same_id, lawful_reading, all_lawful, ids}

-- what a board tells: its sources in their order, each with its present reading
abbrev pub Sources : Type 0
Sources = List Occurrence

-- what stands at a place, counted from 0
unfoldable pub at : {A : Type 0} → List A → (place : ℕ) → Option A
at [] place = None
at (x ∷ xs) zero = Some x
at (x ∷ xs) (suc place) = at xs place

-- the reading of a source
abbrev pub reading_of : Option Occurrence → Option Bytes
reading_of None = None
reading_of (Some s) = Some s.reading

-- the boards that there may be: 1 to 64 sources, all lawful, no unique ID twice
unfoldable pub lawful_board : Sources → Bool
lawful_board told = within 1 64 (length told) && (all_lawful told && not (twice same_id (ids told)))

-- may this source have the reading?
abbrev pub lawful_if : Option UniqueId → Bytes → Bool
lawful_if None reading = false
lawful_if (Some id) reading = lawful_reading id.identifier reading

-- is a set taken: is the place below the count, and the reading lawful there?
unfoldable pub takes : Sources → (place : ℕ) → Bytes → Bool
takes told place reading = lawful_if (at (ids told) place) reading

-- the sources with another reading at the place
unfoldable pub reread : Sources → (place : ℕ) → Bytes → Sources
reread [] place reading = []
reread (s ∷ ss) zero reading = occurrence s.id reading ∷ ss
reread (s ∷ ss) (suc place) reading = s ∷ reread ss place reading

-- the board after a set: that reading alone changes, or nothing
unfoldable pub after_set : Sources → (place : ℕ) → Bytes → Sources
after_set told place reading = cond (takes told place reading) (reread told place reading) told
