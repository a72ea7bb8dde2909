-- Which changes of a board are refused. Assumes nothing.
use Rattle.std.proofs.Common.{◌≡◌, ℕ, ◌<◌, ◌≤◌, true, false, cond, ltb, length, Some, None, refl, arith}
use Rattle.std.proofs.lemmas.Bool.Decides.{nat_tests}
use Rattle.event.specs.Bytes.{Bytes}
use Rattle.event.specs.Sources.{Occurrence, lawful_reading}
use Rattle.event.specs.declared.refusal.Refusal.TheVariants.{NoSuchPlace, UnlawfulReading}
use Rattle.board.specs.Boards.{Sources, at, takes}
use Rattle.board.specs.Changes.{change_refusal}
use Rattle.board.proofs.Rereads.{takes_at, at-inside}

-- there is no source at a place past the last one
pub change_past : (told : Sources) (place : ℕ) (r : Bytes) → length told ≤ place → change_refusal told place r ≡ Some NoSuchPlace
unfolding change_refusal
change_past told place r h = let e : ltb place (length told) ≡ false = grind (arith, nat_tests) in rw e refl

-- below the count a change is refused unless the set is taken
pub change-below : (told : Sources) (place : ℕ) (r : Bytes) → place < length told → change_refusal told place r ≡ cond (takes told place r) None (Some UnlawfulReading)
unfolding change_refusal
change-below told place r h = let e : ltb place (length told) ≡ true = grind (arith, nat_tests) in rw e refl

-- at a source it is refused unless the source may have the reading
pub change-at : (told : Sources) (place : ℕ) (r : Bytes) (s : Occurrence) → at told place ≡ Some s → change_refusal told place r ≡ cond (lawful_reading s.id.identifier r) None (Some UnlawfulReading)
change-at told place r s e = rw (change-below told place r (at-inside told place s e)) (rw (takes_at told place r s e) refl)
