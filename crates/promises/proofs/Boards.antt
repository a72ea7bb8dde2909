-- Boards by place: their unique IDs, and what a set leaves. Assumes nothing.
use Rattle.std.proofs.Common.{◌≡◌, ℕ, true, false, Some as some, None as none, Option, ap, ◌∙◌}
use Rattle.event.specs.declared.id.UniqueId.{UniqueId}
use Rattle.event.specs.Bytes.{Bytes}
use Rattle.event.specs.Sources.{Occurrence, occurrence, lawful_reading, ids}
use Rattle.board.specs.Boards.{Sources, at, lawful_if, takes, reread, after_set}
use Rattle.board.proofs.Rereads.{at_source, at_reread_same, after_taken, after_refused}

-- the reading that was set
pub reread_hit : (b : Sources) (p : ℕ) (u : UniqueId) (r : Bytes) → at (ids b) p ≡ some u → at (reread b p r) p ≡ some (occurrence u r)
reread_hit b p u r here = let s = at_source b p u here in at_reread_same b p r s.0 s.1 ∙ ap {B = Option Occurrence} (λ v. some (occurrence v r)) s.2

-- a set that is taken
pub set_taken : (b : Sources) (p : ℕ) (u : UniqueId) (r : Bytes) → at (ids b) p ≡ some u → lawful_reading u.identifier r ≡ true → after_set b p r ≡ reread b p r
unfolding takes
set_taken b p u r here allowed = after_taken b p r (ap (λ o. lawful_if o r) here ∙ allowed)

-- one whose reading is not lawful
pub set_unlawful : (b : Sources) (p : ℕ) (u : UniqueId) (r : Bytes) → at (ids b) p ≡ some u → lawful_reading u.identifier r ≡ false → after_set b p r ≡ b
unfolding takes
set_unlawful b p u r here refused = after_refused b p r (ap (λ o. lawful_if o r) here ∙ refused)

-- one at a place that the board does not have
pub set_past : (b : Sources) (p : ℕ) (r : Bytes) → at (ids b) p ≡ none → after_set b p r ≡ b
unfolding takes
set_past b p r here = after_refused b p r (ap (λ o. lawful_if o r) here)
