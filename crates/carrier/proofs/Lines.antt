-- What the calls of a carrier leave and give. Assumes nothing.
use Rattle.std.proofs.Common.{◌≡◌, ℕ, ◌-◌, ◌<◌, ◌≤◌, Bool, true, false, cond, leb, [], ◌∷◌, length, take, Some, None, Ok, Option, refl, ap, ◌∙◌, arith, le-leb, leb-true}
use borrow.Rule.Slice.PartMut.{put_mid}
use Rattle.std.proofs.lemmas.Bool.{and_from, and_parts, cond-true}
use Rattle.std.proofs.lemmas.List.{take_at}
use Rattle.event.specs.Bytes.{Bytes}
use Rattle.event.specs.Outcomes.{refusal}
use Rattle.event.specs.declared.refusal.Refusal.TheVariants.{MessageBufferShort}
use Rattle.carrier.specs.Carriers.{Message, Line, message_to, linked, message_fits, takes, after_put, lying_fits, lies, fetched, kept}

-- a message of 1 to 4,224 bytes fits
pub fits : (bytes : Bytes) → 0 < length bytes → length bytes ≤ 4224 → message_fits bytes ≡ true
fits bytes l h = and_from (leb 1 (length bytes)) (leb (length bytes) 4224) (le-leb 1 (length bytes) (omega arith)) (le-leb (length bytes) 4224 h)

-- a message that fits has 1 to 4,224 bytes
pub fits_length : (bytes : Bytes) → message_fits bytes ≡ true → (0 < length bytes) × (length bytes ≤ 4224)
fits_length bytes e =
    let both = and_parts (leb 1 (length bytes)) (leb (length bytes) 4224) e in
    (omega (arith, leb-true 1 (length bytes) both.0), leb-true (length bytes) 4224 both.1)

-- a put that is taken
pub put_taken : (line : Line) (destination : ℕ) (bytes : Bytes) → takes line bytes ≡ true → after_put line destination bytes ≡ linked line.link (Some (message_to destination bytes))
put_taken line destination bytes e = cond-true (takes line bytes) (linked line.link (Some (message_to destination bytes))) line e

-- what is copied lies there, and there was room for it
counted : (roomy : Bool) (lying : Option Message) (n : ℕ) → lying_fits lying ≡ true → (cond roomy (lies lying) (refusal MessageBufferShort)).result ≡ Ok n → (roomy ≡ true) × (0 < n) × (n ≤ 4224)
counted false lying n f e = absurd (cc)
counted true None n f e = absurd (cc)
counted true (Some m) n f e = let l : length m.bytes ≡ n = cc in let h = fits_length m.bytes f in (refl, omega arith, omega arith)

-- a fetch that counts bytes had room for them: 1 to 4,224, in a buffer of at least so many
pub fetched-length : (lying : Option Message) (room n : ℕ) → lying_fits lying ≡ true → (fetched room lying).result ≡ Ok n → (0 < n) × (n ≤ 4224) × (4224 ≤ room)
fetched-length lying room n f e = let h = counted (leb 4224 room) lying n f e in (h.1, h.2, leb-true 4224 room h.0)

-- a fetch with room enough
pub fetched_room : (room : ℕ) (lying : Option Message) → 4224 ≤ room → fetched room lying ≡ lies lying
fetched_room room lying h = rw (le-leb 4224 room h)

-- bytes that are kept are a message
pub kept_some : (destination : ℕ) (bytes : Bytes) → 0 < length bytes → kept destination bytes ≡ Some (message_to destination bytes)
kept_some destination [] h = absurd (omega arith)
kept_some destination (b ∷ bs) h = refl

-- the row after a message was copied to its start
pub kept_copy : (destination : ℕ) (row ys bytes : Bytes) → 0 < length bytes → ys ≡ bytes → kept destination (take (length bytes) (put_mid 0 (length bytes - 0) row ys)) ≡ Some (message_to destination bytes)
kept_copy destination row ys bytes h e = ap (kept destination) (take_at ys _ (length bytes) (ap length e) ∙ e) ∙ kept_some destination bytes h
