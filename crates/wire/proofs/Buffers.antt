-- What a buffer holds after the parts of a message were written one after the other. Assumes nothing.
use Rattle.std.proofs.Common.{◌≡◌, ℕ, ◌+◌, ◌-◌, Bool, true, false, cond, leb, [], ◌∷◌, ◌++◌, length, take, drop, Some, None, Option, Result, sym, ap, ◌∙◌}
use borrow.Rule.Slice.PartMut.{put_mid}
use Rattle.std.specs.Option.{ok_or}
use Rattle.std.proofs.lemmas.List.{take_at, length-append}
use Rattle.crc.specs.Crc.{crc32c}
use Rattle.event.specs.Bytes.{Bytes, placed, le32}
use Rattle.event.specs.declared.refusal.Refusal.{Refusal}
use Rattle.event.specs.Refusals.{ask, first_no}
use Rattle.event.specs.Outcomes.{over_front, Gives, unless}
use Rattle.event.proofs.Placed.{placed-front, one_more}
use Rattle.marks.specs.Written.{Written}
use Rattle.marks.proofs.Parts.{part_placed}
use Rattle.wire.specs.Checks.{checked}

-- the front of what was written
pub front_of : (d s : Bytes) (n : ℕ) → n ≡ length s → take n (over_front s d) ≡ s
front_of d s n e = take_at s (drop (length s) d) n (sym e)

-- the check word behind what was written
pub with_check : (d s : Bytes) (end : ℕ) → end ≡ length s → placed (over_front s d) end (le32 (crc32c (take end (over_front s d)))) ≡ over_front (checked s) d
unfolding checked
with_check d s end e = ap (λ (l : Bytes). placed (over_front s d) end (le32 (crc32c l))) (front_of d s end e) ∙ one_more d s (le32 (crc32c s)) end e

-- it has four bytes
pub length-checked : (s : Bytes) → length (checked s) ≡ length s + 4
unfolding checked
length-checked s = length-append s (le32 (crc32c s))

-- a head, then a list to the front of what follows it, then the check word
pub message-written : (d head l : Bytes) (one part three : Bytes) (a end : ℕ) → a ≡ length head → one ≡ placed d 0 head
    → part ≡ placed (take (length one - a) (drop a one)) 0 l → end ≡ length (head ++ l)
    → (let two = put_mid a (length one - a) one part in three ≡ placed two end (le32 (crc32c (take end two))))
    → three ≡ over_front (checked (head ++ l)) d
message-written d head l one part three a end e f g h w =
    let two = put_mid a (length one - a) one part in
    let both : two ≡ over_front (head ++ l) d =
    ap (put_mid a (length one - a) one) g ∙ part_placed a one l ∙ ap (λ (b : Bytes). placed b a l) (f ∙ placed-front d head) ∙ one_more d head l a e in
    w ∙ ap (λ (b : Bytes). placed b end (le32 (crc32c (take end b)))) both ∙ with_check d (head ++ l) end h

-- a call that wrote so hands back the message and its length, or the refusal
pub written_gives : (room : ℕ) (short : Refusal) (m before after : Bytes) (answer : Option ℕ) (r : Result ℕ Refusal) → Written room m before after answer → r ≡ ok_or answer short
    → Gives (unless (first_no (ask (leb room (length before)) short ∷ [])) m) before after r
written_gives room short m before after answer r w e = go (leb room (length before)) (e ∙ ap (λ (o : Option ℕ). ok_or o short) w.number) w.buffer
  where
    go : (b : Bool) → r ≡ ok_or (cond b (Some (length m)) None) short → after ≡ cond b (placed before 0 m) before → Gives (unless (cond b None (Some short)) m) before after r
    go true e w = record { result = e; buffer = w ∙ placed-front before m }
    go false e w = record { result = e; buffer = w }
