-- A head, a list and the check word: such bytes are read back, and are the only ones. Assumes nothing.
use Rattle.std.proofs.Common.{◌≡◌, ◌-◌, ◌<◌, ◌≤◌, Bool, true, ◌&&◌, ◌++◌, length, take, drop, sym, refl, ap, ◌∙◌, append_assoc, arith, length-drop, take-append-drop, length-take}
use Rattle.std.proofs.lemmas.Bool.{and_parts, and_from}
use Rattle.std.proofs.lemmas.List.{take_at, drop_at, take-take}
use Rattle.crc.specs.Crc.{crc32c}
use Rattle.event.specs.Bytes.{Bytes, le32, same_bytes}
use Rattle.event.proofs.SameBytes.{same_refl, same_is}
use Rattle.wire.specs.Checks.{checked, unchecked, is_checked}
use Rattle.wire.proofs.Buffers.{length-checked}

-- without its check word a message is what it was
pub unchecked_of : (m : Bytes) → unchecked (checked m) ≡ m
unfolding unchecked checked
unchecked_of m = take_at m (le32 (crc32c m)) (length (checked m) - 4) (omega (arith, length-checked m))

-- its check word is right
pub checked-is : (m : Bytes) → is_checked (checked m) ≡ true
unfolding is_checked
checked-is m = ap (λ (l : Bytes). same_bytes (checked m) (checked l)) (unchecked_of m) ∙ same_refl (checked m)

-- begins with the head, and its check word is right
abbrev pub framed : (head bytes : Bytes) → Bool
framed head bytes = same_bytes (take (length head) bytes) head && is_checked bytes

pub head_of : (head m : Bytes) → take (length head) (checked (head ++ m)) ≡ head
unfolding checked
head_of head m = ap (take (length head)) (append_assoc head m (le32 (crc32c (head ++ m)))) ∙ take_at head _ _ refl

pub frame_back : (head m : Bytes) → framed head (checked (head ++ m)) ≡ true
frame_back head m = and_from _ _ (ap (λ (l : Bytes). same_bytes l head) (head_of head m) ∙ same_refl head) (checked-is (head ++ m))

pub list_back : (head m : Bytes) → drop (length head) (unchecked (checked (head ++ m))) ≡ m
list_back head m = ap (drop (length head)) (unchecked_of (head ++ m)) ∙ drop_at head m _ refl

-- bytes in such a frame are these
pub frame_only : (head bytes l : Bytes) → framed head bytes ≡ true → drop (length head) (unchecked bytes) ≡ l → 0 < length l → bytes ≡ checked (head ++ l)
unfolding is_checked unchecked
frame_only head bytes l e f h =
    let k = length head in
    let n = length bytes - 4 in
    let both = and_parts (same_bytes (take k bytes) head) (is_checked bytes) e in
    let inside : k ≤ n = omega (arith, ap length f, length-drop k (take n bytes), length-take n bytes) in
    let front : take k (take n bytes) ≡ head = take-take k n bytes inside ∙ same_is (take k bytes) head both.0 in
    same_is bytes (checked (unchecked bytes)) both.1 ∙ ap checked (sym (take-append-drop k (unchecked bytes)) ∙ (λ i. front i ++ f i))
