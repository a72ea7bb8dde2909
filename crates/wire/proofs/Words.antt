-- The check word at the end of a message. Assumes nothing.
use Rattle.std.proofs.Common.{◌≡◌, ◌-◌, ◌<◌, Bool, false, ◌&&◌, eqb, [], ◌∷◌, ◌++◌, length, take, drop, sym, refl, ap, ◌∙◌, arith, length-append, take-append-drop}
use Rattle.std.specs.Cmp.Lexicographic.{pointwise}
use Rattle.std.proofs.lemmas.Bool.{eq-eqb}
use Rattle.crc.specs.Crc.{crc32c}
use Rattle.event.specs.Bytes.{Bytes, le32, same_bytes}
use Rattle.event.proofs.SameBytes.{same_length}
use Rattle.wire.specs.Checks.{checked, unchecked, is_checked}

-- the library's test is this one
pub pointwise-same : (a b : Bytes) → pointwise eqb a b ≡ same_bytes a b
pointwise-same [] [] = refl
pointwise-same [] (y ∷ ys) = refl
pointwise-same (x ∷ xs) [] = refl
pointwise-same (x ∷ xs) (y ∷ ys) = ap (λ (b : Bool). eqb x y && b) (pointwise-same xs ys)

-- bytes with one front are the same if the rest is
same_behind : (front a b : Bytes) → same_bytes (front ++ a) (front ++ b) ≡ same_bytes a b
same_behind [] a b = refl
same_behind (x ∷ front) a b = ap (λ (v : Bool). v && same_bytes (front ++ a) (front ++ b)) (eq-eqb x x refl) ∙ same_behind front a b

-- the check word is right if the last four bytes are the CRC of what is before
pub ends_checked : (s : Bytes) → let n = length s - 4 in pointwise eqb (drop n s) (le32 (crc32c (take n s))) ≡ is_checked s
unfolding is_checked checked unchecked
ends_checked s =
    let n = length s - 4 in
    let word = le32 (crc32c (take n s)) in
    pointwise-same (drop n s) word
    ∙ sym (same_behind (take n s) (drop n s) word)
    ∙ ap (λ (l : Bytes). same_bytes l (take n s ++ word)) (take-append-drop n s)

-- a message without room for a check word has none
pub too_short : (s : Bytes) → length s < 4 → is_checked s ≡ false
unfolding is_checked checked
too_short s h =
    same_length s (unchecked s ++ le32 (crc32c (unchecked s)))
    (λ e. let l = length-append (unchecked s) (le32 (crc32c (unchecked s))) in absurd (omega arith))
