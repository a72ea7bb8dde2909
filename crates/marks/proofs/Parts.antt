-- A write to the front of a part of a buffer. Assumes nothing.
use Rattle.std.proofs.Common.{◌≡◌, ℕ, ◌+◌, ◌-◌, [], ◌++◌, length, take, drop, ap, ◌∙◌, arith, length-drop}
use borrow.Rule.Slice.PartMut.{put_mid}
use Rattle.std.proofs.lemmas.List.{take_rest, drop-drop, drop_all, append-nil}
use Rattle.event.specs.Bytes.{Bytes, placed}

-- nothing is left past the part from a on
no_rest : (a : ℕ) (xs : Bytes) → drop (length xs - a) (drop a xs) ≡ []
no_rest a xs = drop-drop (length xs - a) a xs ∙ drop_all (a + (length xs - a)) xs (omega arith)

-- a write to the front of the part of a buffer from a on
pub part_placed : (a : ℕ) (xs s : Bytes) → put_mid a (length xs - a) xs (placed (take (length xs - a) (drop a xs)) 0 s) ≡ placed xs a s
unfolding placed
part_placed a xs s =
    ap (λ (z : Bytes). take a xs ++ ((s ++ drop (0 + length s) (take (length xs - a) (drop a xs))) ++ z)) (no_rest a xs)
    ∙ ap (λ (z : Bytes). take a xs ++ z) (append-nil (s ++ drop (0 + length s) (take (length xs - a) (drop a xs))))
    ∙ ap (λ (z : Bytes). take a xs ++ (s ++ drop (0 + length s) z)) (take_rest xs a)
    ∙ ap (λ (z : Bytes). take a xs ++ (s ++ z)) (drop-drop (0 + length s) a xs)
    ∙ ap (λ (n : ℕ). take a xs ++ (s ++ drop n xs)) (omega arith)

-- such a part is as long as the rest
pub length-part : (a : ℕ) (xs : Bytes) → length (take (length xs - a) (drop a xs)) ≡ length xs - a
length-part a xs = ap length (take_rest xs a) ∙ length-drop a xs
