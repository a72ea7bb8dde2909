-- A fold over the parts of n elements of a list, and over what is left, is the fold over the list. Assumes nothing.
use Rattle.std.proofs.Common.{◌≡◌, ℕ, zero, suc, ◌*◌, List, [], ◌∷◌, take, drop, fold, refl, ◌∙◌, suc-mul, add_comm, zero-mul}
use Rattle.std.specs.Simd.{first_chunks}
use Rattle.std.proofs.lemmas.List.{drop-drop}

folded_parts : {X Y : Type 0} (f : Y → X → Y) (n : ℕ) (a : Y) (xs : List X) → fold f (fold f a (take n xs)) (drop n xs) ≡ fold f a xs
folded_parts f zero a xs = refl
folded_parts f (suc n) a [] = refl
folded_parts f (suc n) a (x ∷ xs) = folded_parts f n (f a x) xs

pub folded_chunked : {X Y : Type 0} (f : Y → X → Y) (n k : ℕ) (a : Y) (xs : List X) →
    fold f (fold (fold f) a (first_chunks n k xs)) (drop (k * n) xs) ≡ fold f a xs
folded_chunked f n zero a xs = rw zero-mul
folded_chunked f n (suc k) a xs =
    let part = folded_chunked f n k (fold f a (take n xs)) (drop n xs) in
    let rest = drop-drop (k * n) n xs in
    let whole = folded_parts f n a xs in
    let more = suc-mul k n ∙ add_comm (k * n) n in
    cc
