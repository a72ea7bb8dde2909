-- One write after another. Assumes nothing.
use Rattle.std.proofs.Common.{◌≡◌, ℕ, ◌+◌, ◌≤◌, List, [], ◌++◌, length, drop, sym, refl, ap, ◌∙◌, add-zero, zero-add, arith, length-append, length-drop, take-append-drop, length-take}
use borrow.Rule.Slice.PartMut.{put_mid}
use lib.Seq.{paste}
use Rattle.std.proofs.lemmas.Slice.{put_mid-paste}
use Rattle.std.proofs.lemmas.List.Edits.{paste_all, paste-paste}
use Rattle.event.specs.Bytes.{placed}
use Rattle.event.specs.Outcomes.{over_front}

pub placed_paste : (d : List ℕ) (at : ℕ) (s : List ℕ) → placed d at s ≡ paste d at s (length s)
unfolding placed
placed_paste d at s = sym (paste_all d at s (length s) refl)

-- what is written at the start stands in front
pub placed-front : (d s : List ℕ) → placed d 0 s ≡ over_front s d
unfolding placed
placed-front d s = ap (λ (n : ℕ). s ++ drop n d) (zero-add (length s))

-- what a copy into d[at..end] leaves
pub placed_copy : (d : List ℕ) (at k : ℕ) (ys s : List ℕ) → ys ≡ s → k ≡ length s → put_mid at k d ys ≡ placed d at s
placed_copy d at k ys s e n = put_mid-paste at k d ys s (length s) e (sym n) refl ∙ sym (placed_paste d at s)

pub placed-placed : (d : List ℕ) (at : ℕ) (s t : List ℕ) → at ≤ length d → placed (placed d at s) (at + length s) t ≡ placed d at (s ++ t)
placed-placed d at s t h =
    placed_paste (placed d at s) (at + length s) t
    ∙ ap (λ (l : List ℕ). paste l (at + length s) t (length t)) (placed_paste d at s)
    ∙ paste-paste d at s t (length s) (length t) refl refl h
    ∙ ap (paste d at (s ++ t)) (sym (length-append s t))
    ∙ sym (placed_paste d at (s ++ t))

-- one part more behind what stands in front
pub one_more : (d s t : List ℕ) (at : ℕ) → at ≡ length s → placed (over_front s d) at t ≡ over_front (s ++ t) d
one_more d s t at e =
    let k : at ≡ 0 + length s = omega arith in
    ap (λ (l : List ℕ). placed l at t) (sym (placed-front d s))
    ∙ ap (λ (m : ℕ). placed (placed d 0 s) m t) k
    ∙ placed-placed d 0 s t (omega arith)
    ∙ placed-front d (s ++ t)

pub placed-none : (d : List ℕ) (at : ℕ) → placed d at [] ≡ d
unfolding placed
placed-none d at = rw add-zero (take-append-drop at d)

pub length-placed : (d : List ℕ) (at : ℕ) (s : List ℕ) → at + length s ≤ length d → length (placed d at s) ≡ length d
unfolding placed
length-placed d at s h = simp (length-append, length-take, length-drop) (omega arith)
