-- A set differs from the empty one exactly if one of its words is not 0.
use Rattle.std.proofs.Common.{◌≡◌, ℕ, zero, suc, Bool, true, false, not, ◌&&◌, ◌||◌, eqb, [], ◌∷◌, length, replicate, refl, ap, ◌∙◌, arith}
use Rattle.std.specs.Cmp.Lexicographic.{pointwise}
use Rattle.event.specs.Identifiers.{Words, any}
use Rattle.event.proofs.enabled.any.Goals as goal

not_both : (a b : Bool) → not (a && b) ≡ (not a || not b)
not_both true b = refl
not_both false b = refl

not_nothing : (n : ℕ) (words : Words) → length words ≡ n → not (pointwise eqb words (replicate n 0)) ≡ any words
not_nothing zero [] e = refl
not_nothing zero (w ∷ ws) e = absurd (omega arith)
not_nothing (suc n) [] e = absurd (omega arith)
not_nothing (suc n) (w ∷ ws) e =
    not_both (eqb w 0) (pointwise eqb ws (replicate n 0)) ∙ ap (λ b. not (eqb w 0) || b) (not_nothing n ws (omega arith))

pub returns : goal.returns
returns c = let words = not_nothing 4 c.args.set (omega arith) in cc
