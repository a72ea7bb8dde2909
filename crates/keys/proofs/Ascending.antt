-- In a row of keys each of which is less than the next, no key stands twice. Assumes nothing.
use Rattle.std.proofs.Common.{◌≡◌, ℕ, ◌+◌, ◌<◌, Bool, true, false, List, [], ◌∷◌, length, slice_index_or, sym, refl, ap, ◌∙◌, subst}
use Rattle.std.proofs.lemmas.Map.Keys.{Less-from_sorted, sorted_from_all_adjacent}
use Rattle.std.specs.Cmp.{IsTotalOrder}
use Rattle.std.specs.Ordering.{is_eq, is_lt, ordering_reverse}
use Rattle.std.specs.declared.cmp.Ordering.{Ordering}
use Rattle.std.specs.declared.cmp.Ordering.TheVariants.{Less, Equal, Greater}
use Rattle.keys.specs.Keys.{Test, twice}
use Rattle.keys.proofs.Rows.{apart_once}

-- the test for "less"
pub less : (r : Ordering) → is_lt r ≡ true → r ≡ Less
less Less e = refl
less Equal e = cc
less Greater e = cc

-- an order in which two keys are equal exactly if they are the same, which is reversed where the keys are exchanged,
-- and in which "less" chains, is total
pub total : {K : Type 0} (R : K → K → Ordering) → Test (λ x y. is_eq (R x y)) → ((x y : K) → R y x ≡ ordering_reverse (R x y)) → ((x y z : K) → R x y ≡ Less → R y z ≡ Less → R x z ≡ Less) → IsTotalOrder R
total R same turned chain = record {
  antisymm = λ x y. turned y x;
  trans = chain;
  congr = λ x y z e. ap (λ w. R w z) ((same x y).0 (ap is_eq e));
}

-- in a row each key of which is less than the next, no key stands twice
pub ascends_apart : {K : Type 0} {R : K → K → Ordering} → IsTotalOrder R → (same : K → K → Bool) → Test same → (ks : List K) → ((i : ℕ) (d : K) → i + 1 < length ks → R (slice_index_or ks i d) (slice_index_or ks (i + 1) d) ≡ Less) → twice same ks ≡ false
unfolding twice
ascends_apart o same test [] next = refl
ascends_apart {R} o same test (k ∷ ks) next =
    let sorted = sorted_from_all_adjacent o (k ∷ ks) k (λ i l. next i k l) in
    apart_once same test (k ∷ ks)
    (λ j m i l d e. let x = slice_index_or (k ∷ ks) i d in
    let below : R x x ≡ Less = subst (λ y. R x y ≡ Less) (sym e) (Less-from_sorted R (k ∷ ks) i j d sorted l m) in
    cc (sym below ∙ o.antisymm x x ∙ ap ordering_reverse below))
