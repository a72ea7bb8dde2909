-- Whether a key is among those of a row, as a search tells, and whether one stands there twice, by its places. Assumes
-- nothing.
use Rattle.std.proofs.Common.{◌≡◌, ◌≢◌, ℕ, zero, suc, ◌<◌, Bool, true, false, eqb, List, [], ◌∷◌, length, slice_index_or, is_some, Option, Some, None, Decides, sym, refl, ⊎_elim, arith}
use Rattle.std.proofs.lemmas.Bool.{cases_Bool, false_from_ne_true, or_from, or_left, or_right}
use Rattle.std.proofs.lemmas.Bool.Decides.{Decides-eqb, Decides-by_or}
use Rattle.std.specs.List.{HoldsAt}
use Rattle.keys.specs.Keys.{Test, Sought, among, twice}

-- numbers are told apart by `eqb`
pub number_test : Test eqb
number_test = Decides-eqb

-- a key is among those of a row exactly if it stands at a place of it
pub among_stands : {K : Type 0} (same : K → K → Bool) → Test same → (keys : List K) (key : K) → Decides (among same key keys) ((k : ℕ) × (k < length keys) × HoldsAt (λ x. key ≡ x) keys k)
unfolding among
among_stands same test keys key =
    Decides-by_or (same key) (λ x. key ≡ x) (among same key) (test key) refl (λ _ _. refl) keys

-- a search finds a place exactly if the key is among those of the row
pub sought_among : {K : Type 0} (same : K → K → Bool) → Test same → (keys : List K) (key : K) (r : Option ℕ) → Sought keys key r → among same key keys ≡ is_some r
sought_among same test keys key None nowhere =
    ⊎_elim
    (λ e. let s = (among_stands same test keys key).0 e in absurd (nowhere s.0 key s.1 (sym (s.2 key))))
    (λ e. e)
    (cases_Bool (among same key keys))
sought_among same test keys key (Some place) first =
    (among_stands same test keys key).1 (place, first.inside, λ d. sym (first.here d))

-- if no two places of a row have one key, no key stands there twice
pub apart_once : {K : Type 0} (same : K → K → Bool) → Test same → (keys : List K) → ((k : ℕ) → k < length keys → (j : ℕ) → j < k → (d : K) → slice_index_or keys j d ≢ slice_index_or keys k d) → twice same keys ≡ false
unfolding twice
apart_once same test [] apart = refl
apart_once same test (key ∷ keys) apart =
    or_from _ _
    (false_from_ne_true (among same key keys) (λ e. let s = (among_stands same test keys key).0 e in apart (suc s.0) (omega (arith, s.1)) 0 (omega arith) key (s.2 key)))
    (apart_once same test keys (λ k m j l d. apart (suc k) (omega arith) (suc j) (omega arith) d))

-- if two places of a row have one key, it stands there twice
pub places_twice : {K : Type 0} (same : K → K → Bool) → Test same → (keys : List K) (j k : ℕ) → j < k → k < length keys → ((d : K) → slice_index_or keys j d ≡ slice_index_or keys k d) → twice same keys ≡ true
unfolding twice
places_twice same test [] j k l m e = absurd (omega arith)
places_twice same test (key ∷ keys) j zero l m e = absurd (omega arith)
places_twice same test (key ∷ keys) zero (suc k) l m e =
    or_left _ _ ((among_stands same test keys key).1 (k, omega arith, e))
places_twice same test (key ∷ keys) (suc j) (suc k) l m e =
    or_right _ _ (places_twice same test keys j k (omega arith) (omega arith) e)
