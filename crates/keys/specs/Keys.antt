-- What a search for a key in a row finds, and whether a row has a key twice. Assumes nothing.
use Rattle.std.specs.Prelude.{◌≡◌, ℕ, ◌<◌, Bool, false, ◌||◌, List, [], ◌∷◌, length, Some, None, Decides, Option, ◌≢◌, slice_index_or}

-- the key stands at the place, and nowhere before it
pub record First {K : Type 0} (keys : List K) (key : K) (place : ℕ) : Type 0 where
  pub inside : place < length keys
  pub here : (d : K) → slice_index_or keys place d ≡ key
  pub before : (k : ℕ) (d : K) → k < place → slice_index_or keys k d ≢ key

-- the key stands nowhere
abbrev pub Nowhere : {K : Type 0} → List K → K → Type 0
Nowhere {K} keys key = (k : ℕ) (d : K) → k < length keys → slice_index_or keys k d ≢ key

-- what a search answers: the first place of the key, or none where it stands nowhere
abbrev pub Sought : {K : Type 0} → List K → K → Option ℕ → Type 0
Sought keys key None = Nowhere keys key
Sought keys key (Some place) = First keys key place

-- a test that tells keys apart: it answers whether two keys are equal
abbrev pub Test : {K : Type 0} → (K → K → Bool) → Type 0
Test {K} same = (x y : K) → Decides (same x y) (x ≡ y)

-- is the key among these?
unfoldable pub among : {K : Type 0} → (K → K → Bool) → K → List K → Bool
among same key [] = false
among same key (k ∷ ks) = same key k || among same key ks

-- does a key stand in the row twice?
unfoldable pub twice : {K : Type 0} → (K → K → Bool) → List K → Bool
twice same [] = false
twice same (k ∷ ks) = among same k ks || twice same ks
