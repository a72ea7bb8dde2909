-- What is found in merged lists of occurrences. Assumes nothing.
use Rattle.std.proofs.Common.{◌≡◌, ℕ, zero, suc, Bool, true, false, cond, ◌⊎◌, List, [], ◌∷◌, Some as some, None as none, Option, sym, refl, ap, ◌∙◌, inl, inr}
use mathlib.Core.Bool.{false≢true}
use Rattle.std.proofs.lemmas.Option.{none-some, same_Some}
use Rattle.event.specs.declared.id.UniqueId.{UniqueId}
use Rattle.event.specs.Bytes.{Bytes}
use Rattle.event.specs.Sources.{Occurrence, occurrence, same_id}
use Rattle.event.proofs.SameId.{same_id_test}
use Rattle.board.specs.Boards.{at}
use Rattle.marks.specs.Marking.{Marking, listed, listed_from, occurrences}
use Rattle.protocol.specs.Book.{find, enter, merge}

-- OPTIONS AND TESTS

pub never : {A : Type 0} {B : Type 0} (a : A) → none ≡ some a → B
never a e = absurd (none-some a e)

-- UNIQUE IDS

pub same_refl : (u : UniqueId) → same_id u u ≡ true
same_refl u = (same_id_test u u).1 refl

pub same_is : (u v : UniqueId) → same_id u v ≡ true → u ≡ v
same_is u v e = (same_id_test u v).0 e

-- ENTRIES

find-enter-at : (u : UniqueId) (o e : Occurrence) (es : List Occurrence) (oe uo ue : Bool) → same_id o.id e.id ≡ oe → same_id u o.id ≡ uo → same_id u e.id ≡ ue →
    find u (enter o es) ≡ cond (same_id u o.id) (some o.reading) (find u es) →
    find u (enter o (e ∷ es)) ≡ cond (same_id u o.id) (some o.reading) (find u (e ∷ es))
unfolding find enter
find-enter-at u o e es true true ue a b c ih = rw (a, b) refl
find-enter-at u o e es true false true a b c ih =
    absurd (false≢true (sym b ∙ ap (λ v. same_id u v) (same_is o.id e.id a) ∙ c))
find-enter-at u o e es true false false a b c ih = rw (a, b, c) refl
find-enter-at u o e es false true true a b c ih =
    absurd (false≢true (sym a ∙ ap (λ v. same_id v e.id) (sym (same_is u o.id b)) ∙ c))
find-enter-at u o e es false true false a b c ih = rw (a, b, c) (ih ∙ rw b refl)
find-enter-at u o e es false false true a b c ih = rw (a, b, c) refl
find-enter-at u o e es false false false a b c ih = rw (a, b, c) (ih ∙ rw b refl)

find-enter : (u : UniqueId) (o : Occurrence) (es : List Occurrence) → find u (enter o es) ≡ cond (same_id u o.id) (some o.reading) (find u es)
unfolding find enter
find-enter u o [] = refl
find-enter u o (e ∷ es) = find-enter-at u o e es _ _ _ refl refl refl (find-enter u o es)

or_else : Option Bytes → Option Bytes → Option Bytes
or_else none d = d
or_else (some r) d = some r

-- the last reading that a list has of a source
last : UniqueId → List Occurrence → Option Bytes
last u [] = none
last u (o ∷ os) = or_else (last u os) (cond (same_id u o.id) (some o.reading) none)

or_cond : (l : Option Bytes) (b : Bool) (r : Bytes) (d : Option Bytes) → or_else l (cond b (some r) d) ≡ or_else (or_else l (cond b (some r) none)) d
unfolding or_else
or_cond none true r d = refl
or_cond none false r d = refl
or_cond (some s) b r d = refl

find-merge : (u : UniqueId) (es os : List Occurrence) → find u (merge es os) ≡ or_else (last u os) (find u es)
unfolding or_else last merge
find-merge u es [] = refl
find-merge u es (o ∷ os) = find-merge u (enter o es) os ∙ ap (or_else (last u os)) (find-enter u o es) ∙ or_cond (last u os) (same_id u o.id) o.reading (find u es)

-- LISTS TAKEN FROM THE BOARD

-- the marked sources, by marks that are counted from the first of them
unfoldable along : List UniqueId → Marking → List Occurrence
along [] m = []
along (u ∷ us) m = listed u (m zero) (along us (λ p. m (suc p)))

shifted : (k : ℕ) (us : List UniqueId) (m : Marking) → listed_from (suc k) us m ≡ listed_from k us (λ p. m (suc p))
unfolding listed_from
shifted k [] m = refl
shifted k (u ∷ us) m = ap (listed u (m (suc k))) (shifted (suc k) us m)

-- the list of a board is that
along_is : (us : List UniqueId) (m : Marking) → occurrences us m ≡ along us m
unfolding listed_from along
along_is [] m = refl
along_is (u ∷ us) m = ap (listed u (m zero)) (shifted zero us m ∙ along_is us (λ p. m (suc p)))

-- a source with a mark
abbrev pub At : List UniqueId → Marking → UniqueId → Bytes → Type 0
At us m u r = (p : ℕ) × (at us p ≡ some u) × (m p ≡ some r)

later : (v : UniqueId) (us : List UniqueId) (m : Marking) (u : UniqueId) (r : Bytes) → At us (λ p. m (suc p)) u r → At (v ∷ us) m u r
unfolding at
later v us m u r h = (suc h.0, h.1, h.2)

last_source_at : (v : UniqueId) (us : List UniqueId) (m : Marking) (u : UniqueId) (r : Bytes) (here : Option Bytes) → m zero ≡ here →
    (l : Option Bytes) → (l ≡ some r → At us (λ p. m (suc p)) u r) → last u (along us (λ p. m (suc p))) ≡ l →
    (same : Bool) → same_id u v ≡ same →
    last u (listed v here (along us (λ p. m (suc p)))) ≡ some r → At (v ∷ us) m u r
unfolding or_else last at
last_source_at v us m u r none h l ih el same es e = later v us m u r (ih (sym el ∙ e))
last_source_at v us m u r (some s) h (some t) ih el same es e = later v us m u r (ih (rw el at e))
last_source_at v us m u r (some s) h none ih el true es e =
    (zero, ap {B = Option UniqueId} some (sym (same_is u v es)), h ∙ (rw (el, es) at e))
last_source_at v us m u r (some s) h none ih el false es e = never r (rw (el, es) at e)

last_source : (us : List UniqueId) (m : Marking) (u : UniqueId) (r : Bytes) → last u (along us m) ≡ some r → At us m u r
unfolding last along
last_source [] m u r e = never r e
last_source (v ∷ us) m u r e =
    last_source_at v us m u r (m zero) refl (last u (along us (λ p. m (suc p)))) (last_source us (λ p. m (suc p)) u r) refl (same_id u v) refl e

Found : UniqueId → List Occurrence → Type 0
Found u os = (s : Bytes) × (last u os ≡ some s)

found-later : (v : UniqueId) (here : Option Bytes) (u : UniqueId) (os : List Occurrence) → Found u os → Found u (listed v here os)
unfolding or_else last Found
found-later v none u os f = f
found-later v (some r) u os f = (f.0, rw f.1 refl)

found_here : (u : UniqueId) (r : Bytes) (os : List Occurrence) (l : Option Bytes) → last u os ≡ l → Found u (occurrence u r ∷ os)
unfolding or_else last Found
found_here u r os none e = (r, rw (e, same_refl u) refl)
found_here u r os (some s) e = (s, rw e refl)

last_found : (us : List UniqueId) (m : Marking) (u : UniqueId) (r : Bytes) (p : ℕ) → at us p ≡ some u → m p ≡ some r → Found u (along us m)
unfolding Found at along
last_found [] m u r p a e = never u a
last_found (v ∷ us) m u r zero a e =
    let is : v ≡ u = same_Some v u a in
    rw (e, is) (found_here u r (along us (λ p. m (suc p))) _ refl)
last_found (v ∷ us) m u r (suc p) a e = found-later v (m zero) u _ (last_found us (λ p. m (suc p)) u r p a e)

find_along : (us : List UniqueId) (m : Marking) (u : UniqueId) (r : Bytes) → find u (along us m) ≡ some r → At us m u r
unfolding find at along
find_along [] m u r e = never r e
find_along (v ∷ us) m u r e = go (m zero) refl e (find_along us (λ p. m (suc p)) u r)
  where
    go : (here : Option Bytes) → m zero ≡ here → find u (listed v here (along us (λ p. m (suc p)))) ≡ some r →
        (find u (along us (λ p. m (suc p))) ≡ some r → At us (λ p. m (suc p)) u r) → At (v ∷ us) m u r
    go none is e rest = later v us m u r (rest e)
    go (some s) is e rest = same (same_id u v) refl e
      where
        same : (t : Bool) → same_id u v ≡ t → cond t (some s) (find u (along us (λ p. m (suc p)))) ≡ some r → At (v ∷ us) m u r
        same true t e = (zero, ap {B = Option UniqueId} some (sym (same_is u v t)), is ∙ e)
        same false t e = later v us m u r (rest e)

-- a reading of a list taken from the board is one of the marks'
pub find_source : (us : List UniqueId) (m : Marking) (u : UniqueId) (r : Bytes) → find u (occurrences us m) ≡ some r → At us m u r
find_source us m u r e = find_along us m u r (sym (ap (find u) (along_is us m)) ∙ e)

-- WHAT A MERGED LIST HAS OF A SOURCE

or_cases : (l d : Option Bytes) (r : Bytes) → or_else l d ≡ some r → (l ≡ some r) ⊎ ((l ≡ none) × (d ≡ some r))
unfolding or_else
or_cases none d r e = inr (refl, e)
or_cases (some s) d r e = inl e

found_merged : (us : List UniqueId) (m : Marking) (es : List Occurrence) (u : UniqueId) → find u (merge es (occurrences us m)) ≡ or_else (last u (along us m)) (find u es)
found_merged us m es u = ap (λ os. find u (merge es os)) (along_is us m) ∙ find-merge u es (along us m)

-- a reading of a merged list is one of the marks', or stood there before
pub merge_source : (us : List UniqueId) (m : Marking) (es : List Occurrence) (u : UniqueId) (r : Bytes) → find u (merge es (occurrences us m)) ≡ some r → At us m u r ⊎ (find u es ≡ some r)
merge_source us m es u r e = go (or_cases _ _ r (sym (found_merged us m es u) ∙ e))
  where
    go : (last u (along us m) ≡ some r) ⊎ ((last u (along us m) ≡ none) × (find u es ≡ some r)) → At us m u r ⊎ (find u es ≡ some r)
    go (inl h) = inl (last_source us m u r h)
    go (inr h) = inr h.1

-- no unique ID stands at two places
abbrev pub Distinct : List UniqueId → Type 0
Distinct us = (p q : ℕ) (u : UniqueId) → at us p ≡ some u → at us q ≡ some u → p ≡ q

module _ (us : List UniqueId) (distinct : Distinct us) (m : Marking) (es : List Occurrence) (u : UniqueId) (p : ℕ) (here : at us p ≡ some u) where
  last-at : (r : Bytes) → last u (along us m) ≡ some r → m p ≡ some r
  last-at r e =
      let h = last_source us m u r e in
      ap m (distinct p h.0 u here h.1) ∙ h.2

  pub merge-held : (r : Bytes) → m p ≡ some r → find u (merge es (occurrences us m)) ≡ some r
  unfolding Found or_else
  merge-held r e =
      let f = last_found us m u r p here e in
      let k : f.0 ≡ r = same_Some f.0 r (sym (last-at f.0 f.1) ∙ e) in
      found_merged us m es u ∙ ap (λ l. or_else l (find u es)) f.1 ∙ ap {B = Option Bytes} some k

  -- of the source at a place: the mark there, or without one what stood there before
  pub merge-at : (r : Bytes) → find u (merge es (occurrences us m)) ≡ some r → (m p ≡ some r) ⊎ ((m p ≡ none) × (find u es ≡ some r))
  merge-at r e = go (m p) refl
    where
      go : (o : Option Bytes) → m p ≡ o → (m p ≡ some r) ⊎ ((m p ≡ none) × (find u es ≡ some r))
      go (some s) is = inl (is ∙ sym (merge-held s is) ∙ e)
      go none is = inr (is, old (or_cases _ _ r (sym (found_merged us m es u) ∙ e)))
        where
          old : (last u (along us m) ≡ some r) ⊎ ((last u (along us m) ≡ none) × (find u es ≡ some r)) → find u es ≡ some r
          old (inl h) = never r (sym is ∙ last-at r h)
          old (inr h) = h.1
