-- What a set leaves of a board. Assumes nothing.
use Rattle.std.proofs.Common.{◌≡◌, ℕ, zero, suc, ◌<◌, ◌≤◌, true, false, not, ◌&&◌, leb, List, [], ◌∷◌, length, Some, None, sym, refl, ap, ◌∙◌, subst, ⊎_elim, arith}
use Rattle.std.proofs.lemmas.Bool.{cases_Bool, and_parts, and_from, leb-true, false≢true}
use Rattle.std.proofs.lemmas.Option.{none-some, same_Some}
use Rattle.keys.specs.Keys.{twice}
use Rattle.event.specs.declared.id.UniqueId.{UniqueId}
use Rattle.event.specs.Bytes.{Bytes, within}
use Rattle.event.specs.Sources.{Occurrence, occurrence, same_id, lawful_id, lawful_reading, lawful_occurrence, ids, all_lawful}
use Rattle.board.specs.Boards.{Sources, at, lawful_board, takes, reread, after_set}

-- PLACES

-- nothing stands past the last place
pub at_past : {A : Type 0} (l : List A) (place : ℕ) → length l ≤ place → at l place ≡ None
unfolding at
at_past [] place h = refl
at_past (x ∷ l) zero h = absurd (omega arith)
at_past (x ∷ l) (suc place) h = at_past l place (omega arith)

-- something stands at each place below the length
pub at-below : {A : Type 0} (l : List A) (place : ℕ) → place < length l → (x : A) × (at l place ≡ Some x)
unfolding at
at-below [] place h = absurd (omega arith)
at-below (x ∷ l) zero h = (x, refl)
at-below (x ∷ l) (suc place) h = at-below l place (omega arith)

-- a place where something stands is below the length
pub at-inside : {A : Type 0} (l : List A) (place : ℕ) (x : A) → at l place ≡ Some x → place < length l
unfolding at
at-inside [] place x e = absurd (none-some x e)
at-inside (y ∷ l) zero x e = omega arith
at-inside (y ∷ l) (suc place) x e = let h = at-inside l place x e in omega arith

-- the ID at a place is that of the source there
pub at-ids : (told : Sources) (place : ℕ) (s : Occurrence) → at told place ≡ Some s → at (ids told) place ≡ Some s.id
unfolding at
at-ids [] place s e = absurd (none-some s e)
at-ids (t ∷ told) zero s e = ap (λ (o : Occurrence). Some o.id) (same_Some t s e)
at-ids (t ∷ told) (suc place) s e = at-ids told place s e

-- a place that has an ID has a source
pub at_source : (told : Sources) (place : ℕ) (u : UniqueId) → at (ids told) place ≡ Some u → (s : Occurrence) × (at told place ≡ Some s) × (s.id ≡ u)
unfolding at
at_source [] place u e = absurd (none-some u e)
at_source (s ∷ told) zero u e = (s, refl, same_Some s.id u e)
at_source (s ∷ told) (suc place) u e = at_source told place u e

-- there are as many IDs as sources
pub length_ids : (told : Sources) → length (ids told) ≡ length told
length_ids [] = refl
length_ids (s ∷ told) = ap suc (length_ids told)

-- ANOTHER READING

-- no ID changes
pub ids-reread : (told : Sources) (place : ℕ) (r : Bytes) → ids (reread told place r) ≡ ids told
unfolding reread
ids-reread [] place r = refl
ids-reread (s ∷ told) zero r = refl
ids-reread (s ∷ told) (suc place) r = ap (λ us. s.id ∷ us) (ids-reread told place r)

-- nor the number of sources
pub length-reread : (told : Sources) (place : ℕ) (r : Bytes) → length (reread told place r) ≡ length told
length-reread told place r = sym (length_ids (reread told place r)) ∙ ap length (ids-reread told place r) ∙ length_ids told

-- at its place the source has the reading
pub at_reread_same : (told : Sources) (place : ℕ) (r : Bytes) (s : Occurrence) → at told place ≡ Some s → at (reread told place r) place ≡ Some (occurrence s.id r)
unfolding at reread
at_reread_same [] place r s e = absurd (none-some s e)
at_reread_same (t ∷ told) zero r s e = ap (λ (o : Occurrence). Some (occurrence o.id r)) (same_Some t s e)
at_reread_same (t ∷ told) (suc place) r s e = at_reread_same told place r s e

-- at every other place all is as it was
pub at_reread_other : (told : Sources) (place other : ℕ) (r : Bytes) → (other ≡ place → ⊥) → at (reread told place r) other ≡ at told other
unfolding at reread
at_reread_other [] place other r ne = refl
at_reread_other (t ∷ told) zero zero r ne = absurd (ne refl)
at_reread_other (t ∷ told) zero (suc other) r ne = refl
at_reread_other (t ∷ told) (suc place) zero r ne = refl
at_reread_other (t ∷ told) (suc place) (suc other) r ne = at_reread_other told place other r (λ e. ne (ap suc e))

-- A SET

-- a reading is taken as the source at the place allows
pub takes_at : (told : Sources) (place : ℕ) (r : Bytes) (s : Occurrence) → at told place ≡ Some s → takes told place r ≡ lawful_reading s.id.identifier r
unfolding takes
takes_at told place r s e = let f = at-ids told place s e in rw f refl

-- none is taken past the last place
pub takes_past : (told : Sources) (place : ℕ) (r : Bytes) → length told ≤ place → takes told place r ≡ false
unfolding takes
takes_past told place r h = let f = at_past (ids told) place (omega (arith, length_ids told)) in rw f refl

-- a place that takes a reading is below the count
pub takes-below : (told : Sources) (place : ℕ) (r : Bytes) → takes told place r ≡ true → place < length told
unfolding takes at
takes-below [] place r e = absurd (false≢true e)
takes-below (s ∷ told) zero r e = omega arith
takes-below (s ∷ told) (suc place) r e = let h = takes-below told place r e in omega arith

-- a set that is taken changes the reading
pub after_taken : (told : Sources) (place : ℕ) (r : Bytes) → takes told place r ≡ true → after_set told place r ≡ reread told place r
unfolding after_set
after_taken told place r e = rw e refl

-- a set that is not taken changes nothing
pub after_refused : (told : Sources) (place : ℕ) (r : Bytes) → takes told place r ≡ false → after_set told place r ≡ told
unfolding after_set
after_refused told place r e = rw e refl

-- what holds of the board if the set is taken, and if it is not, holds after it
by_set : (P : Sources → Type 0) (told : Sources) (place : ℕ) (r : Bytes) → (takes told place r ≡ true → P (reread told place r)) → (takes told place r ≡ false → P told) → P (after_set told place r)
by_set P told place r took left =
    ⊎_elim
    (λ e. subst P (sym (after_taken told place r e)) (took e))
    (λ e. subst P (sym (after_refused told place r e)) (left e))
    (cases_Bool (takes told place r))

-- a set changes no ID
pub ids-after : (told : Sources) (place : ℕ) (r : Bytes) → ids (after_set told place r) ≡ ids told
ids-after told place r = by_set (λ l. ids l ≡ ids told) told place r (λ _. ids-reread told place r) (λ _. refl)

-- nor the number of sources
pub length-after : (told : Sources) (place : ℕ) (r : Bytes) → length (after_set told place r) ≡ length told
length-after told place r = by_set (λ l. length l ≡ length told) told place r (λ _. length-reread told place r) (λ _. refl)

-- after a set that is taken, the source at the place has the reading
pub at_after_same : (told : Sources) (place : ℕ) (r : Bytes) (s : Occurrence) → takes told place r ≡ true → at told place ≡ Some s → at (after_set told place r) place ≡ Some (occurrence s.id r)
at_after_same told place r s t e = ap (λ l. at l place) (after_taken told place r t) ∙ at_reread_same told place r s e

-- after any set, at every other place all is as it was
pub at_after_other : (told : Sources) (place other : ℕ) (r : Bytes) → (other ≡ place → ⊥) → at (after_set told place r) other ≡ at told other
at_after_other told place other r ne = by_set (λ l. at l other ≡ at told other) told place r (λ _. at_reread_other told place other r ne) (λ _. refl)

-- LAWFUL BOARDS

-- the parts of a lawful board
pub record Parts (told : Sources) : Type 0 where
  pub few : within 1 64 (length told) ≡ true
  pub all : all_lawful told ≡ true
  pub apart : not (twice same_id (ids told)) ≡ true

-- a lawful board has them
pub lawful_parts : (told : Sources) → lawful_board told ≡ true → Parts told
unfolding lawful_board
lawful_parts told e =
    let p = and_parts (within 1 64 (length told)) (all_lawful told && not (twice same_id (ids told))) e in
    let q = and_parts (all_lawful told) (not (twice same_id (ids told))) p.1 in
    record { few = p.0; all = q.0; apart = q.1 }

-- a board that has them is lawful
pub lawful_from : (told : Sources) → Parts told → lawful_board told ≡ true
unfolding lawful_board
lawful_from told p = and_from _ _ p.few (and_from _ _ p.all p.apart)

-- a lawful board has at most 64 sources
pub few_sources : (told : Sources) → lawful_board told ≡ true → length told ≤ 64
few_sources told e = leb-true (length told) 64 (and_parts (leb 1 (length told)) (leb (length told) 64) (lawful_parts told e).few).1

-- and at least one
pub some_sources : (told : Sources) → lawful_board told ≡ true → 1 ≤ length told
some_sources told e = leb-true 1 (length told) (and_parts (leb 1 (length told)) (leb (length told) 64) (lawful_parts told e).few).0

-- a source of which all is lawful
lawful_source : (s : Occurrence) → lawful_id s.id ≡ true → lawful_reading s.id.identifier s.reading ≡ true → lawful_occurrence s ≡ true
lawful_source s u r = and_from (lawful_id s.id) (lawful_reading s.id.identifier s.reading) u r

all_reread : (told : Sources) (place : ℕ) (r : Bytes) → takes told place r ≡ true → all_lawful told ≡ true → all_lawful (reread told place r) ≡ true
unfolding takes at all_lawful reread
all_reread [] place r t e = refl
all_reread (s ∷ told) zero r t e =
    let p = and_parts (lawful_occurrence s) (all_lawful told) e in
    let q = and_parts (lawful_id s.id) (lawful_reading s.id.identifier s.reading) p.0 in
    and_from _ _ (lawful_source (occurrence s.id r) q.0 t) p.1
all_reread (s ∷ told) (suc place) r t e =
    let p = and_parts (lawful_occurrence s) (all_lawful told) e in
    and_from _ _ p.0 (all_reread told place r t p.1)

-- a lawful board is lawful after a set
pub lawful-after : (told : Sources) (place : ℕ) (r : Bytes) → lawful_board told ≡ true → lawful_board (after_set told place r) ≡ true
lawful-after told place r e =
    let p = lawful_parts told e in
    by_set (λ l. lawful_board l ≡ true) told place r
    (λ t. lawful_from (reread told place r) (record {
      few = ap (within 1 64) (length-reread told place r) ∙ p.few;
      all = all_reread told place r t p.all;
      apart = ap (λ us. not (twice same_id us)) (ids-reread told place r) ∙ p.apart;
    }))
    (λ _. e)
