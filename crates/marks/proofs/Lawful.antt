-- The list of lawful marks of a lawful board is lawful. Assumes nothing.
use Rattle.std.proofs.Common.{◌≡◌, ℕ, zero, suc, ◌+◌, ◌≤◌, Bool, true, false, cond, not, List, [], ◌∷◌, length, Some, None, Option, sym, refl, ap, ◌∙◌, zero-add, arith}
use Rattle.std.proofs.lemmas.Bool.{and_parts, and_from, or_parts, or_from, not-true, not_from_false, le-leb}
use Rattle.keys.specs.Keys.{among, twice}
use Rattle.event.specs.declared.id.UniqueId.{UniqueId}
use Rattle.event.specs.Bytes.{Bytes, within}
use Rattle.event.specs.Sources.{same_id, lawful_id, lawful_reading, lawful_occurrence, ids, all_lawful}
use Rattle.board.specs.Boards.{Sources, at, lawful_board}
use Rattle.list.specs.Lists.{over, overflow, these, told, lawful_told}
use Rattle.list.proofs.Back.{reads_back}
use Rattle.marks.specs.Marking.{Marking, listed, listed_from, occurrences}
use Rattle.marks.specs.Lawful.{ListsLawful, ReadsBack}
use Rattle.board.proofs.Rereads.{length_ids, few_sources}

few-listed : (k : ℕ) (us : List UniqueId) (m : Marking) → length (listed_from k us m) ≤ length us
unfolding listed_from
few-listed k [] m = omega arith
few-listed k (u ∷ us) m = go (m k) (few-listed (suc k) us m)
  where
    go : (o : Option Bytes) → length (listed_from (suc k) us m) ≤ length us → length (listed u o (listed_from (suc k) us m)) ≤ suc (length us)
    go None h = omega arith
    go (Some r) h = omega arith

-- the same of the sources from the place k on
abbrev LawfulFrom : ℕ → List UniqueId → Marking → Type 0
LawfulFrom k us m = (p : ℕ) (u : UniqueId) (r : Bytes) → at us p ≡ Some u → m (k + p) ≡ Some r → lawful_reading u.identifier r ≡ true

each-listed : (k : ℕ) (ss : Sources) (m : Marking) → all_lawful ss ≡ true → LawfulFrom k (ids ss) m → all_lawful (listed_from k (ids ss) m) ≡ true
unfolding listed_from all_lawful at
each-listed k [] m e ok = refl
each-listed k (s ∷ ss) m e ok =
    let parts = and_parts (lawful_occurrence s) (all_lawful ss) e in
    let id = (and_parts (lawful_id s.id) _ parts.0).0 in
    let next : LawfulFrom (suc k) (ids ss) m = λ p u r a x. ok (suc p) u r a (ap m (omega arith) ∙ x) in
    go id (m k) refl (each-listed (suc k) ss m parts.1 next)
  where
    go : lawful_id s.id ≡ true → (o : Option Bytes) → m k ≡ o → all_lawful (listed_from (suc k) (ids ss) m) ≡ true → all_lawful (listed s.id o (listed_from (suc k) (ids ss) m)) ≡ true
    go id None is h = h
    go id (Some r) is h = and_from _ _ (and_from _ _ id (ok zero s.id r refl (ap m (omega arith) ∙ is))) h

among-listed : (v : UniqueId) (k : ℕ) (us : List UniqueId) (m : Marking) → among same_id v us ≡ false → among same_id v (ids (listed_from k us m)) ≡ false
unfolding listed_from among
among-listed v k [] m e = refl
among-listed v k (u ∷ us) m e = let parts = or_parts (same_id v u) _ e in go (m k) parts.0 (among-listed v (suc k) us m parts.1)
  where
    go : (o : Option Bytes) → same_id v u ≡ false → among same_id v (ids (listed_from (suc k) us m)) ≡ false → among same_id v (ids (listed u o (listed_from (suc k) us m))) ≡ false
    go None d h = h
    go (Some r) d h = or_from _ _ d h

twice-listed : (k : ℕ) (us : List UniqueId) (m : Marking) → twice same_id us ≡ false → twice same_id (ids (listed_from k us m)) ≡ false
unfolding listed_from twice
twice-listed k [] m e = refl
twice-listed k (u ∷ us) m e = let parts = or_parts (among same_id u us) _ e in go (m k) (among-listed u (suc k) us m parts.0) (twice-listed (suc k) us m parts.1)
  where
    go : (o : Option Bytes) → among same_id u (ids (listed_from (suc k) us m)) ≡ false → twice same_id (ids (listed_from (suc k) us m)) ≡ false → twice same_id (ids (listed u o (listed_from (suc k) us m))) ≡ false
    go None a h = h
    go (Some r) a h = or_from _ _ a h

pub lists_lawful : ListsLawful
unfolding lawful_board lawful_told
lists_lawful ss m e ok = go (over (occurrences (ids ss) m)) refl
  where
    go : (v : Bool) → over (occurrences (ids ss) m) ≡ v → lawful_told (cond v overflow (these (occurrences (ids ss) m))) ≡ true
    go true is = refl
    go false is =
        let rest = and_parts (all_lawful ss) (not (twice same_id (ids ss))) (and_parts (within 1 64 (length ss)) _ e).1 in
        let few : length (occurrences (ids ss) m) ≤ 64 = omega (arith, few-listed 0 (ids ss) m, length_ids ss, few_sources ss e) in
        let each = each-listed 0 ss m rest.0 (λ p u r a x. ok p u r a (ap m (sym (zero-add p)) ∙ x)) in
        let apart = twice-listed 0 (ids ss) m (not-true _ rest.1) in
        and_from _ _ (le-leb _ 64 few) (and_from _ _ (not_from_false _ is) (and_from _ _ each (not_from_false _ apart)))

pub lists_read_back : (transmission : ℕ) (ss : Sources) (m : Marking) → lawful_board ss ≡ true → ReadsBack transmission ss m
lists_read_back transmission ss m e ok = reads_back transmission (told (occurrences (ids ss) m)) (lists_lawful ss m e ok)
