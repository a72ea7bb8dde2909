-- Occurrences that name no source twice, entered where nothing is entered yet. Assumes nothing.
use Rattle.std.proofs.Common.{◌≡◌, ℕ, true, false, not, leb, List, [], ◌∷◌, ◌++◌, length, None, Option, sym, refl, ap, ◌∙◌}
use Rattle.std.proofs.lemmas.List.{append-nil, append_assoc}
use Rattle.std.proofs.lemmas.Bool.{and_parts, or_parts, not-true, both_ways, cond-true, cond-false}
use Rattle.keys.specs.Keys.{among, twice}
use Rattle.event.specs.declared.id.UniqueId.{UniqueId}
use Rattle.event.specs.Sources.{Occurrence, same_id, all_lawful, ids}
use Rattle.list.specs.Lists.{these, over, lawful_told}
use Rattle.wire.specs.declared.types.Kind.{Kind}
use Rattle.wire.specs.declared.types.Kind.TheVariants.{Sync}
use Rattle.protocol.specs.declared.types.Phase.{Phase}
use Rattle.protocol.specs.declared.types.Phase.TheVariants.{Settled}
use Rattle.protocol.specs.Book.{Book, enter, merge, book_of, up_to64, answered_to}
use Rattle.book.proofs.Rows.{same_true, same_false}

-- an ID that is not among others is none of them
apart : (u : UniqueId) (es os : List Occurrence) (o : Occurrence) → among same_id u (ids (es ++ (o ∷ os))) ≡ false → same_id u o.id ≡ false
unfolding among
apart u [] os o h = (or_parts (same_id u o.id) _ h).0
apart u (e ∷ es) os o h = apart u es os o (or_parts (same_id u e.id) _ h).1

-- a source that is not entered yet comes behind the others
enter_fresh : (es os : List Occurrence) (o : Occurrence) → twice same_id (ids (es ++ (o ∷ os))) ≡ false → enter o es ≡ es ++ (o ∷ [])
unfolding enter twice
enter_fresh [] os o h = refl
enter_fresh (e ∷ es) os o h =
    let both = or_parts (among same_id e.id (ids (es ++ (o ∷ os)))) _ h in
    let differ = apart e.id es os o both.0 in
    let other = same_false o.id e.id (λ i. both_ways (same_id e.id o.id) differ (same_true e.id o.id (sym i))) in
    cond-false (same_id o.id e.id) _ _ other ∙ ap (λ (l : List Occurrence). e ∷ l) (enter_fresh es os o both.1)

-- so do several
merge_fresh : (es os : List Occurrence) → twice same_id (ids (es ++ os)) ≡ false → merge es os ≡ es ++ os
unfolding merge
merge_fresh es [] h = sym (append-nil es)
merge_fresh es (o ∷ os) h =
    let same = append_assoc es (o ∷ []) os in
    ap (λ (l : List Occurrence). merge l os) (enter_fresh es os o h)
    ∙ merge_fresh (es ++ (o ∷ [])) os (ap (λ (l : List Occurrence). twice same_id (ids l)) same ∙ h)
    ∙ same

-- a lawful list, entered where nothing is entered yet, makes its occurrences the entries
filled : (phase : Phase) (os : List Occurrence) (g : Option ℕ) → lawful_told (these os) ≡ true → up_to64 phase (merge [] os) g ≡ book_of phase os g
unfolding lawful_told
filled phase os g h =
    let few = and_parts (leb (length os) 64) _ h in
    let short = and_parts (not (over os)) _ few.1 in
    let each = and_parts (all_lawful os) _ short.1 in
    let once = not-true (twice same_id (ids os)) each.1 in
    ap (λ (l : List Occurrence). up_to64 phase l g) (merge_fresh [] os once) ∙ cond-true (leb (length os) 64) _ _ few.0

-- so a sync's answer replaces all entries
pub replaces_all : (kind : Kind) (es os : List Occurrence) (k after : Book) → kind ≡ Sync → es ≡ [] → lawful_told (these os) ≡ true
    → after ≡ up_to64 Settled (merge es os) None → after ≡ answered_to kind os k
replaces_all kind es os k after is e h w =
    w ∙ ap (λ (l : List Occurrence). up_to64 Settled (merge l os) None) e ∙ filled Settled os None h ∙ sym (ap (λ (x : Kind). answered_to x os k) is)
