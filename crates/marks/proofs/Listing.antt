-- The list of a board's marked sources, a place at a time. Assumes nothing.
use Rattle.std.proofs.Common.{◌≡◌, ℕ, zero, suc, ◌+◌, ◌<◌, ◌≤◌, List, [], ◌∷◌, ◌++◌, length, drop, Some, None, Option, sym, ap, ◌∙◌, add-one}
use Rattle.std.proofs.lemmas.List.{drop_all}
use Rattle.std.specs.Option.{option_zip}
use Rattle.event.specs.declared.id.UniqueId.{UniqueId}
use Rattle.event.specs.declared.reading.Reading.{Reading}
use Rattle.event.specs.Bytes.{Bytes}
use Rattle.event.specs.Sources.{occurrence}
use Rattle.event.specs.View.{held, held_if}
use Rattle.board.specs.Boards.{at}
use Rattle.board.proofs.Rereads.{at-below}
use Rattle.list.specs.Lists.{occurrence_bytes, body}
use Rattle.marks.specs.Marking.{Marking, listed, listed_from}

-- what is at a place stands at the front of what is left there
pub at_drop : {A : Type 0} (us : List A) (i : ℕ) (u : A) → at us i ≡ Some u → drop i us ≡ u ∷ drop (suc i) us
unfolding at
at_drop [] i u e = cc
at_drop (v ∷ us) zero u e = let f : v ≡ u = cc in ap (λ x. x ∷ us) f
at_drop (v ∷ us) (suc i) u e = at_drop us i u e

-- the bytes of what is left to list at the place i
abbrev pub rest : List UniqueId → Marking → ℕ → Bytes
rest us m i = body (listed_from i (drop i us) m)

rest-marked : (us : List UniqueId) (m : Marking) (i : ℕ) (u : UniqueId) (r : Bytes) → at us i ≡ Some u → m i ≡ Some r → rest us m i ≡ occurrence_bytes (occurrence u r) ++ rest us m (i + 1)
unfolding listed_from body
rest-marked us m i u r e f =
    ap (λ (l : List UniqueId). body (listed_from i l m)) (at_drop us i u e)
    ∙ ap (λ (o : Option Bytes). body (listed u o (listed_from (suc i) (drop (suc i) us) m))) f
    ∙ ap (λ (j : ℕ). occurrence_bytes (occurrence u r) ++ rest us m j) (sym (add-one i))

rest-unmarked : (us : List UniqueId) (m : Marking) (i : ℕ) → i < length us → m i ≡ None → rest us m i ≡ rest us m (i + 1)
unfolding listed_from body
rest-unmarked us m i h f =
    let p = at-below us i h in
    ap (λ (l : List UniqueId). body (listed_from i l m)) (at_drop us i p.0 p.1)
    ∙ ap (λ (o : Option Bytes). body (listed p.0 o (listed_from (suc i) (drop (suc i) us) m))) f
    ∙ ap (rest us m) (sym (add-one i))

-- the same, by what the code reads at the place i: the unique ID there, and the reading of its mark

pub rest-some : (us : List UniqueId) (m : Marking) (i : ℕ) (a : Option UniqueId) (b : Option Reading) (u : UniqueId) (x : Reading) → a ≡ at us i → held_if b ≡ m i
    → Some (u, x) ≡ option_zip a b → rest us m i ≡ occurrence_bytes (occurrence u (held x)) ++ rest us m (i + 1)
rest-some us m i None b u x e f z = cc
rest-some us m i (Some v) None u x e f z = cc
rest-some us m i (Some v) (Some y) u x e f z =
    let both : ◌≡◌ {A = UniqueId × Reading} (v, y) (u, x) = cc in
    rest-marked us m i u (held x) (sym e ∙ ap (λ (p : UniqueId × Reading). Some p.0) both) (sym f ∙ ap (λ (p : UniqueId × Reading). Some (held p.1)) both)

pub rest-none : (us : List UniqueId) (m : Marking) (i : ℕ) (a : Option UniqueId) (b : Option Reading) → i < length us → a ≡ at us i → held_if b ≡ m i
    → None ≡ option_zip a b → rest us m i ≡ rest us m (i + 1)
rest-none us m i None b h e f z = let there = at-below us i h in cc (there.1)
rest-none us m i (Some v) None h e f z = rest-unmarked us m i h (sym f)
rest-none us m i (Some v) (Some y) h e f z = cc

pub rest_end : (us : List UniqueId) (m : Marking) (i : ℕ) → length us ≤ i → rest us m i ≡ []
unfolding listed_from body
rest_end us m i h = ap (λ (l : List UniqueId). body (listed_from i l m)) (drop_all i us h)
