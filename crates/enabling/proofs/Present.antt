-- The sources of a board, a place at a time. Assumes nothing.
use Rattle.std.proofs.Common.{◌≡◌, ℕ, zero, suc, ◌+◌, Bool, true, false, cond, ◌||◌, eqb, ◌⊎◌, List, [], ◌∷◌, length, take, drop, Some, None, sym, refl, ap, ◌∙◌, inl, inr, add-one, arith}
use Rattle.std.specs.List.{cons_option, filter_map, list_any, range_with_len}
use mathlib.Core.Path.{fun_ext}
use Rattle.std.proofs.lemmas.List.{drop_all}
use Rattle.std.proofs.lemmas.Bool.{eq-eqb, ne_eqb}
use Rattle.std.proofs.lemmas.Bool.Decides.{eqb_tells}
use Rattle.std.proofs.lemmas.Option.{none-some, same_Some}
use Rattle.event.specs.declared.id.UniqueId.{UniqueId}
use Rattle.event.specs.Bytes.{Bytes}
use Rattle.event.specs.Identifiers.{Words, has, switched}
use Rattle.event.specs.Sources.{Occurrence, ids}
use Rattle.board.specs.Boards.{Sources, at, reading_of}
use Rattle.board.proofs.Rereads.{at-below, at_source}
use Rattle.marks.specs.Marking.{Marking, unmarked, update}
use Rattle.marks.proofs.Listing.{at_drop}
use Rattle.protocol.specs.Endpoint.{known, present_of, present, enabling}
use Rattle.wire.specs.declared.types.Item.{Item}

-- WHAT IS LEFT AT A PLACE

drop_more : {A : Type 0} (us : List A) (i : ℕ) (u : A) → at us i ≡ Some u → drop i us ≡ u ∷ drop (i + 1) us
drop_more us i u e = at_drop us i u e ∙ ap (λ j. u ∷ drop j us) (sym (add-one i))

-- THE FIRST SOURCES, ONE MORE AT A TIME

at_take_same : {A : Type 0} (xs : List A) (i : ℕ) → at (take (suc i) xs) i ≡ at xs i
unfolding at
at_take_same [] i = refl
at_take_same (y ∷ xs) zero = refl
at_take_same (y ∷ xs) (suc i) = at_take_same xs i

at_take_self : {A : Type 0} (xs : List A) (i : ℕ) → at (take i xs) i ≡ None
unfolding at
at_take_self [] zero = refl
at_take_self [] (suc i) = refl
at_take_self (y ∷ xs) zero = refl
at_take_self (y ∷ xs) (suc i) = at_take_self xs i

at_take_other : {A : Type 0} (xs : List A) (i q : ℕ) → (q ≡ i → ⊥) → at (take (suc i) xs) q ≡ at (take i xs) q
unfolding at
at_take_other [] zero q ne = refl
at_take_other [] (suc i) q ne = refl
at_take_other (y ∷ xs) zero zero ne = absurd (ne refl)
at_take_other (y ∷ xs) zero (suc q) ne = refl
at_take_other (y ∷ xs) (suc i) zero ne = refl
at_take_other (y ∷ xs) (suc i) (suc q) ne = at_take_other xs i q (λ e. ne (ap suc e))

-- what is present among the first sources
abbrev pub Among : Words → Sources → ℕ → Marking
Among words told i = present words (take i told)

pub none_yet : (words : Words) (told : Sources) → unmarked ≡ Among words told 0
unfolding unmarked at present
none_yet words told = refl

module _ (words : Words) (told : Sources) (i : ℕ) where
  -- a mark at the place i, if the source there is enabled
  one_more : (n : Marking) → ((q : ℕ) → (q ≡ i → ⊥) → n q ≡ Among words told i q) → n i ≡ present_of words (at told i) → n ≡ Among words told (i + 1)
  unfolding present
  one_more n others here = fun_ext (λ q. go q (eqb_tells q i)) ∙ ap (λ (j : ℕ). Among words told j) (sym (add-one i))
    where
      go : (q : ℕ) → ((eqb q i ≡ true) × (q ≡ i)) ⊎ ((eqb q i ≡ false) × (q ≡ i → ⊥)) → n q ≡ Among words told (suc i) q
      go q (inl t) = ap n t.1 ∙ here ∙ sym (ap (present_of words) (at_take_same told i)) ∙ ap (Among words told (suc i)) (sym t.1)
      go q (inr t) = others q t.1 ∙ sym (ap (present_of words) (at_take_other told i q t.1))

  -- a source that is not enabled, or none, adds nothing
  same : present_of words (at told i) ≡ None → Among words told i ≡ Among words told (i + 1)
  unfolding present
  same e = one_more (Among words told i) (λ q ne. refl) (ap (present_of words) (at_take_self told i) ∙ sym e)

  -- one that is enabled is marked with its reading
  more : (s : Occurrence) → at told i ≡ Some s → has words s.id.identifier ≡ true → update (Among words told i) i (Some s.reading) ≡ Among words told (i + 1)
  unfolding update present
  more s e on =
      one_more (update (Among words told i) i (Some s.reading))
      (λ q ne. ap (λ (b : Bool). cond b (Some s.reading) (Among words told i q)) (ne_eqb q i ne))
      (ap (λ (b : Bool). cond b (Some s.reading) (Among words told i i)) (eq-eqb i i refl)
      ∙ sym (ap (present_of words) e ∙ ap (λ (b : Bool). cond b (Some s.reading) None) on))

  -- BY WHAT THE BOARD TELLS OF THE PLACE

  pub shot_marked : (u : UniqueId) (r : Bytes) (m n : Marking)
      → Some u ≡ at (ids told) i → true ≡ has words u.identifier → Some r ≡ reading_of (at told i)
      → m ≡ Among words told i → n ≡ update m i (Some r) → n ≡ Among words told (i + 1)
  shot_marked u r m n e on f inv set =
      let p = at_source told i u (sym e) in
      let is : r ≡ p.0.reading = same_Some r p.0.reading (f ∙ ap reading_of p.1) in
      set ∙ (λ j. update (inv j) i (Some (is j))) ∙ more p.0 p.1 (ap (λ (v : UniqueId). has words v.identifier) p.2 ∙ sym on)

  pub shot_never : (u : UniqueId) → Some u ≡ at (ids told) i → None ≡ reading_of (at told i) → ⊥
  shot_never u e f = let p = at_source told i u (sym e) in none-some p.0.reading (f ∙ ap reading_of p.1)

  pub shot_off : (u : UniqueId) → Some u ≡ at (ids told) i → false ≡ has words u.identifier → Among words told i ≡ Among words told (i + 1)
  shot_off u e off =
      let p = at_source told i u (sym e) in
      same (ap (present_of words) p.1 ∙ ap (λ (b : Bool). cond b (Some p.0.reading) None) (ap (λ (v : UniqueId). has words v.identifier) p.2 ∙ sym off))

  pub shot_past : None ≡ at (ids told) i → Among words told i ≡ Among words told (i + 1)
  unfolding at
  shot_past e = same (ap (present_of words) (none told i (sym e)))
    where
      none : (ss : Sources) (j : ℕ) → at (ids ss) j ≡ None → at ss j ≡ None
      none [] j f = refl
      none (s ∷ ss) zero f = cc
      none (s ∷ ss) (suc j) f = none ss j f

-- WHETHER AN IDENTIFIER IS KNOWN

-- what stands at the places from i on is what is left there
places : {A : Type 0} (us : List A) (i n : ℕ) → i + n ≡ length us → filter_map (at us) (range_with_len i n) ≡ drop i us
places us i zero h = sym (drop_all i us (omega arith))
places us i (suc n) h =
    let p = at-below us i (omega arith) in
    ap (λ o. cons_option o (filter_map (at us) (range_with_len (i + 1) n))) p.1
    ∙ ap (λ vs. p.0 ∷ vs) (places us (i + 1) n (omega arith))
    ∙ sym (drop_more us i p.0 p.1)

known_any : (identifier : ℕ) (us : List UniqueId) → list_any (λ u. eqb identifier u.identifier) us ≡ known identifier us
unfolding known
known_any identifier [] = refl
known_any identifier (u ∷ us) = ap (λ b. eqb identifier u.identifier || b) (known_any identifier us)

-- one of all the places has the identifier, if it is known
pub known_places : (identifier : ℕ) (us : List UniqueId) (n : ℕ) → n ≡ length us
    → list_any (λ u. eqb identifier u.identifier) (filter_map (at us) (range_with_len 0 n)) ≡ known identifier us
known_places identifier us n e = ap (list_any (λ u. eqb identifier u.identifier)) (places us 0 n (omega (arith, e))) ∙ known_any identifier us

-- ITEMS

-- one item applied, by whether its identifier is known
pub item_more : (us : List UniqueId) (i : Item) (is all : List Item) (words next : Words) (b : Bool) → all ≡ i ∷ is → b ≡ known i.identifier us → next ≡ cond b (switched i.on i.identifier words) words
    → enabling us is next ≡ enabling us all words
unfolding enabling
item_more us i is all words next b e k n =
    ap (enabling us is) (n ∙ ap (λ (v : Bool). cond v (switched i.on i.identifier words) words) k) ∙ ap (λ (l : List Item). enabling us l words) (sym e)

-- no item is left
pub item_end : (us : List UniqueId) (all : List Item) (words : Words) → all ≡ [] → words ≡ enabling us all words
unfolding enabling
item_end us all words e = ap (λ (l : List Item). enabling us l words) (sym e)
