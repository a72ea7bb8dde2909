-- What a change of a source comes to, once its tests are known. Assumes nothing.
use Rattle.std.proofs.Common.{◌≡◌, ℕ, ◌<◌, Bool, true, false, cond, [], Some, None, Ok, Err, Option, Result, sym, refl, ap, ◌∙◌, arith, rules}
use Rattle.std.specs.Option.{ok_or}
use Rattle.event.specs.declared.id.UniqueId.{UniqueId}
use Rattle.event.specs.declared.refusal.Refusal.{Refusal}
use Rattle.event.specs.declared.refusal.Refusal.TheVariants.{NoSuchPlace, UnlawfulReading}
use Rattle.event.specs.Bytes.{Bytes}
use Rattle.event.specs.Identifiers.{has}
use Rattle.event.specs.Outcomes.{done, refusal}
use Rattle.event.specs.Sources.{lawful_reading, ids}
use Rattle.board.specs.Boards.{Sources, at, lawful_board, lawful_if, takes, after_set}
use Rattle.board.specs.Changes.{change_refusal, handed_back}
use Rattle.board.proofs.Changes.{change-below}
use Rattle.board.proofs.Rereads.{at-inside, length_ids, after_refused, few_sources}
use Rattle.protocol.specs.Endpoint.{Endpoint, mark, change, changed, change_outcome}
use Rattle.endpoint.specs.View.{Changed}

-- every place of a board can be marked
pub place_below : (ss : Sources) (p : ℕ) (u : UniqueId) → lawful_board ss ≡ true → Some u ≡ at (ids ss) p → p < 64
place_below ss p u ok e = omega (arith, few_sources ss ok, length_ids ss, at-inside (ids ss) p u (sym e))

-- what a call found, by its variant and by what it ensures
pub found : {A : Type 0} (o v p : Option A) → o ≡ v → o ≡ p → v ≡ p
found o v p is e = sym is ∙ e

-- what `ok_or` says where nothing was
pub error-is : {A : Type 0} (o : Option A) (e f : Refusal) → o ≡ None → Err f ≡ ok_or o e → f ≡ e
error-is {A} o e f n v = let w : ◌≡◌ {A = Result A Refusal} (Err f) (Err e) = v ∙ ap (λ x. ok_or x e) n in cc

module _ (ss : Sources) (p : ℕ) (r : Bytes) where
  takes-is : (u : UniqueId) → Some u ≡ at (ids ss) p → takes ss p r ≡ lawful_reading u.identifier r
  unfolding takes
  takes-is u e = ap (λ (o : Option UniqueId). lawful_if o r) (sym e)

  pub no_place : (e : Endpoint) → None ≡ at (ids ss) p → Changed ss p r e e ss (Err NoSuchPlace)
  unfolding takes
  no_place e h = record {
    result = ap (λ (o : Option UniqueId). (change_outcome o r).result) h;
    endpoint = ap (λ (o : Option UniqueId). change o p r e) h;
    board = sym (after_refused ss p r (ap (λ (o : Option UniqueId). lawful_if o r) (sym h)));
  }

  module _ (u : UniqueId) (e : Endpoint) (h : Some u ≡ at (ids ss) p) where
    -- by whether the reading is lawful
    by_reading : (b : Bool) (after : Endpoint) (told : Sources) → lawful_reading u.identifier r ≡ b → after ≡ cond b (changed u p r e) e → told ≡ after_set ss p r
        → Changed ss p r e after told (cond b (done []) (refusal UnlawfulReading)).result
    by_reading b after told is leaves set = record {
      result = ap (λ (v : Bool). (cond v (done []) (refusal UnlawfulReading)).result) (sym is) ∙ ap (λ (o : Option UniqueId). (change_outcome o r).result) h;
      endpoint = leaves ∙ ap (λ (v : Bool). cond v (changed u p r e) e) (sym is) ∙ ap (λ (o : Option UniqueId). change o p r e) h;
      board = set;
    }

    pub unlawful : lawful_reading u.identifier r ≡ false → Changed ss p r e e ss (Err UnlawfulReading)
    unlawful is = by_reading false e ss is refl (sym (after_refused ss p r (takes-is u h ∙ is)))

    -- what the board hands back, by whether it takes the reading
    handed : handed_back (change_refusal ss p r) ≡ handed_back (cond (takes ss p r) None (Some UnlawfulReading))
    handed = ap handed_back (change-below ss p r (omega (arith, at-inside (ids ss) p u (sym h), length_ids ss)))

    pub not_taken : (told : Sources) (f : Refusal) → Err f ≡ handed_back (change_refusal ss p r) → told ≡ after_set ss p r → Changed ss p r e e told (Err f)
    not_taken told f back set = go (takes ss p r) refl (back ∙ handed)
      where
        go : (b : Bool) → b ≡ takes ss p r → Err f ≡ handed_back (cond b None (Some UnlawfulReading)) → Changed ss p r e e told (Err f)
        go true is back = absurd (search rules)
        go false is back =
            let f_is : f ≡ UnlawfulReading = cc in
            rw f_is (by_reading false e told (sym (takes-is u h) ∙ sym is) refl set)

    pub taken : (on : Bool) (after : Endpoint) (told : Sources) → Ok tt ≡ handed_back (change_refusal ss p r) → on ≡ has e.enabled u.identifier → after ≡ cond on (mark e.state p r e) e → told ≡ after_set ss p r
        → Changed ss p r e after told (Ok 0)
    taken on after told back enabled leaves set = go (takes ss p r) refl (back ∙ handed)
      where
        go : (b : Bool) → b ≡ takes ss p r → Ok tt ≡ handed_back (cond b None (Some UnlawfulReading)) → Changed ss p r e after told (Ok 0)
        go true is back = by_reading true after told (sym (takes-is u h) ∙ sym is) (leaves ∙ ap (λ (b : Bool). cond b (mark e.state p r e) e) enabled) set
        go false is back = absurd (search rules)
