-- What is written of a lawful board is read back. Assumes nothing.
use Rattle.std.proofs.Common.{◌≡◌, ℕ, zero, suc, ◌/◌, ◌%◌, ◌<◌, Bool, true, false, ◌||◌, List, [], ◌∷◌, Some as some, sym, refl, ap, ◌∙◌, arith}
use Rattle.std.proofs.lemmas.Option.{same_Some}
use mathlib.Core.Bool.{false≢true}
use Rattle.std.proofs.lemmas.Bool.{not-true, and_parts, or_parts}
use Rattle.keys.specs.Keys.{among, twice}
use Rattle.event.specs.declared.id.UniqueId.{UniqueId}
use Rattle.event.specs.Sources.{Occurrence, same_id, lawful_id, lawful_reading, lawful_occurrence, ids, all_lawful}
use Rattle.board.specs.Boards.{Sources, at, lawful_board}
use Rattle.board.proofs.Rereads.{lawful_parts}
use Rattle.list.specs.Lists.{told}
use Rattle.marks.specs.Marking.{occurrences}
use Rattle.marks.proofs.Lawful.{lists_lawful}
use Rattle.wire.specs.Laws.{EventsReadBack, AnswersReadBack}
use Rattle.protocol.specs.Endpoint.{transmission}
use Rattle.promises.proofs.Lists.{never, same_refl, Distinct}
use Rattle.promises.proofs.Invariant.{LawfulReadings, Laws}

-- DISTINCT SOURCES

among-found : (us : List UniqueId) (q : ℕ) (u : UniqueId) → at us q ≡ some u → among same_id u us ≡ true
unfolding among at
among-found [] q u a = never u a
among-found (v ∷ us) zero u a = ap (λ t. t || among same_id u us) (ap (same_id u) (same_Some v u a) ∙ same_refl u)
among-found (v ∷ us) (suc q) u a = go (same_id u v) (among-found us q u a)
  where
    go : (t : Bool) → among same_id u us ≡ true → (t || among same_id u us) ≡ true
    go true x = refl
    go false x = x

distinct_of : (us : List UniqueId) → twice same_id us ≡ false → Distinct us
unfolding twice at
distinct_of [] e p q u a b = never u a
distinct_of (v ∷ us) e zero zero u a b = refl
distinct_of (v ∷ us) e zero (suc q) u a b =
    absurd (false≢true (sym (or_parts (among same_id v us) _ e).0 ∙ ap (λ w. among same_id w us) (same_Some v u a) ∙ among-found us q u b))
distinct_of (v ∷ us) e (suc p) zero u a b =
    absurd (false≢true (sym (or_parts (among same_id v us) _ e).0 ∙ ap (λ w. among same_id w us) (same_Some v u b) ∙ among-found us p u a))
distinct_of (v ∷ us) e (suc p) (suc q) u a b = ap suc (distinct_of us (or_parts (among same_id v us) _ e).1 p q u a b)

-- LAWFUL READINGS

readings-lawful : (b : Sources) → all_lawful b ≡ true → LawfulReadings b
unfolding all_lawful at
readings-lawful [] e q s a = never s a
readings-lawful (x ∷ b) e zero s a =
    ap (λ (y : Occurrence). lawful_reading y.id.identifier y.reading) (sym (same_Some x s a)) ∙ (and_parts (lawful_id x.id) _ (and_parts (lawful_occurrence x) _ e).0).1
readings-lawful (x ∷ b) e (suc q) s a = readings-lawful b (and_parts (lawful_occurrence x) _ e).1 q s a

pub readings_of : (b : Sources) → lawful_board b ≡ true → LawfulReadings b
readings_of b e = readings-lawful b (lawful_parts b e).all

-- THE LAWS

generation_of : (g n : ℕ) → n < 8 → transmission g n / 8 ≡ g
generation_of g n few = omega arith

retries_of : (g n : ℕ) → n < 8 → transmission g n % 8 ≡ n
retries_of g n few = omega arith

pub laws_of : EventsReadBack → AnswersReadBack → (b : Sources) → lawful_board b ≡ true → Laws (ids b)
laws_of events answers b lawful = record {
  distinct = distinct_of (ids b) (not-true _ (lawful_parts b lawful).apart);
  events = λ g n m few ok. (let t = told (occurrences (ids b) m) in
      let i = generation_of g n few in
      let j = retries_of g n few in
      events (transmission g n) t (lists_lawful b m lawful ok) ∙ (λ k. some (record { generation = i k; retries = j k; told = t })));
  answers = λ slot m ok. answers slot (told (occurrences (ids b) m)) (lists_lawful b m lawful ok);
}
