-- How many bytes the marked sources of a board take, a place at a time. Assumes nothing.
use Rattle.std.proofs.Common.{◌≡◌, ℕ, zero, suc, ◌+◌, ◌*◌, ◌≤◌, Bool, true, false, cond, List, [], ◌∷◌, map, length, get_or, Some, None, Option, sum, sym, refl, ap, ◌∙◌, add-one, arith, length-take}
use Rattle.std.specs.List.{filter_map, range_with_len, cons_option}
use Rattle.std.specs.Option.{option_map}
use Rattle.std.proofs.lemmas.List.Sums.{sum_by-cons}
use Rattle.event.specs.declared.id.UniqueId.{UniqueId}
use Rattle.event.specs.declared.reading.Reading.{Reading}
use Rattle.event.specs.Bytes.{Bytes}
use Rattle.event.specs.Identifiers.{bit}
use Rattle.event.specs.Sources.{occurrence}
use Rattle.event.specs.View.{held}
use Rattle.list.specs.Lists.{body}
use Rattle.list.proofs.Lengths.{length-body}
use Rattle.marks.specs.declared.types.Marks.{Marks}
use Rattle.marks.specs.Marking.{Marking, listed, listed_from}
use Rattle.marks.specs.View.{shown, marks_of}

-- how many bytes the occurrence of a mark takes
abbrev pub size : Option Bytes → Option ℕ
size mark = option_map (λ r. 9 + length r) mark

-- a mark's size goes to the sum
size-listed : (u : UniqueId) (k : ℕ) (m : Marking) (us : List UniqueId) (o : Option Bytes) (ns : List ℕ) → sum ns ≡ length (body (listed_from k us m))
    → sum (cons_option (size o) ns) ≡ length (body (listed u o (listed_from k us m)))
size-listed u k m us None ns e = e
size-listed u k m us (Some r) ns e = sum_by-cons (λ n. n) (9 + length r) ns ∙ ap (λ n. 9 + length r + n) e ∙ sym (length-body (occurrence u r) (listed_from k us m))

pub sizes : (us : List UniqueId) (k : ℕ) (m : Marking) → sum (filter_map (λ place. size (m place)) (range_with_len k (length us))) ≡ length (body (listed_from k us m))
unfolding listed_from body
sizes [] k m = refl
sizes (u ∷ us) k m =
    size-listed u (suc k) m us (m k) _ (ap (λ (j : ℕ). sum (filter_map (λ place. size (m place)) (range_with_len j (length us)))) (add-one k) ∙ sizes us (suc k) m)

-- a reading has at most 64 bytes
held_short : (rs : List Reading) (place : ℕ) → length (get_or (map held rs) place []) ≤ 64
held_short [] place = omega arith
held_short (x ∷ rs) zero = omega (arith, length-take x.len x.bytes, x.short)
held_short (x ∷ rs) (suc place) = held_short rs place

-- so an occurrence takes at most 73
marked-short : (set : ℕ) (rs : List Reading) (u : UniqueId) (k : ℕ) (us : List UniqueId) → length (body (listed_from (suc k) us (shown set (map held rs)))) ≤ 73 * length us
    → length (body (listed u (shown set (map held rs) k) (listed_from (suc k) us (shown set (map held rs))))) ≤ 73 * suc (length us)
unfolding shown
marked-short set rs u k us h = go (bit set k)
  where
    go : (b : Bool) → length (body (listed u (cond b (Some (get_or (map held rs) k [])) None) (listed_from (suc k) us (shown set (map held rs))))) ≤ 73 * suc (length us)
    go true = omega (arith, length-body (occurrence u (get_or (map held rs) k [])) (listed_from (suc k) us (shown set (map held rs))), held_short rs k)
    go false = omega arith

pub body-short : (us : List UniqueId) (k : ℕ) (m : Marks) → length (body (listed_from k us (marks_of m))) ≤ 73 * length us
unfolding listed_from body
body-short [] k m = omega arith
body-short (u ∷ us) k m = marked-short m.set m.readings u k us (body-short us (suc k) m)
