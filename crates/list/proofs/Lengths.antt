-- How long occurrences and lists are. Assumes nothing.
use Rattle.std.proofs.Common.{◌≡◌, ℕ, ◌+◌, ◌≤◌, true, false, not, leb, List, ◌∷◌, length, refl, ap, ◌∙◌, arith}
use Rattle.std.proofs.lemmas.List.{length-append}
use Rattle.std.proofs.lemmas.Bool.{leb-true, not-true, not-false, and_parts, cond_both}
use Rattle.event.specs.Sources.{Occurrence}
use Rattle.list.specs.Lists.{occurrence_bytes, body, over, Told, these, overflow, told, list_bytes, lawful_told}

pub length-occurrence : (o : Occurrence) → length (occurrence_bytes o) ≡ 9 + length o.reading
unfolding occurrence_bytes
length-occurrence o = omega arith

pub length-body : (o : Occurrence) (os : List Occurrence) → length (body (o ∷ os)) ≡ 9 + length o.reading + length (body os)
unfolding body
length-body o os = length-append (occurrence_bytes o) (body os) ∙ ap (λ (n : ℕ). n + length (body os)) (length-occurrence o)

pub length-these : (transmission : ℕ) (os : List Occurrence) → length (list_bytes transmission (these os)) ≡ 7 + length (body os)
unfolding list_bytes
length-these transmission os = omega arith

pub length-overflow : (transmission : ℕ) → length (list_bytes transmission overflow) ≡ 7
unfolding list_bytes
length-overflow transmission = refl

-- a body that does not pass 4,096 bytes
pub not_over : (os : List Occurrence) → over os ≡ false → length (body os) ≤ 4096
unfolding over
not_over os e = leb-true _ _ (not-false _ e)

pub lawful_not_over : (os : List Occurrence) → lawful_told (these os) ≡ true → over os ≡ false
unfolding lawful_told
lawful_not_over os e = not-true _ (and_parts (not (over os)) _ (and_parts (leb (length os) 64) _ e).1).0

-- a lawful list has at most 4,103 bytes
pub lawful-short : (transmission : ℕ) (t : Told) → lawful_told t ≡ true → length (list_bytes transmission t) ≤ 4103
lawful-short transmission (these os) e = let n = length-these transmission os in let m = not_over os (lawful_not_over os e) in omega arith
lawful-short transmission overflow e = let n = length-overflow transmission in omega arith

-- and so has every list of occurrences, with overflow if there are too many
pub told-short : (transmission : ℕ) (os : List Occurrence) → length (list_bytes transmission (told os)) ≤ 4103
told-short transmission os =
    cond_both (over os) overflow (these os) (λ (t : Told). length (list_bytes transmission t) ≤ 4103)
    (λ e. let n = length-overflow transmission in omega arith)
    (λ e. let n = length-these transmission os in let m = not_over os e in omega arith)

-- every list has its header
pub has-header : (transmission : ℕ) (t : Told) → 7 ≤ length (list_bytes transmission t)
has-header transmission (these os) = let n = length-these transmission os in omega arith
has-header transmission overflow = let n = length-overflow transmission in omega arith
