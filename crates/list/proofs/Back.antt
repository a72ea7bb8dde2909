-- What is written of a lawful list reads back. Assumes nothing.
use Rattle.std.proofs.Common.{◌≡◌, ℕ, ◌+◌, ◌/◌, ◌%◌, ◌^◌, ◌<◌, Bool, true, false, cond, not, ◌&&◌, leb, List, [], ◌∷◌, ◌++◌, length, drop, Some, None, Option, sym, refl, ap, ◌∙◌, arith}
use Rattle.std.proofs.lemmas.List.{take_at, drop_at, length-append}
use Rattle.std.proofs.lemmas.Bool.{le-leb, lt-leb, and_parts, and_from}
use Rattle.std.proofs.lemmas.Bool.Decides.{nat_tests}
use Rattle.event.specs.declared.id.UniqueId.{UniqueId}
use Rattle.event.specs.Bytes.{Bytes, byte, same_bytes}
use Rattle.event.specs.Sources.{Occurrence, occurrence, is_vendor, lawful_id, lawful_info, lawful_scope, lawful_occurrence, all_lawful}
use Rattle.list.specs.Lists.{occurrence_bytes, body, over, Told, these, overflow, list_bytes, lawful_told, reading_length, front, has_front, fronts, tells as told_bytes, Listing, listing, read_list}
use Rattle.list.specs.Laws.{ListsReadBack}
use Rattle.event.proofs.Readings.{reading-short}
use Rattle.event.proofs.SameBytes.{same_refl}
use Rattle.list.proofs.Numbers.{four-le32}
use Rattle.list.proofs.Lengths.{not_over, lawful_not_over}

-- LAWFUL OCCURRENCES

info_small : (u : UniqueId) → lawful_id u ≡ true → u.info < 2 ^ 32
unfolding lawful_id
info_small u e = go u.identifier u.scope u.info (and_parts (lawful_scope u.identifier u.scope) _ e).1
  where
    go : (identifier scope info : ℕ) → lawful_info identifier scope info ≡ true → info < 2 ^ 32
    go identifier scope info h = grind (arith, nat_tests)

-- LISTS

lengths : (v : Bool) (n : ℕ) → cond v 0 n + cond v n 0 ≡ n
lengths true n = omega arith
lengths false n = omega arith

-- the occurrence at the front of bytes that begin with one
module _ (o : Occurrence) (rest : Bytes) (lawful : lawful_occurrence o ≡ true) where
  abbrev bytes : Bytes
  bytes = occurrence_bytes o ++ rest

  reading-length : reading_length bytes ≡ length o.reading
  unfolding occurrence_bytes
  reading-length = lengths (is_vendor o.id.identifier) (length o.reading)

  behind : drop 9 bytes ≡ o.reading ++ rest
  unfolding occurrence_bytes
  behind = refl

  front_back : front bytes ≡ o
  unfolding occurrence_bytes
  front_back =
      let parts = and_parts (lawful_id o.id) _ lawful in
      let info = four-le32 o.id.info (info_small o.id parts.0) in
      let reading = take_at o.reading rest (reading_length bytes) (sym reading-length) in
      λ i. occurrence (record { identifier = o.id.identifier; scope = o.id.scope; info = info i }) (reading i)

  rest_back : drop (reading_length bytes) (drop 9 bytes) ≡ rest
  rest_back = ap (drop (reading_length bytes)) behind ∙ drop_at o.reading rest (reading_length bytes) (sym reading-length)

  stands : has_front bytes ≡ true
  stands =
      let short = reading-short o.id.identifier o.reading (and_parts (lawful_id o.id) _ lawful).1 in
      let n = reading-length in
      let m = length-append o.reading rest in
      let k : length (drop 9 bytes) ≡ length (o.reading ++ rest) = ap length behind in
      let l : length bytes ≡ 9 + length (o.reading ++ rest) = (unfold occurrence_bytes in omega arith) in
      and_from _ _ (le-leb 9 (length bytes) (omega arith))
      (and_from _ _ (le-leb (reading_length bytes) 64 (omega arith)) (le-leb (reading_length bytes) (length (drop 9 bytes)) (omega arith)))

pub fronts_back : (os : List Occurrence) → all_lawful os ≡ true → fronts (length os) (body os) ≡ os
unfolding fronts body all_lawful
fronts_back [] e = refl
fronts_back (o ∷ os) e =
    let parts = and_parts (lawful_occurrence o) _ e in
    let h = stands o (body os) parts.0 in
    let f = front_back o (body os) parts.0 in
    let r = ap (fronts (length os)) (rest_back o (body os) parts.0) ∙ fronts_back os parts.1 in
    λ i. cond (h i) (f i ∷ r i) []

-- what is told is what was written
pub tells_back : (transmission : ℕ) (t : Told) → lawful_told t ≡ true → told_bytes (list_bytes transmission t) ≡ t
unfolding list_bytes
tells_back transmission overflow e = refl
tells_back transmission (these os) e =
    let each : all_lawful os ≡ true = (unfold lawful_told in (and_parts (all_lawful os) _ (and_parts (not (over os)) _ (and_parts (leb (length os) 64) _ e).1).1).0) in
    let small = not_over os (lawful_not_over os e) in
    let low : leb 0x80 ((7 + length (body os)) / 65536 % 256) ≡ false = lt-leb 0x80 _ (omega arith) in
    let back = fronts_back os each in
    λ i. cond (low i) overflow (these (back i))

transmitted : (transmission : ℕ) (t : Told) → byte (list_bytes transmission t) 6 ≡ transmission
unfolding list_bytes
transmitted transmission overflow = refl
transmitted transmission (these os) = refl

abbrev read_as : Bytes → (transmission : ℕ) → Told → Option Listing
read_as bytes transmission t = cond (lawful_told t && same_bytes bytes (list_bytes transmission t)) (Some (listing transmission t)) None

pub reads_back : ListsReadBack
unfolding read_list
reads_back transmission t e =
    let bytes = list_bytes transmission t in
    let is = tells_back transmission t e in
    let sent = transmitted transmission t in
    (λ i. read_as bytes (sent i) (is i))
    ∙ ap (λ (v : Bool). cond v (Some (listing transmission t)) None) (and_from _ _ e (same_refl bytes))
