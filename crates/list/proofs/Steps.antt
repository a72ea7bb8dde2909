-- The occurrences in bytes, step by step. Assumes nothing.
use Rattle.std.proofs.Common.{◌≡◌, ℕ, zero, suc, ◌+◌, ◌-◌, ◌<◌, ◌≤◌, Bool, true, false, cond, ◌&&◌, leb, List, [], ◌∷◌, ◌++◌, length, drop, sym, refl, ap, ◌∙◌, arith}
use Rattle.std.proofs.lemmas.List.{length-take-le, length-append}
use Rattle.std.proofs.lemmas.Bool.{le-leb, cond_both}
use Rattle.event.specs.Bytes.{Bytes}
use Rattle.event.specs.Sources.{Occurrence, ids}
use Rattle.event.specs.declared.id.UniqueId.{UniqueId}
use Rattle.list.specs.Lists.{reading_length, front, has_front, fronts}
use Rattle.list.specs.Reader.{Begins}
use Rattle.list.specs.declared.types.Front.{Front}

-- the bytes behind the occurrence at the front
abbrev pub behind : Bytes → Bytes
behind bytes = drop (reading_length bytes) (drop 9 bytes)

pub fronts-none : (n : ℕ) (bytes : Bytes) → n ≡ 0 → fronts n bytes ≡ []
unfolding fronts
fronts-none zero bytes e = refl
fronts-none (suc n) bytes e = absurd (omega arith)

pub fronts_end : (n : ℕ) (bytes : Bytes) → has_front bytes ≡ false → fronts n bytes ≡ []
unfolding fronts
fronts_end zero bytes e = refl
fronts_end (suc n) bytes e = ap (λ (v : Bool). cond v (front bytes ∷ fronts n (behind bytes)) []) e

pub fronts_more : (n : ℕ) (bytes : Bytes) → 0 < n → has_front bytes ≡ true → fronts n bytes ≡ front bytes ∷ fronts (n - 1) (behind bytes)
unfolding fronts
fronts_more zero bytes h e = absurd (omega arith)
fronts_more (suc n) bytes h e =
    let less : n ≡ suc n - 1 = omega arith in
    ap (λ (v : Bool). cond v (front bytes ∷ fronts n (behind bytes)) []) e ∙ ap (λ (k : ℕ). front bytes ∷ fronts k (behind bytes)) less

-- where the nine bytes and the reading do not stand
pub no_front : (bytes : Bytes) → (leb 9 (length bytes) && leb (reading_length bytes) (length (drop 9 bytes))) ≡ false → has_front bytes ≡ false
no_front bytes e = go (leb 9 (length bytes)) (leb (reading_length bytes) 64) (leb (reading_length bytes) (length (drop 9 bytes))) e
  where
    go : (a b c : Bool) → (a && c) ≡ false → (a && (b && c)) ≡ false
    go true true c e = e
    go true false c e = refl
    go false b c e = refl

-- where they do, the reading's length decides
pub front_by_length : (bytes : Bytes) (f : Front) → Begins bytes f → has_front bytes ≡ leb (length f.reading.now) 64
front_by_length bytes f h =
    let n : length f.reading.now ≡ reading_length bytes = ap length h.reading ∙ length-take-le (reading_length bytes) (drop 9 bytes) h.whole in
    go (leb 9 (length bytes)) (leb (reading_length bytes) 64) (leb (reading_length bytes) (length (drop 9 bytes))) (le-leb 9 _ h.nine) (le-leb _ _ h.whole)
    ∙ ap (λ (k : ℕ). leb k 64) (sym n)
  where
    go : (a b c : Bool) → a ≡ true → c ≡ true → (a && (b && c)) ≡ b
    go a true c p q = λ i. p i && q i
    go a false c p q = ap (λ (v : Bool). v && false) p

-- there are at most as many as were asked for
pub fronts-few : (n : ℕ) (bytes : Bytes) → length (fronts n bytes) ≤ n
unfolding fronts
fronts-few zero bytes = omega arith
fronts-few (suc n) bytes =
    let h = fronts-few n (behind bytes) in
    cond_both (has_front bytes) (front bytes ∷ fronts n (behind bytes)) [] (λ (os : List Occurrence). length os ≤ suc n) (λ e. omega arith) (λ e. omega arith)

-- UNIQUE IDS THAT ARE GATHERED

pub length_ids : (os : List Occurrence) → length (ids os) ≡ length os
length_ids [] = refl
length_ids (o ∷ os) = ap suc (length_ids os)

-- some are gathered, one is read, and the others are left
pub gathered_count : (row : List UniqueId) (all ls os : List Occurrence) (o : Occurrence) → row ++ ids ls ≡ ids all → ls ≡ o ∷ os → length row + 1 + length os ≡ length all
gathered_count row all ls os o e is =
    let a = length-append row (ids ls) in
    let b = ap length e in
    let d = length_ids all in
    let f : length (ids ls) ≡ suc (length os) = length_ids ls ∙ ap length is in
    omega arith
