-- A body of lawful occurrences, step by step. Assumes nothing.
use Rattle.std.proofs.Common.{◌≡◌, ℕ, suc, ◌+◌, ◌-◌, ◌<◌, ◌≤◌, Bool, true, false, cond, ◌&&◌, eqb, List, [], ◌∷◌, ◌++◌, length, take, drop, MatchOption, sym, refl, ap, ◌∙◌, ⊎_elim, arith}
use Rattle.std.specs.Bool.{then_some}
use lib.Dec.{eqb-zero-suc, eqb-suc-zero, eqb-suc-suc}
use Rattle.std.proofs.lemmas.List.{drop_more, drop_at, length-take-le, take-append-drop}
use Rattle.std.proofs.lemmas.Bool.{le-leb, eqb-true, eq-eqb, and_parts, and_from, cases_Bool}
use Rattle.std.proofs.lemmas.Bool.Decides.{nat_tests}
use Rattle.event.specs.Bytes.{Bytes, byte, same_bytes}
use Rattle.event.specs.Sources.{Occurrence, is_vendor, lawful_id, lawful_reading, lawful_occurrence, all_lawful}
use Rattle.list.specs.Lists.{specific_length, vendor_length, occurrence_bytes, body, reading_length, front, has_front, fronts}
use Rattle.list.specs.Reader.{Begins, other_length, in_form, is_body}
use Rattle.list.specs.declared.types.Front.{Front}
use Rattle.event.proofs.Readings.{reading-short}
use Rattle.event.proofs.SameBytes.{same_is, same_from}
use Rattle.list.proofs.Passed.{same_test}
use Rattle.list.proofs.Numbers.{le32-four}
use Rattle.list.proofs.Steps.{behind, fronts_end, fronts_more, front_by_length}

-- every one is a byte
abbrev pub Fit : Bytes → Type 0
Fit bytes = (k : ℕ) → byte bytes k < 256

-- the first bytes, one by one
pub split7 : (s : Bytes) → 7 ≤ length s → s ≡ byte s 0 ∷ byte s 1 ∷ byte s 2 ∷ byte s 3 ∷ byte s 4 ∷ byte s 5 ∷ byte s 6 ∷ drop 7 s
split7 s h =
    drop_more s 0 0 (omega arith)
    ∙ ap (λ (l : Bytes). byte s 0 ∷ l) (drop_more s 1 0 (omega arith)
    ∙ ap (λ (l : Bytes). byte s 1 ∷ l) (drop_more s 2 0 (omega arith)
    ∙ ap (λ (l : Bytes). byte s 2 ∷ l) (drop_more s 3 0 (omega arith)
    ∙ ap (λ (l : Bytes). byte s 3 ∷ l) (drop_more s 4 0 (omega arith)
    ∙ ap (λ (l : Bytes). byte s 4 ∷ l) (drop_more s 5 0 (omega arith)
    ∙ ap (λ (l : Bytes). byte s 5 ∷ l) (drop_more s 6 0 (omega arith)))))))

split9 : (s : Bytes) → 9 ≤ length s → s ≡ byte s 0 ∷ byte s 1 ∷ byte s 2 ∷ byte s 3 ∷ byte s 4 ∷ byte s 5 ∷ byte s 6 ∷ byte s 7 ∷ byte s 8 ∷ drop 9 s
split9 s h =
    split7 s (omega arith)
    ∙ ap (λ (l : Bytes). byte s 0 ∷ byte s 1 ∷ byte s 2 ∷ byte s 3 ∷ byte s 4 ∷ byte s 5 ∷ byte s 6 ∷ l)
    (drop_more s 7 0 (omega arith) ∙ ap (λ (l : Bytes). byte s 7 ∷ l) (drop_more s 8 0 (omega arith)))

-- the two lengths in the head
abbrev lengths_right : Bytes → Bool
lengths_right s = eqb (byte s 1) (specific_length (byte s 3) (reading_length s)) && eqb (byte s 2) (vendor_length (byte s 3) (reading_length s))

abbrev head_right : Bytes → Bool
head_right s = eqb (byte s 0) 9 && lengths_right s

-- both stand right where the other one is 0
lengths-right : (v : Bool) (a b : ℕ) → (eqb a (cond v 0 (a + b)) && eqb b (cond v (a + b) 0)) ≡ eqb (cond v a b) 0
lengths-right true a b = grind (arith, nat_tests)
lengths-right false a b = grind (arith, nat_tests)

module _ (s : Bytes) (fit : Fit s) (nine : 9 ≤ length s) (whole : reading_length s ≤ length (drop 9 s)) where
  abbrev read : Bytes
  read = take (reading_length s) (drop 9 s)

  read_length : length read ≡ reading_length s
  read_length = length-take-le (reading_length s) (drop 9 s) whole

  -- what is written again and stands there
  written : (t : Bytes) → s ≡ occurrence_bytes (front s) ++ t → (head_right s ≡ true) × (behind s ≡ t)
  unfolding occurrence_bytes
  written t e =
      let n = read_length in
      let a : byte s 0 ≡ 9 = ap (λ (l : Bytes). byte l 0) e in
      let b : byte s 1 ≡ specific_length (byte s 3) (length read) = ap (λ (l : Bytes). byte l 1) e in
      let d : byte s 2 ≡ vendor_length (byte s 3) (length read) = ap (λ (l : Bytes). byte l 2) e in
      let r : drop 9 s ≡ read ++ t = ap (λ (l : Bytes). drop 9 l) e in (
        and_from _ _ (eq-eqb _ _ a)
            (and_from _ _ (eq-eqb _ _ (b ∙ ap (specific_length (byte s 3)) n)) (eq-eqb _ _ (d ∙ ap (vendor_length (byte s 3)) n))),
        ap (drop (reading_length s)) r ∙ drop_at read t (reading_length s) n,
      )

  rewritten : (t : Bytes) → head_right s ≡ true → behind s ≡ t → s ≡ occurrence_bytes (front s) ++ t
  unfolding occurrence_bytes
  rewritten t h e =
      let one = and_parts (eqb (byte s 0) 9) _ h in
      let two = and_parts (eqb (byte s 1) (specific_length (byte s 3) (reading_length s))) _ one.1 in
      let n = read_length in
      let a : byte s 0 ≡ 9 = eqb-true _ _ one.0 in
      let b : byte s 1 ≡ specific_length (byte s 3) (length read) = eqb-true _ _ two.0 ∙ ap (specific_length (byte s 3)) (sym n) in
      let d : byte s 2 ≡ vendor_length (byte s 3) (length read) = eqb-true _ _ two.1 ∙ ap (vendor_length (byte s 3)) (sym n) in
      let info = sym (le32-four (byte s 4) (byte s 5) (byte s 6) (byte s 7) (fit 4) (fit 5) (fit 6) (fit 7)) in
      let r : drop 9 s ≡ read ++ t = sym (take-append-drop (reading_length s) (drop 9 s)) ∙ ap (λ (l : Bytes). read ++ l) e in
      split9 s nine ∙ (λ i. a i ∷ b i ∷ d i ∷ byte s 3 ∷ (info i ++ (byte s 8 ∷ r i)))

  same_front : (t : Bytes) → same_bytes s (occurrence_bytes (front s) ++ t) ≡ (head_right s && same_bytes (behind s) t)
  same_front t =
      same_test _ _
      (λ e. let w = written t (same_is s _ e) in and_from _ _ w.0 (same_from _ _ w.1))
      (λ e. let w = and_parts (head_right s) _ e in same_from _ _ (rewritten t w.0 (same_is _ _ w.1)))

-- the tests in another order
reorder : (x m b l c : Bool) → (x && ((m && b) && (l && c))) ≡ ((m && l) && (x && (b && c)))
reorder true true b true c = refl
reorder true true true false c = refl
reorder true true false false c = refl
reorder true false b l c = refl
reorder false true b true c = refl
reorder false true b false c = refl
reorder false false b l c = refl

regroup : (a u l : Bool) → ((a && u) && l) ≡ (a && (u && l))
regroup true u l = refl
regroup false u l = refl

-- are these so many occurrences, and are they what stands there?
abbrev are_body : ℕ → Bytes → List Occurrence → Bool
are_body n s os = eqb (length os) n && (same_bytes s (body os) && all_lawful os)

body_is : (n : ℕ) (s : Bytes) (os : List Occurrence) → fronts n s ≡ os → is_body n s ≡ are_body n s os
unfolding is_body
body_is n s os e = ap (are_body n s) e

-- where no front stands, more occurrences do not
pub body_without_front : (s : Bytes) → has_front s ≡ false → (n : ℕ) → is_body (suc n) s ≡ false
body_without_front s e n =
    body_is (suc n) s [] (fronts_end (suc n) s e) ∙ ap (λ (v : Bool). v && (same_bytes s (body []) && all_lawful [])) (eqb-zero-suc n)

module _ (s : Bytes) (fit : Fit s) (f : Front) (begins : Begins s f) where
  in-form : in_form f ≡ (head_right s && lawful_occurrence (front s))
  in-form =
      let m = begins.mark in
      let sp = begins.specific in
      let vn = begins.vendor in
      let id = begins.id in
      let reading = begins.reading in
      (λ i. eqb (m i) 9 && (eqb (cond (is_vendor (id i).identifier) (sp i) (vn i)) 0 && (lawful_id (id i) && lawful_reading (id i).identifier (reading i))))
      ∙ sym (regroup (eqb (byte s 0) 9) _ _)
      ∙ ap (λ (v : Bool). (eqb (byte s 0) 9 && v) && lawful_occurrence (front s)) (sym (lengths-right (is_vendor (byte s 3)) (byte s 1) (byte s 2)))

  -- a lawful occurrence has a reading of at most 64 bytes
  in-form-stands : in_form f ≡ true → has_front s ≡ true
  in-form-stands e =
      let a = (and_parts (eqb f.mark 9) _ e).1 in
      let b = (and_parts (eqb (other_length f) 0) _ a).1 in
      let d = (and_parts (lawful_id f.id) _ b).1 in
      front_by_length s f begins ∙ le-leb _ 64 (reading-short f.id.identifier f.reading.now d)

  body_more : has_front s ≡ true → (n : ℕ) → is_body (suc n) s ≡ (in_form f && is_body n f.rest.now)
  unfolding is_body body all_lawful
  body_more stands n =
      let rest = behind s in
      let fs = fronts n rest in
      let o = front s in
      let less : suc n - 1 ≡ n = omega arith in
      body_is (suc n) s (o ∷ fs) (fronts_more (suc n) s (omega arith) stands ∙ ap (λ (k : ℕ). o ∷ fronts k rest) less)
      ∙ ap (λ (v : Bool). v && (same_bytes s (occurrence_bytes o ++ body fs) && (lawful_occurrence o && all_lawful fs))) (eqb-suc-suc (length fs) n)
      ∙ ap (λ (v : Bool). eqb (length fs) n && (v && (lawful_occurrence o && all_lawful fs))) (same_front s fit begins.nine begins.whole (body fs))
      ∙ reorder (eqb (length fs) n) (head_right s) (same_bytes rest (body fs)) (lawful_occurrence o) (all_lawful fs)
      ∙ (λ i. sym in-form i && is_body n (sym begins.rest i))

  body_not_in_form : in_form f ≡ false → (n : ℕ) → is_body (suc n) s ≡ false
  body_not_in_form e n = ⊎_elim (λ yes. body_more yes n ∙ ap (λ (v : Bool). v && is_body n f.rest.now) e) (λ no_front. body_without_front s no_front n) (cases_Bool (has_front s))

  body_in_form : in_form f ≡ true → (n : ℕ) → is_body (suc n) s ≡ is_body n f.rest.now
  body_in_form e n = body_more (in-form-stands e) n ∙ ap (λ (v : Bool). v && is_body n f.rest.now) e

  -- behind a lawful occurrence the body goes on, and where none stands there is no body
  pub body_behind : (v : Bool) → v ≡ in_form f → MatchOption (then_some v f.rest) ((n : ℕ) → is_body (suc n) s ≡ false) (λ rest. (n : ℕ) → is_body (suc n) s ≡ is_body n rest.now)
  body_behind true e = body_in_form (sym e)
  body_behind false e = body_not_in_form (sym e)

-- after the last occurrence no byte is left
pub body-none : (s : Bytes) → is_body 0 s ≡ eqb (length s) 0
unfolding is_body fronts body all_lawful
body-none [] = refl
body-none (b ∷ s) = sym (eqb-suc-zero (length s))
