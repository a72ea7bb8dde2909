-- A list is read by what its header and its body say. Assumes nothing.
use Rattle.std.proofs.Common.{◌≡◌, ℕ, ◌+◌, ◌/◌, ◌%◌, ◌<◌, ◌≤◌, Bool, true, false, cond, not, ◌&&◌, eqb, leb, List, [], ◌∷◌, ◌++◌, length, take, drop, Some, None, Option, sym, refl, ap, ◌∙◌, arith}
use Rattle.std.proofs.lemmas.List.{nil_from_length}
use Rattle.std.proofs.lemmas.Bool.{le-leb, leb-true, eqb-true, eq-eqb, and_parts, and_from, and_right, not-true, cond-true, cond-false}
use Rattle.std.proofs.lemmas.Bool.Decides.{nat_tests}
use Rattle.event.specs.Bytes.{Bytes, byte, same_bytes, le24, four}
use Rattle.event.specs.Sources.{Occurrence, all_lawful}
use Rattle.list.specs.Lists.{body, over, Told, these, overflow, list_bytes, lawful_told, fronts, tells as told_in, Listing, listing, read_list}
use Rattle.list.specs.Reader.{is_body, lawful_body, read_told}
use Rattle.event.proofs.SameBytes.{same_is, same_from, same_length}
use Rattle.list.proofs.Passed.{same_test}
use Rattle.list.proofs.Numbers.{le32-four}
use Rattle.list.proofs.Lengths.{not_over, has-header}
use Rattle.list.proofs.Bodies.{Fit, split7}

-- a list of this transmission info, if something is told
abbrev pub listed : (transmission : ℕ) → Option Told → Option Listing
listed transmission None = None
listed transmission (Some t) = Some (listing transmission t)

-- does it pass the questions to the header, and what does the rest tell?
abbrev pub read_by : Bytes → Option Listing
read_by s = cond (eqb (byte s 1) 0 && eqb (byte s 5) 7) (listed (byte s 6) (read_told (byte s 0) (four (byte s 2) (byte s 3) (byte s 4) 0) (drop 7 s))) None

-- bytes that have no header are no list
pub no_header : (s : Bytes) → length s < 7 → read_list s ≡ None
unfolding read_list
no_header s h =
    let t = list_bytes (byte s 6) (told_in s) in
    let long = has-header (byte s 6) (told_in s) in
    cond-false _ _ _ (and_right (lawful_told (told_in s)) (same_bytes s t) (same_length s t (λ e. omega arith)))

-- TWO TESTS ONE AFTER THE OTHER

both_tests : (p q : Bool) (transmission : ℕ) (t : Told) → cond p (listed transmission (cond q (Some t) None)) None ≡ cond (p && q) (Some (listing transmission t)) None
both_tests true true transmission t = refl
both_tests true false transmission t = refl
both_tests false q transmission t = refl

within_limit : (os : List Occurrence) → length (body os) ≤ 4096 → not (over os) ≡ true
unfolding over
within_limit os h = ap (λ (v : Bool). not (not v)) (le-leb _ _ h)

-- the questions to a list that tells t, and whether it is written so
abbrev is_written : Bytes → Told → Bool
is_written s t = lawful_told t && same_bytes s (list_bytes (byte s 6) t)

module _ (s : Bytes) (fit : Fit s) (seven : 7 ≤ length s) where
  abbrev info : ℕ
  info = four (byte s 2) (byte s 3) (byte s 4) 0

  abbrev heads : Bool
  heads = eqb (byte s 1) 0 && eqb (byte s 5) 7

  abbrev os : List Occurrence
  os = fronts (byte s 0) (drop 7 s)

  abbrev overflows : Bool
  overflows = eqb (byte s 0) 0 && (eqb info 0x800000 && eqb (length (drop 7 s)) 0)

  abbrev tells_these : Bool
  tells_these = eqb info (7 + length (drop 7 s)) && lawful_body (byte s 0) (drop 7 s)

  -- the overflow bit
  high : leb 0x800000 info ≡ leb 0x80 (byte s 4)
  high = let a = fit 2 in let b = fit 3 in let d = fit 4 in grind (arith, nat_tests)

  -- the length info in its three bytes
  info_bytes : (n : ℕ) → info ≡ n → byte s 2 ∷ byte s 3 ∷ byte s 4 ∷ [] ≡ le24 n
  info_bytes n e = sym (ap (take 3) (le32-four (byte s 2) (byte s 3) (byte s 4) 0 (fit 2) (fit 3) (fit 4) (omega arith))) ∙ ap le24 e

  overflow-written : is_written s overflow ≡ (heads && overflows)
  unfolding lawful_told list_bytes
  overflow-written = same_test _ _ there back
    where
      there : is_written s overflow ≡ true → (heads && overflows) ≡ true
      there e =
          let w = same_is s _ e in
          let b0 : byte s 0 ≡ 0 = ap (λ (l : Bytes). byte l 0) w in
          let b1 : byte s 1 ≡ 0 = ap (λ (l : Bytes). byte l 1) w in
          let b2 : byte s 2 ≡ 0 = ap (λ (l : Bytes). byte l 2) w in
          let b3 : byte s 3 ≡ 0 = ap (λ (l : Bytes). byte l 3) w in
          let b4 : byte s 4 ≡ 0x80 = ap (λ (l : Bytes). byte l 4) w in
          let b5 : byte s 5 ≡ 7 = ap (λ (l : Bytes). byte l 5) w in
          let rest : length (drop 7 s) ≡ 0 = ap (λ (l : Bytes). length (drop 7 l)) w in
          let total : info ≡ 0x800000 = omega arith in
          and_from _ _ (and_from _ _ (eq-eqb _ _ b1) (eq-eqb _ _ b5)) (and_from _ _ (eq-eqb _ _ b0) (and_from _ _ (eq-eqb _ _ total) (eq-eqb _ _ rest)))

      back : (heads && overflows) ≡ true → is_written s overflow ≡ true
      back e =
          let p = and_parts heads _ e in
          let h = and_parts (eqb (byte s 1) 0) _ p.0 in
          let q = and_parts (eqb (byte s 0) 0) _ p.1 in
          let r = and_parts (eqb info 0x800000) _ q.1 in
          let b0 = eqb-true _ _ q.0 in
          let b1 = eqb-true _ _ h.0 in
          let b234 = info_bytes 0x800000 (eqb-true _ _ r.0) in
          let b5 = eqb-true _ _ h.1 in
          let rest = nil_from_length (drop 7 s) (eqb-true _ _ r.1) in
          same_from _ _ (split7 s seven ∙ (λ i. b0 i ∷ b1 i ∷ (b234 i ++ (b5 i ∷ byte s 6 ∷ rest i))))

  these-written : is_written s (these os) ≡ (heads && tells_these)
  unfolding lawful_told list_bytes is_body
  these-written = same_test _ _ there back
    where
      there : is_written s (these os) ≡ true → (heads && tells_these) ≡ true
      there e =
          let p = and_parts (lawful_told (these os)) _ e in
          let q1 = and_parts (leb (length os) 64) _ p.0 in
          let q2 = and_parts (not (over os)) _ q1.1 in
          let q3 = and_parts (all_lawful os) _ q2.1 in
          let w = same_is s _ p.1 in
          let few = leb-true _ _ q1.0 in
          let short = not_over os (not-true _ q2.0) in
          let n = 7 + length (body os) in
          let b0 : byte s 0 ≡ length os = ap (λ (l : Bytes). byte l 0) w in
          let b1 : byte s 1 ≡ 0 = ap (λ (l : Bytes). byte l 1) w in
          let b2 : byte s 2 ≡ n % 256 = ap (λ (l : Bytes). byte l 2) w in
          let b3 : byte s 3 ≡ n / 256 % 256 = ap (λ (l : Bytes). byte l 3) w in
          let b4 : byte s 4 ≡ n / 65536 % 256 = ap (λ (l : Bytes). byte l 4) w in
          let b5 : byte s 5 ≡ 7 = ap (λ (l : Bytes). byte l 5) w in
          let rest : drop 7 s ≡ body os = ap (λ (l : Bytes). drop 7 l) w in
          let long : length (drop 7 s) ≡ length (body os) = ap length rest in
          let total : info ≡ 7 + length (drop 7 s) = omega arith in
          and_from _ _ (and_from _ _ (eq-eqb _ _ b1) (eq-eqb _ _ b5))
          (and_from _ _ (eq-eqb _ _ total)
          (and_from _ _ (le-leb (byte s 0) 64 (omega arith))
          (and_from _ _ (le-leb (length (drop 7 s)) 4096 (omega arith))
          (and_from _ _ (and_from _ _ (eq-eqb _ _ (sym b0)) (and_from _ _ (same_from _ _ rest) q3.0)) q3.1))))

      back : (heads && tells_these) ≡ true → is_written s (these os) ≡ true
      back e =
          let p = and_parts heads _ e in
          let h = and_parts (eqb (byte s 1) 0) _ p.0 in
          let t = and_parts (eqb info (7 + length (drop 7 s))) _ p.1 in
          let q1 = and_parts (leb (byte s 0) 64) _ t.1 in
          let q2 = and_parts (leb (length (drop 7 s)) 4096) _ q1.1 in
          let q3 = and_parts (is_body (byte s 0) (drop 7 s)) _ q2.1 in
          let q4 = and_parts (eqb (length os) (byte s 0)) _ q3.0 in
          let q5 = and_parts (same_bytes (drop 7 s) (body os)) _ q4.1 in
          let b0 : byte s 0 ≡ length os = sym (eqb-true _ _ q4.0) in
          let b1 = eqb-true _ _ h.0 in
          let b5 = eqb-true _ _ h.1 in
          let rest : drop 7 s ≡ body os = same_is _ _ q5.0 in
          let long : length (drop 7 s) ≡ length (body os) = ap length rest in
          let total : info ≡ 7 + length (body os) = eqb-true _ _ t.0 ∙ ap (λ (k : ℕ). 7 + k) long in
          let b234 = info_bytes (7 + length (body os)) total in
          let short : length (body os) ≤ 4096 = (let k = leb-true _ _ q2.0 in omega arith) in
          let few : length os ≤ 64 = (let k = leb-true _ _ q1.0 in omega arith) in
          and_from _ _
          (and_from _ _ (le-leb _ _ few) (and_from _ _ (within_limit os short) (and_from _ _ q5.1 q3.1)))
          (same_from _ _ (split7 s seven ∙ (λ i. b0 i ∷ b1 i ∷ (b234 i ++ (b5 i ∷ byte s 6 ∷ rest i)))))

  -- read as the code reads it
  read_is : (v : Bool) → leb 0x80 (byte s 4) ≡ v → read_list s ≡ read_by s
  unfolding read_list read_told
  read_is true e =
      (λ i. cond (is_written s (cond (e i) overflow (these os))) (Some (listing (byte s 6) (cond (e i) overflow (these os)))) None)
      ∙ ap (λ (b : Bool). cond b (Some (listing (byte s 6) overflow)) None) overflow-written
      ∙ sym (both_tests heads overflows (byte s 6) overflow)
      ∙ ap (λ (b : Bool). cond heads (listed (byte s 6) (cond b (cond overflows (Some overflow) None) (cond tells_these (Some (these os)) None))) None) (sym (high ∙ e))
  read_is false e =
      (λ i. cond (is_written s (cond (e i) overflow (these os))) (Some (listing (byte s 6) (cond (e i) overflow (these os)))) None)
      ∙ ap (λ (b : Bool). cond b (Some (listing (byte s 6) (these os))) None) these-written
      ∙ sym (both_tests heads tells_these (byte s 6) (these os))
      ∙ ap (λ (b : Bool). cond heads (listed (byte s 6) (cond b (cond overflows (Some overflow) None) (cond tells_these (Some (these os)) None))) None) (sym (high ∙ e))

  pub read-by : read_list s ≡ read_by s
  read-by = read_is (leb 0x80 (byte s 4)) refl

  -- a header that is not in form
  pub refused : heads ≡ false → None ≡ read_list s
  refused e = sym (read-by ∙ cond-false heads _ _ e)

  -- else what the number, the length info and the body tell
  pub told : byte s 1 ≡ 0 → byte s 5 ≡ 7 → (n : ℕ) (rest : Bytes) (t : Option Told) → n ≡ info → rest ≡ drop 7 s → t ≡ read_told (byte s 0) n rest → listed (byte s 6) t ≡ read_list s
  told v h n rest t i b e =
      ap (listed (byte s 6)) (e ∙ (λ k. read_told (byte s 0) (i k) (b k)))
      ∙ sym (read-by ∙ cond-true heads _ _ (and_from _ _ (eq-eqb _ _ v) (eq-eqb _ _ h)))
