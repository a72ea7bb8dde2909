-- The digits of a number, one step on, and a number that is capped past its limit. Assumes nothing.
use Rattle.std.proofs.Common.{◌≡◌, ◌⊎◌, ℕ, ◌+◌, ◌*◌, ◌<◌, ◌≤◌, min, leb, [], ◌∷◌, length, get_or, drop, Some, None, Ok, Err, Option, Result, MatchResult, ok_or, sym, refl, ap, ◌∙◌, inl, inr, ⊎_elim, le-mul_of_pos_right, arith}
use Rattle.std.proofs.lemmas.List.{at_drop_more, at_drop_all}
use Rattle.std.proofs.lemmas.Bool.{lt-leb, le-leb, cases_lt, cond-false, cond-true}
use Rattle.event.specs.Bytes.{Bytes}
use Rattle.syntax.specs.declared.fault.Fault.{Fault}
use Rattle.syntax.specs.declared.fault.Fault.TheVariants.{NoNumber, OutOfRange}
use Rattle.syntax.specs.Numbers.{digit_in, digits_from, at_most, number_of, as_number}

-- the fault where a value was missing
pub missing : {T : Type 0} (o : Option T) (given fault : Fault) → ◌≡◌ {A = Result T Fault} (Err fault) (ok_or o given) → fault ≡ given
missing None given fault e = cc
missing (Some x) given fault e = cc

-- what a digit leads to
abbrev next : (base before : ℕ) → Bytes → Option ℕ → Option ℕ
next base before bs None = None
next base before bs (Some value) = digits_from base (before * base + value) bs

digits_next : (base before b : ℕ) (bs : Bytes) → digits_from base before (b ∷ bs) ≡ next base before bs (digit_in base b)
unfolding digits_from
digits_next base before b bs = elim (digit_in base b) as (λ o. elim o [ None ↦ None | Some value ↦ digits_from base (before * base + value) bs ] ≡ next base before bs o) [ None ↦ refl | Some value ↦ refl ]

-- past the limit, so is every number that begins so
past : (limit n : ℕ) → limit < n → at_most limit (Some n) ≡ Err OutOfRange
past limit n h = cond-false (leb n limit) (Ok n) (Err OutOfRange) (lt-leb n limit h)

grown : (base limit m value : ℕ) → 1 ≤ base → limit < m → limit < m * base + value
grown base limit m value pos h = let g : m ≤ m * base = le-mul_of_pos_right m pos in omega arith

digits_past : (base limit m n : ℕ) → 1 ≤ base → limit < m → limit < n → (bs : Bytes) → at_most limit (digits_from base m bs) ≡ at_most limit (digits_from base n bs)
unfolding digits_from
digits_past base limit m n pos hm hn [] = past limit m hm ∙ sym (past limit n hn)
digits_past base limit m n pos hm hn (b ∷ bs) =
    ap (at_most limit) (digits_next base m b bs)
    ∙ (elim (digit_in base b) as (λ o. at_most limit (next base m bs o) ≡ at_most limit (next base n bs o)) [
      | None ↦ refl
      | Some value ↦ digits_past base limit (m * base + value) (n * base + value) pos (grown base limit m value pos hm) (grown base limit n value pos hn) bs
    ])
    ∙ sym (ap (at_most limit) (digits_next base n b bs))

-- two numbers that are the same, or both past the limit
same_past : (base limit m n : ℕ) → 1 ≤ base → (m ≡ n) ⊎ ((limit < m) × (limit < n)) → (bs : Bytes) → at_most limit (digits_from base m bs) ≡ at_most limit (digits_from base n bs)
same_past base limit m n pos same bs =
    ⊎_elim (λ e. ap (λ k. at_most limit (digits_from base k bs)) e) (λ h. digits_past base limit m n pos h.0 h.1 bs) same

-- one digit more, and a number that stays below the top
pub digit_more : (base limit top before value now i : ℕ) (word : Bytes) → 1 ≤ base → limit < top → i < length word → Some value ≡ digit_in base (get_or word i 0) → now ≡ min (before * base + value) top
    → at_most limit (digits_from base now (drop (i + 1) word)) ≡ at_most limit (digits_from base before (drop i word))
digit_more base limit top before value now i word pos high inside is e =
    let said : ℕ = before * base + value in
    same_past base limit now said pos (⊎_elim (λ h. inr (omega arith, omega arith)) (λ h. inl (omega arith)) (cases_lt top said)) (drop (i + 1) word)
    ∙ ap (λ o. at_most limit (next base before (drop (i + 1) word) o)) is
    ∙ sym (ap (at_most limit) (digits_next base before (get_or word i 0) (drop (i + 1) word)))
    ∙ sym (ap (at_most limit) (at_drop_more (digits_from base before) word i 0 inside))

-- a byte that is no digit
pub digit_none : (base limit before i : ℕ) (word : Bytes) → i < length word → None ≡ digit_in base (get_or word i 0) → at_most limit (digits_from base before (drop i word)) ≡ Err NoNumber
digit_none base limit before i word inside is =
    ap (at_most limit) (at_drop_more (digits_from base before) word i 0 inside)
    ∙ ap (at_most limit) (digits_next base before (get_or word i 0) (drop (i + 1) word))
    ∙ sym (ap (λ o. at_most limit (next base before (drop (i + 1) word) o)) is)

-- no digit is left
pub digits_all : (base limit before i : ℕ) (word : Bytes) → length word ≤ i → at_most limit (digits_from base before (drop i word)) ≡ at_most limit (Some before)
unfolding digits_from
digits_all base limit before i word end = ap (at_most limit) (at_drop_all (digits_from base before) word i end)

-- a number was turned into a value of a type
pub turned : {T E : Type 0} (greatest : ℕ) (number : T → ℕ) (value : ℕ) (tried : Result T E) (r : Result T Fault)
    → MatchResult tried (λ v. (value ≤ greatest) × (number v ≡ value)) (λ _. greatest < value)
    → MatchResult tried (λ v. r ≡ Ok v) (λ _. r ≡ Err OutOfRange)
    → as_number number r ≡ at_most greatest (Some value)
turned greatest number value (Ok v) r h e =
    ap (as_number number) e
    ∙ ap Ok h.1
    ∙ sym (cond-true (leb value greatest) (Ok value) (Err OutOfRange) (le-leb value greatest h.0))
turned greatest number value (Err x) r h e = ap (as_number number) e ∙ sym (past greatest value h)

-- the number of a word that is not empty
pub number_is : (base limit : ℕ) (word : Bytes) → 0 < length word → number_of base limit word ≡ at_most limit (digits_from base 0 word)
number_is base limit [] h = absurd (omega arith)
number_is base limit (b ∷ bs) h = refl
