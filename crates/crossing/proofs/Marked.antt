-- Marks at the places of a mask. Assumes nothing.
use Rattle.std.proofs.Common.{◌≡◌, ℕ, suc, ◌+◌, ◌<◌, ◌≤◌, Bool, true, false, cond, ◌&&◌, eqb, ltb, ◌⊎◌, List, [], ◌∷◌, length, Some, None, Option, sym, refl, ap, ◌∙◌, inl, inr, arith}
use Rattle.std.proofs.lemmas.Bool.Decides.{eqb_tells, nat_tests}
use Rattle.std.proofs.lemmas.Bool.{lt-ltb, le-ltb}
use Rattle.std.proofs.lemmas.Option.{none-some}
use Rattle.event.specs.Bytes.{Bytes}
use Rattle.event.specs.Identifiers.{bit}
use Rattle.event.specs.Sources.{Occurrence, ids}
use Rattle.board.specs.Boards.{Sources, at, reading_of}
use Rattle.board.proofs.Rereads.{at-below}
use Rattle.marks.specs.Marking.{Marking, unmarked, update, listed, listed_from, occurrences}
use Rattle.crossing.specs.Crossing.{chosen_from, chosen}

-- where each source from the place k on is marked with its reading if its place is set, those are listed
listed_set : (mask k : ℕ) (ss : Sources) (m : Marking) → ((p : ℕ) → p < length ss → m (k + p) ≡ cond (bit mask (k + p)) (reading_of (at ss p)) None) → listed_from k (ids ss) m ≡ chosen_from k mask ss
unfolding listed_from at chosen_from
listed_set mask k [] m h = refl
listed_set mask k (s ∷ ss) m h =
    let here : m k ≡ cond (bit mask k) (Some s.reading) None = ap m (omega arith) ∙ h 0 (omega arith) ∙ ap (λ (j : ℕ). cond (bit mask j) (Some s.reading) None) (omega arith) in
    let next : listed_from (suc k) (ids ss) m ≡ chosen_from (suc k) mask ss =
    listed_set mask (suc k) ss m (λ p b. ap m (omega arith) ∙ h (suc p) (omega arith) ∙ ap (λ (j : ℕ). cond (bit mask j) (reading_of (at ss p)) None) (omega arith)) in
    ap (λ (o : Option Bytes). listed s.id o (listed_from (suc k) (ids ss) m)) here
    ∙ ap (λ (os : List Occurrence). listed s.id (cond (bit mask k) (Some s.reading) None) os) next
    ∙ go (bit mask k) (chosen_from (suc k) mask ss)
  where
    go : (b : Bool) (os : List Occurrence) → listed s.id (cond b (Some s.reading) None) os ≡ cond b (s ∷ os) os
    go true os = refl
    go false os = refl

-- the places below i that are set are marked with their readings, and no others
abbrev pub MarkedBelow : Sources → (mask i : ℕ) → Marking → Type 0
MarkedBelow told mask i m = (q : ℕ) → m q ≡ cond (ltb q i && bit mask q) (reading_of (at told q)) None

pub none_marked : (told : Sources) (mask : ℕ) (m : Marking) → m ≡ unmarked → MarkedBelow told mask 0 m
unfolding unmarked
none_marked told mask m e q = ap (λ (k : Marking). k q) e ∙ sym (ap (λ (v : Bool). cond (v && bit mask q) (reading_of (at told q)) None) (le-ltb q 0 (omega arith)))

-- at any other place nothing changes
other : (told : Sources) (mask i q : ℕ) → (q ≡ i → ⊥) → cond (ltb q i && bit mask q) (reading_of (at told q)) None ≡ cond (ltb q (i + 1) && bit mask q) (reading_of (at told q)) None
other told mask i q ne = ap (λ (v : Bool). cond (v && bit mask q) (reading_of (at told q)) None) (grind (arith, nat_tests))

-- one mark more
pub marked_more : (told : Sources) (mask i : ℕ) (m n : Marking) → n ≡ update m i (reading_of (at told i)) → bit mask i ≡ true → MarkedBelow told mask i m → MarkedBelow told mask (i + 1) n
unfolding update
marked_more told mask i m n e on h q = go (eqb_tells q i)
  where
    go : ((eqb q i ≡ true) × (q ≡ i)) ⊎ ((eqb q i ≡ false) × (q ≡ i → ⊥)) → n q ≡ cond (ltb q (i + 1) && bit mask q) (reading_of (at told q)) None
    go (inl t) =
        let is : q ≡ i = t.1 in
        let below : ltb q (i + 1) ≡ true = lt-ltb q (i + 1) (omega arith) in
        let set : bit mask q ≡ true = ap (bit mask) is ∙ on in
        ap (λ (k : Marking). k q) e ∙ ap (λ (v : Bool). cond v (reading_of (at told i)) (m q)) t.0
        ∙ ap (λ (j : ℕ). reading_of (at told j)) (sym is)
        ∙ sym (ap (λ (v : Bool). cond (v && bit mask q) (reading_of (at told q)) None) below ∙ ap (λ (v : Bool). cond v (reading_of (at told q)) None) set)
    go (inr t) =
        ap (λ (k : Marking). k q) e ∙ ap (λ (v : Bool). cond v (reading_of (at told i)) (m q)) t.0 ∙ h q ∙ other told mask i q t.1

-- a place that is not set
pub marked_same : (told : Sources) (mask i : ℕ) (m : Marking) → bit mask i ≡ false → MarkedBelow told mask i m → MarkedBelow told mask (i + 1) m
marked_same told mask i m off h q = go (eqb_tells q i)
  where
    go : ((eqb q i ≡ true) × (q ≡ i)) ⊎ ((eqb q i ≡ false) × (q ≡ i → ⊥)) → m q ≡ cond (ltb q (i + 1) && bit mask q) (reading_of (at told q)) None
    go (inl t) =
        let clear : bit mask q ≡ false = ap (bit mask) t.1 ∙ off in
        h q ∙ ends (ltb q i) (ltb q (i + 1)) (bit mask q) clear
      where
        ends : (a b c : Bool) → c ≡ false → cond (a && c) (reading_of (at told q)) None ≡ cond (b && c) (reading_of (at told q)) None
        ends true true c e = refl
        ends true false c e = ap (λ (v : Bool). cond v (reading_of (at told q)) None) e
        ends false true c e = sym (ap (λ (v : Bool). cond v (reading_of (at told q)) None) e)
        ends false false c e = refl
    go (inr t) = h q ∙ other told mask i q t.1

pub all_listed : (told : Sources) (mask i : ℕ) (m : Marking) → length told ≤ i → MarkedBelow told mask i m → occurrences (ids told) m ≡ chosen mask told
all_listed told mask i m all h =
    listed_set mask 0 told m
    (λ p b. ap m (omega arith) ∙ h p ∙ ap (λ (v : Bool). cond (v && bit mask p) (reading_of (at told p)) None) (lt-ltb p i (omega arith)) ∙ ap (λ (j : ℕ). cond (bit mask j) (reading_of (at told p)) None) (omega arith))

-- there is a reading at each place
pub never : (told : Sources) (i : ℕ) → i < length told → None ≡ reading_of (at told i) → ⊥
never told i b e = let p = at-below told i b in none-some p.0.reading (e ∙ ap reading_of p.1)
