-- Unique IDs beside readings, and what a search among the IDs says of the entries. Assumes nothing.
use Rattle.std.proofs.Common.{◌≡◌, ℕ, zero, suc, ◌+◌, ◌<◌, ◌≤◌, Bool, true, false, cond, leb, List, [], ◌∷◌, ◌++◌, length, get_or, take, set, Some, None, sym, refl, ap, ◌∙◌, ⊎_elim, arith}
use Rattle.std.proofs.lemmas.List.{set-get_or, take_more_set, length-take-le, length_push, get_or-take}
use Rattle.std.proofs.lemmas.Bool.{cases_Bool, le-leb, lt-leb, cond-true, cond-false}
use Rattle.keys.specs.Keys.{First, Nowhere}
use Rattle.event.specs.declared.id.UniqueId.{UniqueId}
use Rattle.event.specs.declared.reading.Reading.{Reading}
use Rattle.event.specs.Bytes.{Bytes}
use Rattle.event.specs.Sources.{Occurrence, occurrence, same_id}
use Rattle.event.specs.View.{held}
use Rattle.event.proofs.SameId.{same_id_test}
use Rattle.board.specs.Boards.{at}
use Rattle.protocol.specs.Book.{find, enter, merge}
use Rattle.book.specs.declared.table.Table.{Table}
use Rattle.book.specs.Tables.{paired, rows, entered}

-- UNIQUE IDS

-- an ID is the same as itself
pub same_true : (u v : UniqueId) → v ≡ u → same_id u v ≡ true
same_true u v e = (same_id_test u v).1 (sym e)

-- two that differ are not the same
pub same_false : (u v : UniqueId) → (v ≡ u → ⊥) → same_id u v ≡ false
same_false u v ne = ⊎_elim (λ e. absurd (ne (sym ((same_id_test u v).0 e)))) (λ e. e) (cases_Bool (same_id u v))

first-later : (k : UniqueId) (ks : List UniqueId) (u : UniqueId) (i : ℕ) → First (k ∷ ks) u (suc i) → First ks u i
first-later k ks u i f = record { inside = (let h = f.inside in omega arith); here = f.here; before = λ j d h. f.before (suc j) d (omega arith) }

nowhere_later : (k : UniqueId) (ks : List UniqueId) (u : UniqueId) → Nowhere (k ∷ ks) u → Nowhere ks u
nowhere_later k ks u f = λ j d h. f (suc j) d (omega arith)

-- PAIRS

paired-set : (ks : List UniqueId) (rs : List Reading) (i : ℕ) (k : UniqueId) (r : Reading) → paired (set ks i k) (set rs i r) ≡ set (paired ks rs) i (occurrence k (held r))
unfolding paired
paired-set [] rs i k r = refl
paired-set (x ∷ ks) [] zero k r = refl
paired-set (x ∷ ks) [] (suc i) k r = refl
paired-set (x ∷ ks) (y ∷ rs) zero k r = refl
paired-set (x ∷ ks) (y ∷ rs) (suc i) k r = λ t. occurrence x (held y) ∷ paired-set ks rs i k r t

take-paired : (n : ℕ) (ks : List UniqueId) (rs : List Reading) → take n (paired ks rs) ≡ paired (take n ks) (take n rs)
unfolding paired
take-paired zero ks rs = refl
take-paired (suc n) [] rs = refl
take-paired (suc n) (k ∷ ks) [] = refl
take-paired (suc n) (k ∷ ks) (r ∷ rs) = λ t. occurrence k (held r) ∷ take-paired n ks rs t

length-paired : (ks : List UniqueId) (rs : List Reading) (n : ℕ) → length ks ≡ n → length rs ≡ n → length (paired ks rs) ≡ n
unfolding paired
length-paired [] rs n p q = p
length-paired (k ∷ ks) [] n p q = absurd (omega arith)
length-paired (k ∷ ks) (r ∷ rs) zero p q = absurd (omega arith)
length-paired (k ∷ ks) (r ∷ rs) (suc n) p q = ap suc (length-paired ks rs n (omega arith) (omega arith))

take_set_in : {X : Type 0} (n : ℕ) (l : List X) (i : ℕ) (a : X) → take n (set l i a) ≡ set (take n l) i a
take_set_in zero l i a = refl
take_set_in (suc n) [] i a = refl
take_set_in (suc n) (x ∷ l) zero a = refl
take_set_in (suc n) (x ∷ l) (suc i) a = λ t. x ∷ take_set_in n l i a t

-- WHAT A SEARCH SAYS

enter-first : (o : Occurrence) (ks : List UniqueId) (rs : List Reading) (i : ℕ) → length ks ≡ length rs → First ks o.id i → enter o (paired ks rs) ≡ set (paired ks rs) i o
unfolding paired enter
enter-first o [] rs i e f = let h = f.inside in absurd (omega arith)
enter-first o (k ∷ ks) [] i e f = absurd (omega arith)
enter-first o (k ∷ ks) (r ∷ rs) zero e f = cond-true (same_id o.id k) _ _ (same_true o.id k (f.here k))
enter-first o (k ∷ ks) (r ∷ rs) (suc i) e f =
    cond-false (same_id o.id k) _ _ (same_false o.id k (f.before 0 k (omega arith)))
    ∙ ap (λ (l : List Occurrence). occurrence k (held r) ∷ l) (enter-first o ks rs i (omega arith) (first-later k ks o.id i f))

enter_nowhere : (o : Occurrence) (ks : List UniqueId) (rs : List Reading) → length ks ≡ length rs → Nowhere ks o.id → enter o (paired ks rs) ≡ paired ks rs ++ (o ∷ [])
unfolding paired enter
enter_nowhere o [] rs e f = refl
enter_nowhere o (k ∷ ks) [] e f = absurd (omega arith)
enter_nowhere o (k ∷ ks) (r ∷ rs) e f =
    cond-false (same_id o.id k) _ _ (same_false o.id k (f 0 k (omega arith)))
    ∙ ap (λ (l : List Occurrence). occurrence k (held r) ∷ l) (enter_nowhere o ks rs (omega arith) (nowhere_later k ks o.id f))

find_first : (u : UniqueId) (ks : List UniqueId) (rs : List Reading) (i : ℕ) (d : Reading) → length ks ≡ length rs → First ks u i → find u (paired ks rs) ≡ Some (held (get_or rs i d))
unfolding paired find
find_first u [] rs i d e f = let h = f.inside in absurd (omega arith)
find_first u (k ∷ ks) [] i d e f = absurd (omega arith)
find_first u (k ∷ ks) (r ∷ rs) zero d e f = cond-true (same_id u k) _ _ (same_true u k (f.here k))
find_first u (k ∷ ks) (r ∷ rs) (suc i) d e f =
    cond-false (same_id u k) _ _ (same_false u k (f.before 0 k (omega arith))) ∙ find_first u ks rs i d (omega arith) (first-later k ks u i f)

find_nowhere : (u : UniqueId) (ks : List UniqueId) (rs : List Reading) → length ks ≡ length rs → Nowhere ks u → find u (paired ks rs) ≡ None
unfolding paired find
find_nowhere u [] rs e f = refl
find_nowhere u (k ∷ ks) [] e f = absurd (omega arith)
find_nowhere u (k ∷ ks) (r ∷ rs) e f =
    cond-false (same_id u k) _ _ (same_false u k (f 0 k (omega arith))) ∙ find_nowhere u ks rs (omega arith) (nowhere_later k ks u f)

-- ENTERING NEVER SHORTENS

longer_at : (o e : Occurrence) (es : List Occurrence) (b : Bool) → length es ≤ length (enter o es) → length (e ∷ es) ≤ length (cond b (o ∷ es) (e ∷ enter o es))
longer_at o e es true h = omega arith
longer_at o e es false h = omega arith

enter_longer : (o : Occurrence) (es : List Occurrence) → length es ≤ length (enter o es)
unfolding enter
enter_longer o [] = omega arith
enter_longer o (e ∷ es) = longer_at o e es (same_id o.id e.id) (enter_longer o es)

pub merge_longer : (es os : List Occurrence) → length es ≤ length (merge es os)
unfolding merge
merge_longer es [] = omega arith
merge_longer es (o ∷ os) = let h = enter_longer o es in let k = merge_longer (enter o es) os in omega arith

-- AT MOST 64

pub entered_fits : (o : Occurrence) (es : List Occurrence) → length (enter o es) ≤ 64 → entered o es ≡ enter o es
unfolding entered
entered_fits o es h = cond-true (leb (length (enter o es)) 64) _ _ (le-leb _ 64 h)

pub entered-over : (o : Occurrence) (es : List Occurrence) → 64 < length (enter o es) → entered o es ≡ es
unfolding entered
entered-over o es h = cond-false (leb (length (enter o es)) 64) _ _ (lt-leb _ 64 h)

-- THE TABLE

-- two rows of 64, of which the first n count; the search was made in the first n IDs
module _ (ks : List UniqueId) (rs : List Reading) (n : ℕ) (few : n ≤ 64) (keyed : length ks ≡ 64) (read : length rs ≡ 64) where
  level : length (take n ks) ≡ length (take n rs)
  level = length-take-le n ks (omega arith) ∙ sym (length-take-le n rs (omega arith))

  pub length-rows : length (take n (paired ks rs)) ≡ n
  length-rows = length-take-le n (paired ks rs) (omega (arith, length-paired ks rs 64 keyed read))

  -- the reading at a found place is written over
  pub replaced : (i : ℕ) (o : Occurrence) (r : Reading) → o.reading ≡ held r → First (take n ks) o.id i → take n (paired ks (set rs i r)) ≡ enter o (take n (paired ks rs))
  replaced i o r e f =
      let inside : i < n = let h = f.inside in omega (arith, length-take-le n ks (omega arith)) in
      let there : get_or ks i o.id ≡ o.id = sym (get_or-take n ks i o.id inside) ∙ f.here o.id in
      let same : set ks i o.id ≡ ks = ap (set ks i) (sym there) ∙ set-get_or ks i o.id in
      ap (λ (l : List UniqueId). take n (paired l (set rs i r))) (sym same)
      ∙ ap (take n) (paired-set ks rs i o.id r)
      ∙ ap (λ (b : Bytes). take n (set (paired ks rs) i (occurrence o.id b))) (sym e)
      ∙ take_set_in n (paired ks rs) i o
      ∙ ap (λ (l : List Occurrence). set l i o) (take-paired n ks rs)
      ∙ sym (enter-first o (take n ks) (take n rs) i level f)
      ∙ ap (enter o) (sym (take-paired n ks rs))

  -- an entry is added behind the others
  pub added : (o : Occurrence) (r : Reading) → o.reading ≡ held r → n < 64 → Nowhere (take n ks) o.id → take (n + 1) (paired (set ks n o.id) (set rs n r)) ≡ enter o (take n (paired ks rs))
  added o r e h f =
      ap (take (n + 1)) (paired-set ks rs n o.id r)
      ∙ ap (λ (b : Bytes). take (n + 1) (set (paired ks rs) n (occurrence o.id b))) (sym e)
      ∙ take_more_set (paired ks rs) n o (omega (arith, length-paired ks rs 64 keyed read))
      ∙ ap (λ (l : List Occurrence). l ++ (o ∷ [])) (take-paired n ks rs)
      ∙ sym (enter_nowhere o (take n ks) (take n rs) level f)
      ∙ ap (enter o) (sym (take-paired n ks rs))

  -- then there is one entry more
  pub more : (o : Occurrence) → Nowhere (take n ks) o.id → length (enter o (take n (paired ks rs))) ≡ n + 1
  more o f =
      ap (λ (l : List Occurrence). length (enter o l)) (take-paired n ks rs)
      ∙ ap length (enter_nowhere o (take n ks) (take n rs) level f)
      ∙ length_push (paired (take n ks) (take n rs)) o
      ∙ ap (λ (l : List Occurrence). length l + 1) (sym (take-paired n ks rs))
      ∙ ap (λ (k : ℕ). k + 1) length-rows

  -- the reading at a found place is the one that is entered
  pub seen : (i : ℕ) (u : UniqueId) (d : Reading) → First (take n ks) u i → find u (take n (paired ks rs)) ≡ Some (held (get_or rs i d))
  seen i u d f =
      let inside : i < n = let h = f.inside in omega (arith, length-take-le n ks (omega arith)) in
      ap (find u) (take-paired n ks rs) ∙ find_first u (take n ks) (take n rs) i d level f ∙ ap (λ (r : Reading). Some (held r)) (get_or-take n rs i d inside)

  -- what stands nowhere is not entered
  pub unseen : (u : UniqueId) → Nowhere (take n ks) u → find u (take n (paired ks rs)) ≡ None
  unseen u f = ap (find u) (take-paired n ks rs) ∙ find_nowhere u (take n ks) (take n rs) level f

-- a table has at most 64 entries
pub few-rows : (t : Table) → length (rows t) ≤ 64
unfolding rows
few-rows t = let h = length-rows t.keys t.readings t.len t.few t.keyed t.read in let k = t.few in omega arith

-- MERGING, STEP BY STEP

pub merge_step : (es os ls : List Occurrence) (o : Occurrence) → ls ≡ o ∷ os → merge es ls ≡ merge (enter o es) os
unfolding merge
merge_step es os ls o e = ap (merge es) e

pub merge_end : (es ls : List Occurrence) → ls ≡ [] → merge es ls ≡ es
unfolding merge
merge_end es ls e = ap (merge es) e

-- ENTRIES BY PLACE

at_take : (n : ℕ) (es : List Occurrence) (place : ℕ) → n ≤ place → at (take n es) place ≡ None
unfolding at
at_take zero es place h = refl
at_take (suc n) [] place h = refl
at_take (suc n) (e ∷ es) zero h = absurd (omega arith)
at_take (suc n) (e ∷ es) (suc place) h = at_take n es place (omega arith)

at-paired : (n : ℕ) (ks : List UniqueId) (rs : List Reading) (place : ℕ) (u : UniqueId) (r : Reading)
    → place < n → place < length ks → place < length rs → at (take n (paired ks rs)) place ≡ Some (occurrence (get_or ks place u) (held (get_or rs place r)))
unfolding at paired
at-paired zero ks rs place u r h i j = absurd (omega arith)
at-paired (suc n) [] rs place u r h i j = absurd (omega arith)
at-paired (suc n) (k ∷ ks) [] place u r h i j = absurd (omega arith)
at-paired (suc n) (k ∷ ks) (x ∷ rs) zero u r h i j = refl
at-paired (suc n) (k ∷ ks) (x ∷ rs) (suc place) u r h i j = at-paired n ks rs place u r (omega arith) (omega arith) (omega arith)

-- past the last entry there is none
pub no_row : (t : Table) (place : ℕ) → t.len ≤ place → at (rows t) place ≡ None
unfolding rows
no_row t place h = at_take t.len (paired t.keys t.readings) place h

-- an entry is the unique ID and the reading at its place
pub row_at : (t : Table) (place : ℕ) (u : UniqueId) (r : Reading) → place < t.len → at (rows t) place ≡ Some (occurrence (get_or t.keys place u) (held (get_or t.readings place r)))
unfolding rows
row_at t place u r h =
    let few = t.few in
    let keyed = t.keyed in
    let read = t.read in
    at-paired t.len t.keys t.readings place u r h (omega arith) (omega arith)
