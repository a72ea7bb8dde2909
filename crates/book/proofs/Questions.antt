-- Questions that were asked before others, and requests that they refuse. Assumes nothing.
use Rattle.std.proofs.Common.{◌≡◌, ℕ, Bool, true, false, List, [], ◌∷◌, ◌++◌, Some, None, Ok, Err, Option, sym, refl, ap}
use Rattle.event.specs.declared.refusal.Refusal.{Refusal}
use Rattle.event.specs.Bytes.{Bytes}
use Rattle.event.specs.Outcomes.{Gives, unless}
use Rattle.event.specs.Refusals.{Question, ask, first_no}
use Rattle.board.specs.Changes.{handed_back}
use Rattle.wire.specs.declared.types.Kind.{Kind}
use Rattle.protocol.specs.declared.types.Phase.TheVariants.{Waiting}
use Rattle.protocol.specs.Book.{Book, in_phase, writes}
use Rattle.book.specs.Turns.{Writes}

-- a call that is not refused was asked nothing that is answered no
pub all_asked : (q : Option Refusal) → Ok tt ≡ handed_back q → None ≡ q
all_asked None e = refl
all_asked (Some r) e = absurd (cc)

-- a refusal that a call hands back is the first no
pub asked_no : (q : Option Refusal) (r : Refusal) → Err r ≡ handed_back q → Some r ≡ q
asked_no None r e = absurd (cc)
asked_no (Some s) r e = cc

-- questions that are all answered yes leave the refusal to those behind them
pub all_yes : (qs rs : List Question) → None ≡ first_no qs → first_no (qs ++ rs) ≡ first_no rs
all_yes [] rs e = refl
all_yes (q ∷ qs) rs e = go q.holds e (all_yes qs rs)
  where
    go : (b : Bool) → None ≡ first_no (ask b q.otherwise ∷ qs) → (None ≡ first_no qs → first_no (qs ++ rs) ≡ first_no rs) → first_no (ask b q.otherwise ∷ (qs ++ rs)) ≡ first_no rs
    go true e later = later e
    go false e later = absurd (cc)

-- a no is the refusal, whatever is asked behind it
pub one_no : (qs rs : List Question) (r : Refusal) → Some r ≡ first_no qs → first_no (qs ++ rs) ≡ Some r
one_no [] rs r e = absurd (cc)
one_no (q ∷ qs) rs r e = go q.holds e (one_no qs rs r)
  where
    go : (b : Bool) → Some r ≡ first_no (ask b q.otherwise ∷ qs) → (Some r ≡ first_no qs → first_no (qs ++ rs) ≡ Some r) → first_no (ask b q.otherwise ∷ (qs ++ rs)) ≡ Some r
    go true e later = later e
    go false e later = sym e

-- a question that was answered yes can be left out
pub yes_between : (a b : Bool) (x y : Refusal) (rest : List Question) → None ≡ first_no (ask a x ∷ ask b y ∷ []) → first_no (ask a x ∷ rest) ≡ first_no (ask a x ∷ ask b y ∷ rest)
yes_between true true x y rest e = refl
yes_between true false x y rest e = absurd (cc)
yes_between false b x y rest e = refl

-- a request that is refused before it is written
pub not_written : (kind : Kind) (q : Option Refusal) (bytes : Bytes) (k : Book) (buffer : Bytes) (r : Refusal)
    → q ≡ Some r → Writes kind (writes q kind bytes k) k buffer buffer (Err r)
not_written kind None bytes k buffer r e = absurd (cc)
not_written kind (Some s) bytes k buffer r e = let same : s ≡ r = cc in record { book = refl; result = ap (λ (x : Refusal). Err x) (sym same); buffer = refl }

-- a request that its writer refuses
pub writer_refuses : (kind : Kind) (q : Option Refusal) (bytes : Bytes) (k : Book) (before after : Bytes) (r : Refusal)
    → Gives (unless q bytes) before after (Err r) → Writes kind (writes q kind bytes k) k before after (Err r)
writer_refuses kind None bytes k before after r g = let e = g.result in absurd (cc)
writer_refuses kind (Some s) bytes k before after r g =
    let e = g.result in
    let same : r ≡ s = cc in
    record { book = refl; result = ap (λ (x : Refusal). Err x) same; buffer = g.buffer }

-- a request that is written
pub written : (kind : Kind) (q : Option Refusal) (bytes : Bytes) (k later : Book) (before after : Bytes) (n : ℕ)
    → later ≡ in_phase (Waiting kind) k → Gives (unless q bytes) before after (Ok n) → Writes kind (writes q kind bytes k) later before after (Ok (n, record { kind = kind }))
written kind None bytes k later before after n waits g = let e = g.result in record { book = waits; result = cc; buffer = g.buffer }
written kind (Some s) bytes k later before after n waits g = let e = g.result in absurd (cc)
