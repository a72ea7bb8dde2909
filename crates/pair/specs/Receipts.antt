-- The receipt under way: it is that of the request which the book awaits. Assumes nothing.
use Rattle.std.specs.Prelude.{◌≡◌, ℕ, Bool, true, false, Some, None, Ok, Err, Option, Result}
use Rattle.event.specs.declared.refusal.Refusal.{Refusal}
use Rattle.event.specs.Bytes.{Bytes}
use Rattle.wire.specs.declared.types.Kind.{Kind}
use Rattle.protocol.specs.declared.types.Phase.{Phase}
use Rattle.protocol.specs.declared.types.Phase.TheVariants.{Blind, Settled, Holding, Waiting}
use Rattle.protocol.specs.Book.{Book, BookTurn, same_kind, take_answer, give_up}
use Rattle.book.specs.declared.parts.Receipt.{Receipt}

-- is the receipt, if there is one, of the request that is awaited, if one is?
abbrev pub tied : Option Receipt → Phase → Bool
tied None Blind = true
tied None Settled = true
tied None Holding = true
tied None (Waiting kind) = false
tied (Some r) Blind = false
tied (Some r) Settled = false
tied (Some r) Holding = false
tied (Some r) (Waiting kind) = same_kind kind r.kind

-- the kind of the request that is awaited
abbrev pub awaited : Phase → Option Kind
awaited Blind = None
awaited Settled = None
awaited Holding = None
awaited (Waiting kind) = Some kind

-- a request that was written finds no receipt under way
abbrev pub Fills : Result (ℕ × Receipt) Refusal → Option Receipt → Type 0
Fills (Ok w) held = held ≡ None
Fills (Err r) held = Unit {0}

-- how many bytes were written, or the refusal
abbrev pub counted : Result (ℕ × Receipt) Refusal → Result ℕ Refusal
counted (Ok w) = Ok w.0
counted (Err r) = Err r

-- the receipt under way after a request was written, or refused
abbrev pub filled : Result (ℕ × Receipt) Refusal → Option Receipt → Option Receipt
filled (Ok w) held = Some w.1
filled (Err r) held = held

-- the turn of an answer, if a request is awaited
abbrev pub with_answer : Option Kind → Bytes → Book → Option BookTurn
with_answer None bytes k = None
with_answer (Some kind) bytes k = Some (take_answer kind bytes k)

-- the turn of a giving up, if a request is awaited
abbrev pub without_answer : Option Kind → Book → Option BookTurn
without_answer None k = None
without_answer (Some kind) k = Some (give_up kind k)

-- the book after a turn, if there is one
abbrev pub book_after : Option BookTurn → Book → Book
book_after None k = k
book_after (Some t) k = t.book

-- what is handed back of a turn, if there is one
abbrev pub result_of : Option BookTurn → Option (Result ℕ Refusal)
result_of None = None
result_of (Some t) = Some t.outcome.result

-- a call that spends a receipt does the turn, if there is one
pub record SpendsIf (t : Option BookTurn) (before after : Book) (r : Option (Result ℕ Refusal)) : Type 0 where
  pub book : after ≡ book_after t before
  pub result : r ≡ result_of t
