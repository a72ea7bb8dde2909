-- The calls of a pair that are more than one call of a part. Assumes nothing.
use Rattle.std.proofs.Common.{◌≡◌, ℕ, Bool, true, false, cond, [], Some, None, Ok, Err, Option, Result, sym, refl, ap, ◌∙◌, subst}
use Rattle.event.specs.declared.refusal.Refusal.{Refusal}
use Rattle.event.specs.declared.refusal.Refusal.TheVariants.{NoneAwaited}
use Rattle.event.specs.Bytes.{Bytes}
use Rattle.event.specs.Outcomes.{refusal, over_front}
use Rattle.wire.specs.declared.types.Kind.{Kind}
use Rattle.wire.specs.Messages.{Answer, read_answer}
use Rattle.protocol.specs.Book.{Book, BookTurn, book_turn, awaits, answer_read}
use Rattle.protocol.specs.Pair.{Pair, pair_of, Call}
use Rattle.book.specs.declared.parts.Receipt.{Receipt}
use Rattle.book.specs.Turns.{Writes, Does, with_receipt}
use Rattle.book.specs.View.{handed}
use Rattle.pair.specs.Receipts.{counted, with_answer, SpendsIf}
use Rattle.pair.specs.View.{Steps, answer_if}

-- a count, without the receipt
abbrev bare : Result (ℕ × Kind) Refusal → Result ℕ Refusal
bare (Ok w) = Ok w.0
bare (Err r) = Err r

counted_bare : (w : Result (ℕ × Receipt) Refusal) → counted w ≡ bare (handed w)
counted_bare (Ok w) = refl
counted_bare (Err r) = refl

bare_receipt : (kind : Kind) (x : Result ℕ Refusal) → bare (with_receipt kind x) ≡ x
bare_receipt kind (Ok n) = refl
bare_receipt kind (Err r) = refl

-- a request that is written, its receipt kept
pub writes_does : (kind : Kind) (t : BookTurn) (k : Book) (before after : Bytes) (w : Result (ℕ × Receipt) Refusal) (r : Result ℕ Refusal)
    → Writes kind t k before after w → r ≡ counted w → Does t k before after r
writes_does kind t k before after w r written e = record {
  book = written.book;
  result = e ∙ counted_bare w ∙ ap bare written.result ∙ bare_receipt kind t.outcome.result;
  buffer = written.buffer;
}

-- a call by another name
pub steps_as : (p : Pair) (c d : Option Call) (after : Pair) (before filled : Bytes) (r : Option (Result ℕ Refusal)) → c ≡ d
    → Steps p d after before filled r → Steps p c after before filled r
steps_as p c d after before filled r e s = subst (λ (x : Option Call). Steps p x after before filled r) (sym e) s

-- an answer that is taken or refused writes nothing
answer_quiet : (waits : Bool) (read : Option Answer) (kind : Kind) (k : Book) → (cond waits (answer_read kind read k) (book_turn k (refusal NoneAwaited))).outcome.written ≡ []
answer_quiet true None kind k = refl
answer_quiet true (Some a) kind k = refl
answer_quiet false read kind k = refl

-- an answer, with the receipt under way or without one
pub answer_steps : (p : Pair) (kind : Option Kind) (bytes : Bytes) (after : Book) (buffer : Bytes) (r : Option (Result ℕ Refusal))
    → SpendsIf (with_answer kind bytes p.book) p.book after r → Steps p (answer_if kind bytes) (pair_of p.endpoint p.line p.board after) buffer buffer r
answer_steps p None bytes after buffer r s = record { pair = ap (pair_of p.endpoint p.line p.board) s.book; result = s.result; buffer = refl }
answer_steps p (Some kind) bytes after buffer r s = record {
  pair = ap (pair_of p.endpoint p.line p.board) s.book;
  result = s.result;
  buffer = sym (ap (λ (written : Bytes). over_front written buffer) (answer_quiet (awaits kind p.book.phase) (read_answer bytes) kind p.book));
}
