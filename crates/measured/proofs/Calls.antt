-- Runs, one more call at a time. Assumes nothing.
use Rattle.std.proofs.Common.{◌≡◌, ℕ, ◌+◌, ◌<◌, ◌≤◌, List, length, get_or, drop, Result, sym, ap}
use Rattle.std.proofs.lemmas.List.{drop_more, drop_all}
use Rattle.event.specs.declared.refusal.Refusal.{Refusal}
use Rattle.event.specs.Bytes.{Bytes}
use Rattle.event.specs.Outcomes.{Outcome, Gives}
use Rattle.event.specs.Sources.{Occurrence}
use Rattle.board.specs.Boards.{Sources}
use Rattle.wire.specs.Writing.{writes_event}
use Rattle.carrier.specs.Carriers.{Line, after_put}
use Rattle.protocol.specs.Endpoint.{Endpoint, Turn}
use Rattle.endpoint.specs.View.{Turned}
use Rattle.measured.specs.Rounds.{Round, message_of, picked, rounds}
use Rattle.measured.specs.Runs.{Run, run, after, writes, step, goes_on, steps}

pub ran : (o : Outcome) (before filled : Bytes) (r : Result ℕ Refusal) → Gives o before filled r → run r filled ≡ after o before
ran o before filled r g = λ i. run (g.result i) (g.buffer i)

pub write_more : (os : List Occurrence) (ts : List ℕ) (i : ℕ) (last : Result ℕ Refusal) (buffer : Bytes) → i < length ts → writes os (drop (i + 1) ts) (after (writes_event (length buffer) (get_or ts i 0) os) buffer) ≡ writes os (drop i ts) (run last buffer)
unfolding writes
write_more os ts i last buffer h = ap (λ (l : List ℕ). writes os l (run last buffer)) (sym (drop_more ts i 0 h))

pub write_end : (os : List Occurrence) (ts : List ℕ) (i : ℕ) (r : Run) → length ts ≤ i → r ≡ writes os (drop i ts) r
unfolding writes
write_end os ts i r h = ap (λ (l : List ℕ). writes os l r) (sym (drop_all i ts h))

module _ (board : Sources) (message : Bytes) where
  pub turned : (ns : List ℕ) (t : Turn) (line : Line) (e : Endpoint) (buffer filled : Bytes) (r : Result ℕ Refusal) → Turned t e line buffer filled r
      → steps board message ns line e (run r filled) ≡ goes_on (steps board message ns) t buffer
  turned ns t line e buffer filled r h = λ i. steps board message ns (h.left.carrier i) (h.left.endpoint i) (run (h.outcome.result i) (h.outcome.buffer i))

  pub step_more : (ns : List ℕ) (i : ℕ) (line : Line) (e : Endpoint) (last : Result ℕ Refusal) (buffer : Bytes) → i < length ns
      → goes_on (steps board message (drop (i + 1) ns)) (step board message (get_or ns i 0) (length buffer) line e) buffer ≡ steps board message (drop i ns) line e (run last buffer)
  unfolding steps
  step_more ns i line e last buffer h = ap (λ (l : List ℕ). steps board message l line e (run last buffer)) (sym (drop_more ns i 0 h))

  pub step_end : (ns : List ℕ) (i : ℕ) (line : Line) (e : Endpoint) (r : Run) → length ns ≤ i → r ≡ steps board message (drop i ns) line e r
  unfolding steps
  step_end ns i line e r h = ap (λ (l : List ℕ). steps board message l line e r) (sym (drop_all i ns h))

module _ (even odd answer : Bytes) where
  pub round_more : (ns : List ℕ) (i : ℕ) (line : Line) (r : Round) → i < length ns
      → rounds even odd answer (drop (i + 1) ns) (after_put line 0 (message_of even odd (get_or ns i 0))) (picked answer (after_put line 0 (message_of even odd (get_or ns i 0))) r)
      ≡ rounds even odd answer (drop i ns) line r
  unfolding rounds
  round_more ns i line r h = ap (λ (l : List ℕ). rounds even odd answer l line r) (sym (drop_more ns i 0 h))

  pub round_end : (ns : List ℕ) (i : ℕ) (line : Line) (r : Round) → length ns ≤ i → r ≡ rounds even odd answer (drop i ns) line r
  unfolding rounds
  round_end ns i line r h = ap (λ (l : List ℕ). rounds even odd answer l line r) (sym (drop_all i ns h))
