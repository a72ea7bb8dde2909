-- What the code's endpoint stands for, and what its calls leave. Assumes nothing.
use Rattle.std.specs.Prelude.{◌≡◌, ℕ, Result}
use Rattle.event.specs.declared.refusal.Refusal.{Refusal}
use Rattle.event.specs.Bytes.{Bytes}
use Rattle.event.specs.Outcomes.{Gives}
use Rattle.event.specs.Sources.{ids}
use Rattle.board.specs.Boards.{Sources, at, after_set}
use Rattle.marks.specs.View.{marks_of}
use Rattle.carrier.specs.Carriers.{Line}
use Rattle.protocol.specs.Endpoint.{Endpoint, endpoint_of, Turn, change, change_outcome}
use Rattle.endpoint.specs.declared.types.Endpoint.{Endpoint as Kept}

-- the endpoint of the definitions that the code's stands for
abbrev pub as_endpoint : Kept → Endpoint
as_endpoint e = endpoint_of e.state e.enabled e.delays.first.0 e.delays.retry.0 (marks_of e.prior) (marks_of e.since) e.generation e.destination e.failure

-- a call left the endpoint and its carrier as the turn says
pub record Left (t : Turn) (after : Endpoint) (line : Line) : Type 0 where
  pub endpoint : after ≡ t.endpoint
  pub carrier : line ≡ t.line

-- and it handed back the turn's result and left the turn's bytes in its buffer
pub record Turned (t : Turn) (after : Endpoint) (line : Line) (buffer filled : Bytes) (r : Result ℕ Refusal) : Type 0 where
  pub left : Left t after line
  pub outcome : Gives t.outcome buffer filled r

-- a change of a source left its result, the endpoint and the board
pub record Changed (sources : Sources) (place : ℕ) (reading : Bytes) (before after : Endpoint) (told : Sources) (r : Result ℕ Refusal) : Type 0 where
  pub result : r ≡ (change_outcome (at (ids sources) place) reading).result
  pub endpoint : after ≡ change (at (ids sources) place) place reading before
  pub board : told ≡ after_set sources place reading
