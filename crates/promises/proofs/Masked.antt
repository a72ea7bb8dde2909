-- Event messages that differ in the generation alone have the same length, and are the same when masked. Assumes nothing.
use Rattle.std.proofs.Common.{◌≡◌, ℕ, ◌+◌, ◌%◌, ◌<◌, ◌++◌, length, set, sym, refl, ap, ◌∙◌, ap₂, arith}
use Rattle.event.specs.Bytes.{Bytes, byte}
use Rattle.list.specs.Lists.{Told, these, overflow, list_bytes}
use Rattle.wire.specs.Checks.{checked, unchecked}
use Rattle.wire.specs.Messages.{event_head, event_message}
use Rattle.wire.proofs.Buffers.{length-checked}
use Rattle.wire.proofs.Frames.{unchecked_of}
use Rattle.protocol.specs.Endpoint.{transmission}
use Rattle.protocol.specs.Masking.{masked}

-- all of an event message but its check word
abbrev headed : (t : ℕ) → Told → Bytes
headed t T = event_head ++ list_bytes t T

transmitted : (t : ℕ) (T : Told) → byte (event_message t T) 10 ≡ t
unfolding event_message checked list_bytes
transmitted t overflow = refl
transmitted t (these os) = refl

transmitting : (t x : ℕ) (T : Told) → set (headed t T) 10 x ≡ headed x T
unfolding list_bytes
transmitting t x overflow = refl
transmitting t x (these os) = refl

masked-is : (t : ℕ) (T : Told) → masked (event_message t T) ≡ set (unchecked (event_message t T)) 10 (byte (event_message t T) 10 % 8)
unfolding masked event_message checked
masked-is t T = refl

before_check : (t : ℕ) (T : Told) → unchecked (event_message t T) ≡ headed t T
unfolding event_message
before_check t T = unchecked_of (headed t T)

low_bits : (g n b : ℕ) → n < 8 → b ≡ transmission g n → b % 8 ≡ n
low_bits g n b few e = omega arith

-- what stays of an event message
masked-event : (g n : ℕ) (T : Told) → n < 8 → masked (event_message (transmission g n) T) ≡ headed n T
masked-event g n T few =
    let t = transmission g n in
    masked-is t T
    ∙ ap₂ (λ (x : Bytes) (y : ℕ). set x 10 y) (before_check t T) (low_bits g n (byte (event_message t T) 10) few (transmitted t T))
    ∙ transmitting t n T

event-length : (t : ℕ) (T : Told) → length (event_message t T) ≡ length (headed 0 T) + 4
unfolding event_message list_bytes
event-length t T = length-checked (headed t T) ∙ ap (λ (x : ℕ). x + 4) (same T)
  where
    same : (T : Told) → length (headed t T) ≡ length (headed 0 T)
    same overflow = refl
    same (these os) = refl

pub same_length : (t t' : ℕ) (T : Told) → length (event_message t T) ≡ length (event_message t' T)
same_length t t' T = event-length t T ∙ sym (event-length t' T)

pub same_masked : (g g' n : ℕ) (T : Told) → n < 8 → masked (event_message (transmission g n) T) ≡ masked (event_message (transmission g' n) T)
same_masked g g' n T few = masked-event g n T few ∙ sym (masked-event g' n T few)
