-- Of more than 64 rows or items the first 65 are refused as all of them are. Assumes nothing.
use Rattle.std.proofs.Common.{◌≡◌, ℕ, ◌<◌, ◌≤◌, min, Bool, true, false, cond, leb, nat_le, ◌⊎◌, List, length, take, Some, sym, refl, ap, ◌∙◌, inl, inr, arith, Err, Option}
use Rattle.std.proofs.lemmas.List.{take_all, take_min, length-take}
use Rattle.std.proofs.lemmas.Bool.Decides.{nat_tests, leb_tells}
use Rattle.event.specs.Bytes.{within}
use Rattle.event.specs.Outcomes.{refusal, unless}
use Rattle.event.specs.Sources.{Occurrence}
use Rattle.event.specs.declared.refusal.Refusal.{Refusal}
use Rattle.event.specs.declared.refusal.Refusal.TheVariants.{RowCount, ItemCount, RequestBufferShort}
use Rattle.board.specs.Tables.{row_refusal, board_of}
use Rattle.wire.specs.Writing.{writes_sync}
use Rattle.wire.specs.Requests.{request_message}
use Rattle.wire.specs.declared.types.Item.{Item}

-- a loop over the first 65 that has ended has come to all of them
pub ended : {A : Type 0} (xs : List A) (n i : ℕ) → n ≡ min (length xs) 65 → length (take n xs) ≤ i → take i (take n xs) ≡ take 65 xs
ended xs n i e h = take_all i (take n xs) h ∙ ap (λ (k : ℕ). take k xs) (e ∙ omega arith) ∙ take_min 65 xs

many : {A : Type 0} (xs : List A) → 64 < length xs → within 1 64 (length xs) ≡ false
many xs h = grind (arith, nat_tests)

many-firsts : {A : Type 0} (xs : List A) → 64 < length xs → within 1 64 (length (take 65 xs)) ≡ false
many-firsts xs h = many (take 65 xs) (omega (arith, length-take 65 xs))

refused : (rows : List Occurrence) → within 1 64 (length rows) ≡ false → row_refusal rows ≡ Some RowCount
unfolding row_refusal
refused rows e = rw e refl

pub too_many : (rows : List Occurrence) → 64 < length rows → board_of (row_refusal rows) rows ≡ Err RowCount
too_many rows h = ap (λ (r : Option Refusal). board_of r rows) (refused rows (many rows h))

sync_many : (room delay retry : ℕ) (items : List Item) → within 1 64 (length items) ≡ false → writes_sync room items delay retry ≡ cond (nat_le 217 room) (refusal ItemCount) (refusal RequestBufferShort)
sync_many room delay retry items e = rw e (go (nat_le 217 room))
  where
    go : (b : Bool) → unless (cond b (Some ItemCount) (Some RequestBufferShort)) (request_message delay retry items) ≡ cond b (refusal ItemCount) (refusal RequestBufferShort)
    go true = refl
    go false = refl

pub sync_firsts : (room delay retry : ℕ) (items : List Item) → writes_sync room (take 65 items) delay retry ≡ writes_sync room items delay retry
sync_firsts room delay retry items = go (leb_tells (length items) 64)
  where
    go : ((leb (length items) 64 ≡ true) × (length items ≤ 64)) ⊎ ((leb (length items) 64 ≡ false) × (64 < length items)) → writes_sync room (take 65 items) delay retry ≡ writes_sync room items delay retry
    go (inl t) = ap (λ (is : List Item). writes_sync room is delay retry) (take_all 65 items (omega arith))
    go (inr t) = sync_many room delay retry (take 65 items) (many-firsts items t.1) ∙ sym (sync_many room delay retry items (many items t.1))
