-- Requests that the book writes are accepted, and read as they were meant. Assumes nothing.
use Rattle.std.proofs.Common.{◌≡◌, ℕ, ◌+◌, ◌-◌, ◌/◌, ◌%◌, ◌≤◌, Bool, true, false, cond, ◌&&◌, eqb, leb, List, [], ◌∷◌, ◌++◌, length, Some, None, Ok, refl, ap, ◌∙◌, ap₂, arith}
use lib.Dec.{eqb-suc-zero}
use Rattle.std.proofs.lemmas.List.{take_at}
use Rattle.std.proofs.lemmas.Bool.{and_from, le-leb}
use Rattle.crc.specs.Crc.{crc32c}
use Rattle.event.specs.Bytes.{Bytes, byte, le32}
use Rattle.event.specs.Refusals.{Question, first_no}
use Rattle.wire.specs.declared.types.Item.{Item}
use Rattle.wire.specs.Checks.{checked, is_checked}
use Rattle.wire.specs.Messages.{slot_of}
use Rattle.wire.specs.declared.types.Kind.{Kind}
use Rattle.wire.specs.declared.types.Kind.TheVariants.{Sync as sync, Ack as ack}
use Rattle.wire.specs.Requests.{Sync, Ack, items_bytes, enable_list, request_head, request_message, item_count, total_length, header_length, items_part, items_fit, items_in, kind_of, request_as, request_of, read_as, read_request, request_questions, request_refusal}
use Rattle.wire.specs.Laws.{SyncsReadBack, AcksReadBack}
use Rattle.wire.proofs.Buffers.{length-checked}
use Rattle.wire.proofs.Frames.{checked-is}
use Rattle.wire.proofs.ItemLists.{length-items}

items-fit : (items : List Item) → items_fit (length items) (items_bytes items) ≡ true
unfolding items_fit items_bytes
items-fit [] = refl
items-fit (i ∷ is) = and_from _ _ (le-leb 3 (length (items_bytes (i ∷ is))) (let h = length-items is in omega arith)) (items-fit is)

switch : (on : Bool) → leb 0x80 (cond on 0x80 0) ≡ on
switch true = refl
switch false = refl

items_back : (items : List Item) → items_in (length items) (items_bytes items) ≡ items
unfolding items_in items_bytes
items_back [] = refl
items_back (i ∷ is) =
    let there = le-leb 3 (length (items_bytes (i ∷ is))) (let h = length-items is in omega arith) in
    let a = switch i.on in
    let b = items_back is in
    ap (λ (v : Bool). cond v (record { identifier = i.identifier; on = leb 0x80 (cond i.on 0x80 0) } ∷ items_in (length is) (items_bytes is)) []) there
    ∙ (λ k. record { identifier = i.identifier; on = a k } ∷ b k)

-- every question is answered yes
abbrev AllYes : List Question → Type 0
AllYes [] = Unit {0}
AllYes (q ∷ qs) = (q.holds ≡ true) × AllYes qs

all_yes : (qs : List Question) → AllYes qs → first_no qs ≡ None
all_yes [] x = refl
all_yes (q ∷ qs) x = ap (λ v. cond v (first_no qs) (Some q.otherwise)) x.0 ∙ all_yes qs x.1

module _ (delay retry : ℕ) (items : List Item) (few : length items ≤ 64) where
  abbrev bytes : Bytes
  bytes = request_message delay retry items

  abbrev n : ℕ
  n = length (items_bytes items)

  abbrev whole : Bytes
  whole = request_head delay retry ++ enable_list items

  long : length bytes ≡ 25 + n
  unfolding request_message
  long = let h = length-checked whole in omega arith

  total : total_length bytes ≡ 5 + n
  unfolding request_message checked
  total = let h = length-items items in omega arith

  header : header_length bytes ≡ 5
  unfolding request_message checked
  header = refl

  part : items_part bytes ≡ items_bytes items
  unfolding request_message checked
  part = take_at (items_bytes items) (le32 (crc32c whole)) (total_length bytes - 5) (let h = total in omega arith)

  counted : item_count bytes ≡ length items
  unfolding request_message checked
  counted = refl

  kind_right : (eqb (byte bytes 1 / 8) 1 && (eqb (byte bytes 4) 0x03 && eqb (byte bytes 8) 0x04)) ≡ true
  unfolding request_message checked
  kind_right = refl

  flags_right : eqb (byte bytes 2 % 4) 0 ≡ true
  unfolding request_message checked
  flags_right = refl

  type_right : eqb (byte bytes 0) 0x84 ≡ true
  unfolding request_message checked
  type_right = refl

  check_right : is_checked bytes ≡ true
  unfolding request_message
  check_right = checked-is whole

  bounds : n ≤ 192
  bounds = let h = length-items items in omega arith

  pub accepted : request_refusal bytes ≡ None
  unfolding request_refusal
  accepted =
      let l = long in
      let t = total in
      let h = header in
      let b = bounds in
      let lengths = and_from _ _ (le-leb 5 (header_length bytes) (omega arith))
      (and_from _ _ (le-leb (header_length bytes) (total_length bytes) (omega arith)) (le-leb (total_length bytes) (length bytes - 20) (omega arith))) in
      let room = and_from _ _ (le-leb 25 (length bytes) (omega arith)) (le-leb (length bytes) 4224 (omega arith)) in
      let fits : AllYes (request_questions bytes) =
      (room, (type_right, (check_right, (kind_right, (flags_right, (lengths, (le-leb (total_length bytes - header_length bytes) 4096 (omega arith), (ap₂ items_fit counted part ∙ items-fit items, tt)))))))) in
      all_yes (request_questions bytes) fits

  delays : (byte bytes 10 ≡ delay) × (byte bytes 9 ≡ retry) × (slot_of bytes ≡ false)
  unfolding request_message checked
  delays = (refl, refl, refl)

  pub as_sync : kind_of bytes ≡ sync → request_of bytes ≡ Sync false items delay retry
  as_sync k =
      let is = ap₂ items_in counted part ∙ items_back items in
      ap (λ (x : Kind). request_as x bytes) k ∙ (λ i. Sync (delays.2 i) (is i) (delays.0 i) (delays.1 i))

-- a request with items is a sync
pub kind-of : (delay retry : ℕ) (items : List Item) → 1 ≤ length items → kind_of (request_message delay retry items) ≡ sync
unfolding kind_of request_message checked
kind-of delay retry [] h = absurd (omega arith)
kind-of delay retry (i ∷ is) h = ap (λ v. cond v ack sync) (eqb-suc-zero (length is))

-- one without items is an ack
pub kind_of_none : kind_of (request_message 0 0 []) ≡ ack
unfolding kind_of request_message checked
kind_of_none = refl

pub as_ack : request_of (request_message 0 0 []) ≡ Ack false
as_ack = ap (λ (x : Kind). request_as x (request_message 0 0 [])) kind_of_none ∙ ap Ack (delays 0 0 [] (omega arith)).2

pub syncs_read_back : SyncsReadBack
unfolding read_request
syncs_read_back items delay retry one few =
    ap (λ r. read_as r (request_message delay retry items)) (accepted delay retry items few) ∙ ap Ok (as_sync delay retry items few (kind-of delay retry items one))

pub acks_read_back : AcksReadBack
unfolding read_request
acks_read_back = ap (λ r. read_as r (request_message 0 0 [])) (accepted 0 0 [] (omega arith)) ∙ ap Ok as_ack
